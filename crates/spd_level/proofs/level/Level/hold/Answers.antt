use Rattle.std.proofs.Common.{◌∙◌, ap}
use Rattle.spd_level.proofs.Turns.{async_goes_in}
use Rattle.spd_level.proofs.level.Level.hold.Goals as goal

pub returns-clause-left : goal.returns-clause-left
returns-clause-left c context =
    async_goes_in context c.args.self.now (record { flow = c.args.self.now.flow; vars = c.replace-saved.new.dest; frames = c.push-2.new.self })
    c.args.body c.args.left c.replace-saved.result
    (ap (λ v. v.items) c.replace-saved.ensures.value) c.requires (ap (λ v. v.items) c.replace-saved.ensures.after ∙ c.in_ok-vars.ensures)
    (rw c.in_ok-push.ensures.items at c.in_ok-push-2.ensures.items)
