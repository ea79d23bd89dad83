use Rattle.std.proofs.Common.{◌∙◌, refl, ap}
use Rattle.spd_level.proofs.Turns.{call_goes}
use Rattle.spd_level.proofs.level.Level.go_in.Goals as goal

pub returns-clause-left : goal.returns-clause-left
returns-clause-left c context =
    call_goes context c.args.self.now (record { flow = c.args.self.now.flow; vars = c.replace-saved.new.dest; frames = c.push-2.new.self })
    c.args.call _ c.replace-saved.result
    refl (ap (λ v. v.items) c.replace-saved.ensures.value) c.requires (rw c.in_ok-push.ensures.items at c.in_ok-push-2.ensures.items)
    (ap (λ v. v.items) c.replace-saved.ensures.after ∙ c.in_ok-args.ensures)
