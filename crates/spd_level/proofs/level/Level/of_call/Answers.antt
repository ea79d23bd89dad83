use Rattle.std.proofs.Common.{refl}
use Rattle.spd_level.proofs.Begun.{call_begun}
use Rattle.spd_level.specs.declared.frame.Flow.TheVariants as flow
use Rattle.spd_level.proofs.level.Level.of_call.Goals as goal

pub returns-clause-left : goal.returns-clause-left
returns-clause-left c context =
    call_begun context (record { flow = flow.Fell; vars = c.in_ok-vars.vars; frames = c.push-2.new.self })
    c.args.left c.args.item.now _ c.args.args.items refl refl c.in_ok-vars.ensures
    (rw (c.in_ok-push.ensures.items, c.new-frames.ensures.items) at c.in_ok-push-2.ensures.items)
