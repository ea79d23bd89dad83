-- One argument more is gathered.
use Rattle.spd_process.proofs.Gathering.{with_next}
use Rattle.spd_process.proofs.arguments.all_arguments.Goals as goal

pub loop-number-preserved : goal.loop-number-preserved
loop-number-preserved g c =
    let at = rw c.in-Some.is at c.in_ok-argument.ensures in
    rw c.in_ok-push.ensures.ok (with_next (g.A.Arguments.told c.args.arguments.now) c.loop-number.all c.loop-number.number c.in-Some.argument c.loop-number.invariant at)
