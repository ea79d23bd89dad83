use Rattle.std.proofs.Common.{◌≡◌}
use Rattle.spd_ready_tests.proofs.lists.take_all.Given as goal

abbrev pub invariant-loop-take : goal.invariant-loop-take
invariant-loop-take g l =
    (g.Q.Ready.pushed l.ready ≡ g.Q.Ready.pushed l.fn.ready) × (g.Q.Ready.room l.ready ≡ g.Q.Ready.room l.fn.ready)
