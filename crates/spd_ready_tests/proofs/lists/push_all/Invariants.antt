use Rattle.std.proofs.Common.{◌≡◌, ◌+◌}
use Rattle.spd_ready_tests.proofs.lists.push_all.Given as goal

abbrev pub invariant-loop-vertex : goal.invariant-loop-vertex
invariant-loop-vertex g l =
    (g.Q.Ready.pushed l.ready ≡ g.Q.Ready.pushed l.fn.ready + l.vertex-index)
    × (g.Q.Ready.room l.ready ≡ g.Q.Ready.room l.fn.ready)
