use Rattle.std.proofs.Common.{◌≡◌, ◌+◌}
use Rattle.spd_ready_tests.proofs.threads.hand_on_all.Given as goal

abbrev pub invariant-loop-step : goal.invariant-loop-step
invariant-loop-step g l =
    (g.Q.Ready.pushed l.ready ≡ g.Q.Ready.pushed l.fn.ready + l.step)
    × (g.Q.Ready.room l.ready ≡ g.Q.Ready.room l.fn.ready)
