use Rattle.std.proofs.Common.{◌≤◌}
use Rattle.spd_rule.specs.Shares.{IsOf}
use Rattle.spd_rule_tests.proofs.tests.interleave.Given as goal

abbrev pub invariant-loop-step : goal.invariant-loop-step
invariant-loop-step g l = IsOf l.field l.left.share × IsOf l.field l.right.share × (l.at_right ≤ l.step) × (l.woken ≤ l.step)
