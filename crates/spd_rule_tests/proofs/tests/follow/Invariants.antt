use Rattle.std.proofs.Common.{◌≤◌}
use Rattle.spd_rule.specs.Shares.{IsOf}
use Rattle.spd_rule_tests.proofs.tests.follow.Given as goal

abbrev pub invariant-loop-step : goal.invariant-loop-step
invariant-loop-step g l = IsOf l.field l.player.share × (l.at ≤ l.step) × (l.woken ≤ l.step)
