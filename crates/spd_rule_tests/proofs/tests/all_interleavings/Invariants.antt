use Rattle.std.proofs.Common.{◌≤◌}
use Rattle.spd_rule_tests.proofs.tests.all_interleavings.Given as goal

abbrev pub invariant-loop-order : goal.invariant-loop-order
invariant-loop-order g l = l.played ≤ l.order
