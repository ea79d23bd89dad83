use Rattle.spd_rule.specs.Shares.{IsOf}
use Rattle.spd_rule_tests.proofs.tests.the_starts_of_two_shares.Given as goal

abbrev pub invariant-loop-at_right : goal.invariant-loop-at_right
invariant-loop-at_right g l = IsOf l.field l.left.share × IsOf l.field l.right.share
