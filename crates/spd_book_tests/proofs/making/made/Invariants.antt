use Rattle.spd_rule.specs.Shares.{IsOf}
use Rattle.spd_book_tests.proofs.making.made.Given as goal

abbrev pub invariant-loop-turn : goal.invariant-loop-turn
invariant-loop-turn g l = IsOf l.field l.player.share
