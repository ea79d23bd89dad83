use Rattle.spd_rule.specs.Shares.{IsOf}
use Rattle.spd_book_tests.proofs.threads.give.Given as goal

abbrev pub invariant-loop-number : goal.invariant-loop-number
invariant-loop-number l = IsOf l.field l.player.share

abbrev pub invariant-loop-turn : goal.invariant-loop-turn
invariant-loop-turn l = IsOf l.field l.player.share
