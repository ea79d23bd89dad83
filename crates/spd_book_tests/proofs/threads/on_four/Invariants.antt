use Rattle.spd_rule.specs.Shares.{IsOf}
use Rattle.spd_book_tests.proofs.threads.on_four.Given as goal

abbrev pub invariant-loop-vertex : goal.invariant-loop-vertex
invariant-loop-vertex g l = IsOf l.field l.maker.share
