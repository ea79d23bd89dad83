use Rattle.spd_book_tests.specs.Crews.{IsTeam}
use Rattle.spd_book_tests.proofs.explorer.compare.Given as goal

abbrev pub invariant-loop-finish : goal.invariant-loop-finish
invariant-loop-finish g l = IsTeam l.team
