use Rattle.spd_book_tests.specs.Crews.{IsTeam}
use Rattle.spd_book_tests.proofs.explorer.play.Given as goal

abbrev pub invariant-loop : goal.invariant-loop
invariant-loop g l = IsTeam l.team
