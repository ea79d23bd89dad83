use Rattle.spd_book_tests.specs.Crews.{IsTeam}
use Rattle.spd_book_tests.proofs.rows.follow.Given as goal

abbrev pub invariant-loop-turn : goal.invariant-loop-turn
invariant-loop-turn g l = IsTeam l.team
