use Rattle.std.specs.List.{All}
use Rattle.spd_fork.specs.Places.{IsAt}
use Rattle.spd_dag_tests.proofs.crew.Crew.close.Given as goal

abbrev pub invariant-loop : goal.invariant-loop
invariant-loop l = All (IsAt l.field) l.workers.items × IsAt l.field l.last
