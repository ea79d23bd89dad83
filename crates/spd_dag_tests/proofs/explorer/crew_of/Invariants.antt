use Rattle.spd_dag_tests.specs.Crews.{IsCrew}
use Rattle.spd_dag_tests.proofs.explorer.crew_of.Given as goal

abbrev pub invariant-loop : goal.invariant-loop
invariant-loop g l = IsCrew l.crew
