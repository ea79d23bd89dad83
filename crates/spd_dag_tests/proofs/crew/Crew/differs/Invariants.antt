use Rattle.spd_dag_tests.specs.Crews.{IsCrew}
use Rattle.spd_dag_tests.proofs.crew.Crew.differs.Given as goal

abbrev pub invariant-loop-vertex : goal.invariant-loop-vertex
invariant-loop-vertex l = IsCrew l.self
