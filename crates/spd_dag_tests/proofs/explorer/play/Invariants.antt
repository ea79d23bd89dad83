use Rattle.spd_dag_tests.specs.Crews.{IsCrew}
use Rattle.spd_dag_tests.proofs.explorer.play.Given as goal

abbrev pub invariant-loop-step : goal.invariant-loop-step
invariant-loop-step g l = IsCrew l.crew
