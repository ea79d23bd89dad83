use Rattle.spd_fork.specs.Places.{IsAt}
use Rattle.spd_dag_tests.proofs.tests.more.Given as goal

abbrev pub invariant-loop-turn : goal.invariant-loop-turn
invariant-loop-turn g l = IsAt l.field l.worker
