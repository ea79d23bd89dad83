use Rattle.spd_dag_tests.proofs.tests.what_a_worker_that_rests_may_not_do.Goals as goal

pub refused-requires : goal.refused-requires
refused-requires g c = c.signal.ensures c.made-field.result.0 c.turn.ensures
