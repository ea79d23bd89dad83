use Rattle.spd_region.specs.Dag.{dag_view, promised_total, drawn_within, dag_size, DagAtRest, DagDraws}
use Rattle.spd_region.proofs.region.run_within.Given as goal

abbrev pub invariant-loop-dag : goal.invariant-loop-dag
invariant-loop-dag g l =
    let v = g.B.Body.view l.fn.body in
    let dag = dag_view g.B.Body.view l.dag in
    record { rest : DagAtRest dag (promised_total v); draws : DagDraws dag 0 (drawn_within l.fn.moves v) }

abbrev pub decreases-loop-dag : goal.decreases-loop-dag
decreases-loop-dag g l = dag_size (dag_view g.B.Body.view l.dag)
