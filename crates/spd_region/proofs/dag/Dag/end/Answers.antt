use Rattle.std.proofs.lemmas.Bool.{false≢true}
use Rattle.std.proofs.lemmas.Result.{IfOk-weaker}
use Rattle.spd_region.specs.Dag.{DagView, dag_view}
use Rattle.spd_region.specs.DagSteps.{DagClose, DagVertexEnd}
use Rattle.spd_region.proofs.Finishes.{left}
use Rattle.spd_region.proofs.DagEnds.{takes_over, takes_last_over, ends_over}
use Rattle.spd_region.proofs.dag.Dag.end.Goals as goal

pub close-requires-after_bounds : goal.close-requires-after_bounds
close-requires-after_bounds g c κs within =
    let (u, (v, a, s, (top, r))) = c.requires in
    rw c.depart.ensures.count
    (top, ends_over (dag_view g.B.Body.view c.args.self.now) v u top (c.depart.ensures.last.0 c.if-depart.true) a r)

pub returns-then-depart : goal.returns-then-depart
returns-then-depart g c =
    let t = dag_view g.B.Body.view c.args.self.now in
    let new = dag_view g.B.Body.view c.close.new.self in
    let one_less : DagView = record t { innermost = left t.innermost } in
    IfOk-weaker c.close.result (λ region. DagClose one_less new region) (λ region. DagVertexEnd t new region)
    (λ region h. takes_last_over t new region (c.depart.ensures.last.0 c.if-depart.true) h)
    (rw c.depart.ensures.count at c.close.ensures)

pub returns-else-depart : goal.returns-else-depart
returns-else-depart g c =
    let t = dag_view g.B.Body.view c.args.self.now in
    rw c.depart.ensures.count (λ u. takes_over t u (λ one. false≢true (c.if-depart.ensures.last.1 one)))
