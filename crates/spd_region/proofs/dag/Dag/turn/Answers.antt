use Rattle.std.proofs.Common.{◌≡◌, [], ◌∷◌, ◌++◌, ap, ◌∙◌}
use Rattle.std.specs.Prelude.{map}
use Rattle.std.proofs.lemmas.List.{map-append}
use Rattle.std.proofs.lemmas.Result.{IfOk-weaker}
use Rattle.spd_region.specs.Dag.{dag_view}
use Rattle.spd_region.specs.DagSteps.{DagPlay, DagTurn}
use Rattle.spd_region.proofs.DagEnds.{turn_plays}
use Rattle.spd_region.proofs.dag.Dag.turn.Goals as goal

pub returns : goal.returns
returns g c =
    let view = g.B.Body.view in
    let old = dag_view view c.args.self.now in
    let new = dag_view view c.play.new.self in
    let xs = c.pop.new.self.items in
    let v = view c.in-Some.vertex in
    let e : old.ready ≡ map view xs ++ v ∷ [] =
    ap (map view) c.in-Some.ensures.items ∙ map-append view xs (c.in-Some.vertex ∷ []) in
    IfOk-weaker c.play.result
    (λ region. DagPlay (record old { ready = map view xs }) v new region) (λ region. DagTurn old new region)
    (λ region h. turn_plays old new (map view xs) v region e h) c.play.ensures
