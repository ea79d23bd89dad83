use Rattle.std.proofs.Common.{[], ◌∷◌, rules, w64, FitsSigned}
use Rattle.std.proofs.lemmas.List.{map-append}
use Rattle.std.proofs.lemmas.Int.{to_z-of_z}
use Rattle.spd_region.specs.Dag.{dag_view}
use Rattle.spd_region.proofs.DagEvents.{takes_offer}
use Rattle.spd_region.proofs.dag.Dag.offer.Goals as goal

pub returns : goal.returns
returns g c =
    let view = g.B.Body.view in
    let xs = c.args.self.now.ready.items in
    let f : FitsSigned w64 c.args.value = search rules in
    rw (c.offer.ensures, c.in_ok-push.ensures.items, map-append view xs (c.args.rest ∷ []), to_z-of_z w64 c.args.value f)
    (takes_offer (dag_view view c.args.self.now) (view c.args.rest) c.args.value)
