use Rattle.std.proofs.Common.{[], ◌∷◌}
use Rattle.std.proofs.lemmas.List.{map-append}
use Rattle.spd_region.specs.Dag.{dag_view}
use Rattle.spd_region.proofs.DagEvents.{takes_fault}
use Rattle.spd_region.proofs.dag.Dag.fault.Goals as goal

pub returns : goal.returns
returns g c =
    let view = g.B.Body.view in
    let xs = c.args.self.now.ready.items in
    rw (c.fault.ensures, c.in_ok-push.ensures.items, map-append view xs (c.args.rest ∷ []))
    (takes_fault (dag_view view c.args.self.now) (view c.args.rest) c.args.code)
