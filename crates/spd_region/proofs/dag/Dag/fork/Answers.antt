use Rattle.std.proofs.Common.{[], ◌∷◌, ◌++◌, arith}
use Rattle.std.proofs.lemmas.List.{map-append}
use Rattle.spd_region.proofs.dag.Dag.fork.Goals as goal

pub arrive-requires : goal.arrive-requires
arrive-requires g c = omega (arith, c.in_ok-push-2.ensures, c.in_ok-push.ensures)

pub returns : goal.returns
returns g c =
    let view = g.B.Body.view in
    let xs = c.args.self.now.ready.items in
    rw (
      c.arrive.ensures,
      c.in_ok-push-2.ensures.items,
      c.in_ok-push.ensures.items,
      map-append view (xs ++ c.args.rest ∷ []) (c.args.child ∷ []),
      map-append view xs (c.args.rest ∷ []),
    )
