use Rattle.std.proofs.Common.{[], ◌∷◌}
use Rattle.std.proofs.lemmas.List.{map-append, reverse-append}
use Rattle.spd_region.proofs.dag.Dag.open.Goals as goal

pub returns : goal.returns
returns g c =
    let view = g.B.Body.view in
    let now = c.args.self.now in
    rw (
      c.in_ok-push-2.ensures.items,
      map-append view now.ready.items (c.args.child ∷ []),
      c.new-self.ensures,
      c.in_ok-push.ensures.items,
      reverse-append now.outside.items (record { finish = now.innermost; waiting = c.args.rest } ∷ []),
    )
