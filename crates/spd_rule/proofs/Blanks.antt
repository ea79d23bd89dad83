-- What a move in flight sets next is as at the start: each store of a move meets a word that is 0, and says so.
use Rattle.std.proofs.Common.{◌≡◌, ◌≢◌, ℕ, ◌+◌, ◌*◌, ◌<◌, refl, ap, ◌∙◌, subst, arith, Option, Some, ⊎_elim}
use mathlib.Core.Option.{some}
use lib.ListN.{get_elem?}
use Rattle.atomic_table.specs.Table.{State, Me}
use Rattle.spd_words.specs.Plan.{PlanView, node_place, pair_place, vertex_place}
use Rattle.spd_words.specs.Words.{Pair, Vertex, pack_node, pack_pair, pack_vertex}
use Rattle.spd_words.specs.Meaning.{Meaning}
use Rattle.spd_state.specs.Dag.{body_left}
use Rattle.spd_state.specs.Parts.{FlightsOk, FlightOk, no_vertex}
use Rattle.spd_state.specs.declared.view.Draw.{Draw}
use Rattle.spd_state.specs.declared.view.Draw.TheVariants.{Make, Chain, Spawn}
use Rattle.spd_state.specs.declared.view.Flight.{Flight}
use Rattle.spd_state.specs.declared.view.View.{View}
use Rattle.spd_rule.specs.Held.{Held}
use Rattle.spd_rule.specs.Moves.{MaySetRoot, MaySetPair, HandsRoot, HandsTwo, flight_with}
use Rattle.spd_rule.specs.Moves.{MaySetVertex, the_end, the_rest, the_body, the_left, the_right}
use Rattle.spd_rule.proofs.Glue.{IsBlank}

-- the body of a make or a chain is its last vertex
body_last : (draw : Draw) → draw ≢ Spawn → 0 < body_left draw 3
body_last Make other = omega arith
body_last Chain other = omega arith
body_last Spawn other = absurd (other refl)

module _ {B : Type 0} (p : PlanView) (id : ℕ) (me : Me (Option B) View) where
  flight_ok : (s : State (Option B) View) (held : Held p s) → get_elem? s.views id ≡ some me.0 → (f : Flight) → me.0.flight ≡ Some f
      → FlightOk p held.dag.trees held.dag.drawn held.dag.nodes held.dag.pairs held.dag.vertices f
  flight_ok s held at f e = let a = held.dag in
      subst (FlightsOk p a.trees a.drawn a.nodes a.pairs a.vertices) e (held.kept.flying id me.0 at)

  pub root_blank : (d : ℕ) (told : Meaning) → d < p.moves → MaySetRoot d told me.0 → IsBlank p id me (node_place p d)
  root_blank d told low may s held at = let f : Flight = flight_with may.draw d d 0 in
      held.written.nodes d (omega arith) ∙ ap pack_node ((flight_ok s held at f may.flies).root refl)

  pub pair_blank : (d : ℕ) (q : Pair) (left right : Meaning) → d < p.moves → MaySetPair d q left right me.0 → IsBlank p id me (pair_place p d)
  pair_blank d q left right low may s held at = held.written.pairs d low ∙ ap pack_pair (⊎_elim
      (λ (h : HandsRoot d q me.0). let f : Flight = flight_with h.draw d d 1 in (flight_ok s held at f h.flies).pair (omega arith))
      (λ (h : HandsTwo d q left right me.0). let f : Flight = flight_with Spawn d h.finish 0 in (flight_ok s held at f h.flies).pair (omega arith)) may)

  module _ (means : B → Meaning) (i : ℕ) (x : Vertex) (s : State (Option B) View) (held : Held p s) (at : get_elem? s.views id ≡ some me.0) where
    is_at : (j : ℕ) → i ≡ j → held.dag.vertices j ≡ no_vertex → held.dag.vertices i ≡ no_vertex
    is_at j e k = ap held.dag.vertices e ∙ k

    no_vertex_yet : MaySetVertex means i x me → held.dag.vertices i ≡ no_vertex
    no_vertex_yet (the_end h) = is_at 1 h.vertex ((flight_ok s held at (flight_with Make 0 0 2) h.flies).rest (omega arith))
    no_vertex_yet (the_rest h) = is_at (2 * h.number + 1) h.vertex ((flight_ok s held at (flight_with Chain h.number h.number 2) h.flies).rest (omega arith))
    no_vertex_yet (the_body h) = is_at (2 * h.number) h.vertex
        ((flight_ok s held at (flight_with h.draw h.number h.number 3) h.flies).body (body_last h.draw h.opens))
    no_vertex_yet (the_left h) = is_at (2 * h.number) h.vertex ((flight_ok s held at (flight_with Spawn h.number h.finish 2) h.flies).body (omega arith))
    no_vertex_yet (the_right h) = is_at (2 * h.number + 1) h.vertex
        ((flight_ok s held at (flight_with Spawn h.number h.finish 3) h.flies).rest (omega arith))

  pub vertex_blank : (means : B → Meaning) (i : ℕ) (x : Vertex) → i < 2 * p.moves → MaySetVertex means i x me → IsBlank p id me (vertex_place p i)
  vertex_blank means i x low may s held at = held.written.vertices i low ∙ ap pack_vertex (no_vertex_yet means i x s held at may)
