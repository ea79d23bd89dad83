-- The table allows a share to look at the drawn moves and at a vertex.
use Rattle.std.proofs.Common.{◌≡◌, ℕ, ◌*◌, ◌<◌, List, set, refl, sym, ap, ◌∙◌, subst, Option, Bool, true, false, cond, eqb, eq-eqb, ne_eqb, inr}
use mathlib.Core.Option as maybe
use mathlib.Core.Logic.{dite}
use native.Mathlib.Decide.{ℕ_discrete}
use Rattle.atomic_table.specs.Table.{Me, keeps, Allows}
use Rattle.spd_words.specs.Plan.{PlanView, moves_place, vertex_place}
use Rattle.spd_words.specs.Words.{Vertex, vertex_of, pack_vertex}
use Rattle.spd_words.proofs.Reading.{vertex_read}
use Rattle.spd_state.specs.Dag.{Dag}
use Rattle.spd_state.specs.Parts.{Rule}
use Rattle.spd_state.specs.Shown.{AllShown, shown_of, note_ready, see_after}
use Rattle.spd_state.specs.Steps.{stepped}
use Rattle.spd_state.specs.declared.view.View.{View}
use Rattle.spd_state.proofs.Showing.{shown_noted, note_keeps}
use Rattle.spd_debts.specs.Payments.{sees_view}
use Rattle.spd_debts.proofs.Keeping.{sees_rule}
use Rattle.spd_words.specs.Meaning.{BodyView}
use Rattle.spd_debts.proofs.Bookkeeping.{see_stands}
use Rattle.spd_debts.proofs.Drawing.{looked_stands}
use Rattle.spd_rule.specs.Kept.{means_of, Kept}
use Rattle.spd_rule.specs.Steps.{HasSeen, sees_known, see_known}
use Rattle.spd_rule.proofs.Glue.{From, allow_moves, allow_vertex, unseen}
use Rattle.spd_rule.proofs.Starts.{idles}

module _ {B : Type 0} (told_of : B → BodyView) (p : PlanView) (slots id : ℕ) (me : Me (Option B) View) where
  pub looks_at_moves : 0 < me.0.full_draws
      → Allows (Kept told_of p) slots id me moves_place (λ n. n) (λ n m'. (m' ≡ sees_known me) × (p.moves < n))
  looks_at_moves marked = allow_moves told_of p slots id me (λ n. n) (λ n m'. (m' ≡ sees_known me) × (p.moves < n))
      (λ a homes vs from fits. inr record {
        stays = refl;
        move = record {
          view = sees_view me.0;
          act = keeps;
          valid = tt;
          kept = sees_rule p a homes vs from.rule id me.0 from.at;
          shown = unseen told_of p slots id me a homes vs from (sees_view me.0) refl;
          books = looked_stands (means_of told_of) p a homes vs from.rule from.books id me.0 from.at (from.rule.marks.passed id me.0 from.at marked);
          fit = from.fit;
          tells = (refl, from.rule.marks.passed id me.0 from.at marked);
        };
      })

  module _ (i : ℕ) (low : i < 2 * p.moves) (a : Dag) (homes : List (maybe.Option (Option B))) (vs : List View)
      (from : From told_of p slots id me a homes vs) where
    abbrev x : Vertex
    x = a.vertices i

    look_rule : (b : Bool) → Rule p a homes (set vs id (cond b (note_ready i x me.0) (stepped me.0)))
    look_rule true = note_keeps p a homes vs from.rule id me.0 from.at i x
    look_rule false = idles told_of p slots id me a homes vs from

    look_shown : (b : Bool) → (b ≡ true → x.state ≡ 2) → AllShown p.moves a.vertices (set vs id (cond b (note_ready i x me.0) (stepped me.0)))
    look_shown true ready = shown_noted p.moves a.vertices vs from.shown id me.0 from.at i low (ready refl)
    look_shown false ready = unseen told_of p slots id me a homes vs from (stepped me.0) refl

    -- what the test of the state says
    is_ready : eqb x.state 2 ≡ true → x.state ≡ 2
    is_ready e = dite (ℕ_discrete x.state 2) (λ two. two) (λ other. let f = ne_eqb x.state 2 other in absurd (cc))

    -- a ready vertex was seen in its word
    look_seen : x.state ≡ 2 → HasSeen i (pack_vertex x) (see_after i x me.0)
    look_seen two = subst (λ (b : Bool). HasSeen i (pack_vertex x) (cond b (note_ready i x me.0) (stepped me.0))) (sym (eq-eqb x.state 2 two)) record {
      at = 0;
      noted = shown_of i x;
      there = refl;
      vertex = refl;
      word = ap (λ (s : ℕ). pack_vertex (record x { state = s })) (sym two);
    }

  pub looks_at_vertex : (i : ℕ) → i < 2 * p.moves → Allows (Kept told_of p) slots id me (vertex_place p i) (λ n. n)
      (λ n m'. (m' ≡ see_known i n me) × ((vertex_of n).state ≡ 2 → HasSeen i n m'.0))
  looks_at_vertex i low = allow_vertex told_of p slots id me i low (λ n. n) (λ n m'. (m' ≡ see_known i n me) × ((vertex_of n).state ≡ 2 → HasSeen i n m'.0))
      (λ a homes vs from fit fits. let y : Vertex = a.vertices i in let read : vertex_of (pack_vertex y) ≡ y = vertex_read y fit in inr record {
        stays = refl;
        move = record {
          view = see_after i y me.0;
          act = keeps;
          valid = tt;
          kept = look_rule i low a homes vs from (eqb y.state 2);
          shown = look_shown i low a homes vs from (eqb y.state 2) (is_ready i low a homes vs from);
          books = see_stands (means_of told_of) p a homes vs from.rule from.books id me.0 from.at i y (eqb y.state 2);
          fit = from.fit;
          tells = (
            (λ j. (see_after i (sym read j) me.0, me.1)),
            λ two. look_seen i low a homes vs from (sym (ap (λ (z : Vertex). z.state) read) ∙ two),
          );
        };
      })
