-- What the words of a field at its end say, where the share that closes it has the mark of the end.
use Rattle.std.proofs.Common.{◌≡◌, ◌≢◌, ℕ, ◌+◌, ◌*◌, ◌/◌, ◌<◌, ◌≤◌, List, get_or, min, sym, ap, ◌∙◌, arith, Option, ⊎_elim}
use mathlib.Core.Option.{some}
use mathlib.Core.Option as maybe
use mathlib.Core.Logic.{dite}
use native.Mathlib.Decide.{ℕ_discrete}
use lib.ListN.{get_elem?}
use Rattle.spd_words.specs.Meaning.{Meaning}
use Rattle.spd_words.specs.Plan.{PlanView, vertex_place, fault_place}
use Rattle.spd_words.specs.Words.{Vertex, vertex_of}
use Rattle.spd_state.specs.Dag.{Dag, IsWritten, started}
use Rattle.spd_state.specs.Parts.{Rule}
use Rattle.spd_state.specs.declared.promise.Whole.{Whole}
use Rattle.spd_state.specs.declared.view.View.{View}
use Rattle.spd_state.proofs.Sums.{total_has, sum_alike, sum_first}
use Rattle.spd_state.proofs.Bounds.{all_starts}
use Rattle.spd_debts.specs.BookRule.{BookRule}
use Rattle.spd_debts.proofs.Over.{region_is}
use Rattle.spd_rule.specs.Closings.{drawn_moves, EveryStarted, started_vertices, AreAllStarts}
use Rattle.spd_rule.specs.Payments.{KnowsBooks}
use Rattle.spd_rule.proofs.Follows.{ends_all, vertex_reads, halves_of}

module _ {B : Type 0} (means : B → Meaning) (p : PlanView) (a : Dag) (homes : List (maybe.Option (Option B))) (vs : List View) (rule : Rule p a homes vs)
    (id : ℕ) (v : View) (at : get_elem? vs id ≡ some v) (mark : 0 < v.done) (ws : List ℕ) (w : IsWritten p a ws) where
  -- vertex 1 was started
  end_started : 3 ≤ (a.vertices 1).state
  end_started = let t = total_has (λ (u : View). u.done) vs id v at in let h = rule.history.ended in let o = h.one in let m = h.mark in
      (h.over (omega arith)).0

  some_moves : 1 < 2 * p.moves
  some_moves = let m = rule.plan.moves.some in omega arith

  end_reads : (vertex_of (get_or ws (vertex_place p 1) 0)).state ≡ 3
  end_reads = let fit = (w.vertices_fit 1 some_moves).state in let s = end_started in
      ap (λ (x : Vertex). x.state) (vertex_reads p a ws w 1 some_moves) ∙ (let e : (a.vertices 1).state ≡ 3 = omega arith in e)

  pub every_started : EveryStarted p ws
  every_started x low = dite (ℕ_discrete x 1) (λ e. ap (λ (k : ℕ). (vertex_of (get_or ws (vertex_place p k) 0)).state) e ∙ end_reads)
      (λ n. let r = end_reads in (ends_all p a homes vs rule ws w).vertices (omega arith) x n low)

  pub moves_promised : BookRule means p a homes vs → (whole : Whole) → KnowsBooks v whole → get_or ws (fault_place p 0) 0 ≢ 0
      → drawn_moves p ws ≡ min (whole.owes.moves + 1) p.moves
  moves_promised stands whole knows pure = let c = (stands.carries id v at).keeps whole knows.0 knows.1 in let s = end_started in
      let m = rule.plan.moves.some in
      let f : get_or ws (fault_place p 0) 0 ≡ a.faults 0 = w.faults 0 (omega arith) in
      let r : min a.drawn p.moves ≡ min a.region p.moves = region_is means p a homes vs rule (omega arith) (stands.kept c.0) (λ z. pure (f ∙ z)) in
      ap (λ (n : ℕ). min n p.moves) w.drawn ∙ r ∙ ap (λ (n : ℕ). min n p.moves) (sym c.1)

-- what was started, by the words, and by the share with all seats
module _ {B : Type 0} (p : PlanView) (a : Dag) (homes : List (maybe.Option (Option B))) (vs : List View) (rule : Rule p a homes vs)
    (id : ℕ) (v : View) (at : get_elem? vs id ≡ some v) (ws : List ℕ) (w : IsWritten p a ws) where
  -- a vertex of a move that isn't drawn is none
  not_drawn : (j : ℕ) → j < 2 * p.moves → a.drawn ≤ j / 2 → (a.vertices j).state ≡ 0
  not_drawn j low past = let d : ℕ = j / 2 in ⊎_elim
      (λ (e : j ≡ 2 * d). ap (λ (k : ℕ). (a.vertices k).state) e ∙ ap (λ (x : Vertex). x.state) (rule.moves.blank_body d (omega arith) past))
      (λ (e : j ≡ 2 * d + 1). ap (λ (k : ℕ). (a.vertices k).state) e ∙ ap (λ (x : Vertex). x.state) (rule.moves.blank_rest d (omega arith) past))
      (halves_of j)

  two_each : EveryStarted p ws → started_vertices p ws ≡ 2 * drawn_moves p ws
  two_each every = let drawn = w.drawn in sum_first (2 * p.moves) (2 * drawn_moves p ws)
      (λ (j : ℕ). started (vertex_of (get_or ws (vertex_place p j) 0)).state) (omega arith) (λ j l. ap started (every j l))
      (λ j past low. let d : ℕ = j / 2 in ap (λ (x : Vertex). started x.state) (vertex_reads p a ws w j low)
      ∙ ap started (not_drawn j low (omega arith)))

  pub counts : v.seats + v.spare ≡ 64 → (0 < v.done → EveryStarted p ws) → AreAllStarts p ws v.starts v.done
  counts all every = let e : v.starts ≡ started_vertices p ws = all_starts p a homes vs rule id v at all ∙ sum_alike (2 * p.moves)
      (λ (j : ℕ). started (a.vertices j).state) (λ (j : ℕ). started (vertex_of (get_or ws (vertex_place p j) 0)).state)
      (λ j low. ap (λ (x : Vertex). started x.state) (sym (vertex_reads p a ws w j low))) in record {
        all = e;
        ended = λ mark. e ∙ two_each (every mark);
      }
