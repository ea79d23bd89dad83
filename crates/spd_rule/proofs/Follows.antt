-- What the rule of a state brings with it, from the lemmas of spd_state; and the same of the words.
use Rattle.std.proofs.Common.{◌≡◌, ◌≢◌, ℕ, ◌+◌, ◌*◌, ◌/◌, ◌%◌, ◌<◌, ◌≤◌, List, get_or, sym, ap, ◌∙◌, subst, arith, Option, ⊎_elim, ◌⊎◌, inl, inr}
use mathlib.Core.Option.{some}
use mathlib.Core.Option as maybe
use mathlib.Core.Logic.{dite}
use native.Mathlib.Decide.{ℕ_discrete}
use Rattle.spd_words.specs.Plan.{PlanView, node_place, vertex_place}
use Rattle.spd_words.specs.Words.{Node, Vertex, node_of, vertex_of}
use Rattle.spd_words.proofs.Reading.{node_read, vertex_read}
use Rattle.spd_state.specs.Dag.{Dag, IsWritten, openings, tellers}
use Rattle.spd_state.specs.Parts.{Rule}
use Rattle.spd_state.specs.declared.view.View.{View}
use Rattle.spd_state.proofs.Zero.{none_unfinished, no_unit_under, no_right_there, started_zero, told_once, told_never}
use Rattle.spd_state.proofs.Over.{roots_zero, none_flies, bodies_started, rests_started}
use Rattle.spd_state.proofs.Bounds.{drawn_few, bred_few, grown_few}
use Rattle.spd_rule.specs.Consequences.{IsFinished, IsAtEnd, Consequences, EndsAllStarted}

module _ {B : Type 0} (p : PlanView) (a : Dag) (homes : List (maybe.Option (Option B))) (vs : List View) (rule : Rule p a homes vs) where
  pub is_over : (f : ℕ) → f < p.moves → (a.nodes f).twice ≡ 0 → IsFinished p a vs f
  is_over f low gone = record {
    none_left = none_unfinished p a homes vs rule f low gone;
    no_unit = no_unit_under p a homes vs rule f low gone;
    no_right = no_right_there p a homes vs rule f low gone;
  }

  pub at_end : 2 ≤ (a.vertices 1).state → IsAtEnd p a vs
  at_end ended = record {
    roots = roots_zero p a homes vs rule ended;
    none_flies = none_flies p a homes vs rule ended;
    bodies = bodies_started p a homes vs rule ended;
    rests = rests_started p a homes vs rule ended;
  }

  -- of an open finish nobody is told while its root counts, and one share at most once it is 0; of any other nobody is
  told_few : (f : ℕ) → f < p.moves → tellers vs f ≤ 1
  told_few f low = dite (ℕ_discrete (openings a.vertices vs f) 0) (λ e. let z = rule.finishes.untold f low e in omega arith)
      (λ e. dite (ℕ_discrete (a.nodes f).twice 0)
      (λ gone. let t = told_once p a homes vs rule f low gone (omega arith) in let s = t.0 in
      dite (ℕ_discrete (a.vertices (2 * f + 1)).state 1) (λ one. let o = t.1 one in omega arith) (λ more. let o = t.2 (omega arith) in omega arith))
      (λ more. let t = (told_never p a homes vs rule f low (omega arith) (omega arith)).1 in omega arith))

  pub follows : Consequences p a vs
  follows = record {
    over = is_over;
    told = told_few;
    woken = started_zero p a homes vs rule;
    ended = at_end;
    drawn = drawn_few p a homes vs rule;
    bred = bred_few p a homes vs rule;
    grown = grown_few p a homes vs rule;
  }

-- the typed word of a root or a vertex is what its word reads as
pub node_reads : (p : PlanView) (a : Dag) (ws : List ℕ) → IsWritten p a ws → (d : ℕ) → d < p.moves → node_of (get_or ws (node_place p d) 0) ≡ a.nodes d
node_reads p a ws w d low = let n : Node = a.nodes d in ap node_of (w.nodes d (omega arith)) ∙ node_read n (w.nodes_fit d (omega arith))

pub vertex_reads : (p : PlanView) (a : Dag) (ws : List ℕ) → IsWritten p a ws → (v : ℕ) → v < 2 * p.moves
    → vertex_of (get_or ws (vertex_place p v) 0) ≡ a.vertices v
vertex_reads p a ws w v low = let x : Vertex = a.vertices v in ap vertex_of (w.vertices v low) ∙ vertex_read x (w.vertices_fit v low)

-- a vertex of a drawn move is the left or the right one
pub halves_of : (v : ℕ) → (v ≡ 2 * (v / 2)) ⊎ (v ≡ 2 * (v / 2) + 1)
halves_of v = dite (ℕ_discrete (v % 2) 0) (λ e. inl (omega arith)) (λ e. inr (omega arith))

module _ {B : Type 0} (p : PlanView) (a : Dag) (homes : List (maybe.Option (Option B))) (vs : List View) (rule : Rule p a homes vs)
    (ws : List ℕ) (w : IsWritten p a ws) where
  some_moves : 1 < 2 * p.moves
  some_moves = let m = rule.plan.moves.some in omega arith

  ready : 2 ≤ (vertex_of (get_or ws (vertex_place p 1) 0)).state → 2 ≤ (a.vertices 1).state
  ready h = subst (λ (x : Vertex). 2 ≤ x.state) (vertex_reads p a ws w 1 some_moves) h

  is_started : 2 ≤ (a.vertices 1).state → (v : ℕ) → v ≢ 1 → v < 2 * p.moves → v < 2 * a.drawn → 3 ≤ (a.vertices v).state
  is_started ended v other low drawn = let d : ℕ = v / 2 in let end = at_end p a homes vs rule ended in ⊎_elim
      (λ (e : v ≡ 2 * d). subst (λ (i : ℕ). 3 ≤ (a.vertices i).state) (sym e) (end.bodies d (omega arith) (omega arith)))
      (λ (e : v ≡ 2 * d + 1). subst (λ (i : ℕ). 3 ≤ (a.vertices i).state) (sym e)
      (end.rests d (omega arith) (omega arith) (dite (ℕ_discrete d 0) (λ z. absurd (other (omega arith))) (λ z. omega arith))))
      (halves_of v)

  pub ends_all : EndsAllStarted p ws
  ends_all = record {
    roots = λ h f low. ap (λ (n : Node). n.twice) (node_reads p a ws w f low) ∙ (at_end p a homes vs rule (ready h)).roots f low;
    vertices = λ h v other l. let drawn = w.drawn in let low : v < 2 * p.moves = omega arith in
        let s = is_started (ready h) v other low (omega arith) in let fit = (w.vertices_fit v low).state in
        ap (λ (x : Vertex). x.state) (vertex_reads p a ws w v low) ∙ (let e : (a.vertices v).state ≡ 3 = omega arith in e);
  }
