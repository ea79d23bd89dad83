-- The numbers beside a seat, and the slots that are due, once a vertex of a move in flight is stored.
use Rattle.std.proofs.Common.{◌≡◌, ◌≢◌, ℕ, ◌*◌, ◌<◌, List, [], ◌∷◌, length, map, refl, min, sym, ap, ◌∙◌, subst, arith, Option, Some, None, inl, inr}
use lib.Dec.{ltb}
use Rattle.atomic_table.specs.Table.{Me, rest}
use Rattle.atomic_table.specs.Seated.{TableId}
use Rattle.spd_words.specs.Plan.{PlanView, IsPlan}
use Rattle.spd_words.specs.Meaning.{Meaning}
use Rattle.spd_words.specs.Words.{Vertex, VertexFits}
use Rattle.spd_state.specs.Steps.{lose_right}
use Rattle.spd_state.specs.Parts.{IsWithin}
use Rattle.spd_state.specs.Stages.{end_vertex, chain_rest_vertex, body_vertex, spawn_vertex}
use Rattle.spd_state.specs.declared.view.Draw.{Draw}
use Rattle.spd_state.specs.declared.view.Draw.TheVariants.{Make, Chain, Spawn}
use Rattle.spd_state.specs.declared.view.Running.{Running}
use Rattle.spd_state.specs.declared.view.Flight.{Flight}
use Rattle.spd_state.specs.declared.view.View.{View}
use Rattle.spd_rule.specs.Rest.{due, at_rest}
use Rattle.spd_rule.specs.Beside.{Mirrors}
use Rattle.spd_rule.specs.Idle.{StoresFirst, StoresLast}
use Rattle.spd_rule.specs.Moves.{MaySetVertex, the_end, the_rest, the_body, the_left, the_right, IsVertexOf, flight_with, vertex_set, stored_in, less_first}
use Rattle.spd_rule.specs.Moves.{after_first}
use Rattle.spd_rule.specs.declared.beside.Beside.{Beside}
use Rattle.spd_rule.proofs.Mirrors.{within_lost}
use Rattle.spd_rule.proofs.Settled.{rest_due, mirrors_rest, due_lost}

-- the numbers of a vertex that may be stored fit their fields
pub vertex_fits : {B : Type 0} (means : B → Meaning) (p : PlanView) → IsPlan p → (z : TableId) (me : Me (Option B) View) (b : Beside) → Mirrors z me b
    → (i : ℕ) (x : Vertex) → IsVertexOf p i x → MaySetVertex means i x me → VertexFits x
vertex_fits {B} means p plan z me b h i x of may = let m = plan.moves.most in let g = plan.grown in let q = of.pair in let f = of.finish in let n = of.inc in
    let s = by may in record { state = s.0; side = s.1; pair = omega arith; finish = omega arith; inc = omega arith }
  where
    reads : (w : Vertex) → x ≡ w → (w.state < 4) × (w.side < 2) → (x.state < 4) × (x.side < 2)
    reads w e k = subst (λ (v : Vertex). (v.state < 4) × (v.side < 2)) (sym e) k

    by : MaySetVertex means i x me → (x.state < 4) × (x.side < 2)
    by (the_end k) = reads end_vertex k.word (omega arith, omega arith)
    by (the_rest k) = reads (chain_rest_vertex k.runs) k.word (omega arith, (h.inside k.runs (h.running ∙ k.running)).1)
    by (the_body k) = reads (body_vertex k.number) k.word (omega arith, omega arith)
    by (the_left k) = reads (spawn_vertex k.number k.finish 0 k.inc) k.word (omega arith, omega arith)
    by (the_right k) = reads (spawn_vertex k.number k.finish 1 k.inc) k.word (omega arith, omega arith)

module _ {B : Type 0} (means : B → Meaning) (z : TableId) (me : Me (Option B) View) (b b' : Beside) (h : Mirrors z me b)
    (is_due : me.0.slots ≡ due me.0.flight me.0.running)
    (first : (f : Flight) → b.flight ≡ Some f → f.stage ≡ 2 → StoresFirst f b b')
    (last : (f : Flight) → b.flight ≡ Some f → f.stage ≡ 3 → StoresLast b b') where
  -- what a share knows once a vertex is stored
  pub record Fits (m : Me (Option B) View) : Type 0 where
    pub mirrors : Mirrors z m b'
    pub holds : m.0.slots ≡ due m.0.flight m.0.running

  left_slots : less_first me.0.slots ≡ map (λ x. x.0) (rest me.1)
  left_slots = ap less_first h.slots ∙ firsts me.1
    where
      firsts : (l : List (ℕ × Option B)) → less_first (map (λ x. x.0) l) ≡ map (λ x. x.0) (rest l)
      firsts [] = refl
      firsts (x ∷ xs) = refl

  -- a view that differs in the running vertex, the move in flight and the slots
  moved : (w : View) → w.held ≡ me.0.held → w.claimed ≡ me.0.claimed → w.told ≡ me.0.told → w.spare ≡ me.0.spare → w.full_draws ≡ me.0.full_draws → w.seats ≡ me.0.seats → w.starts ≡ me.0.starts
      → (o : Option Running) (f : Option Flight) → b' ≡ record b { running = o; flight = f }
      → w.running ≡ o → w.flight ≡ f → w.slots ≡ less_first me.0.slots → ((r : Running) → o ≡ Some r → IsWithin z r × (r.side < 2))
      → ((g : Flight) → f ≡ Some g → 2 * g.number < z.slots) → Mirrors z (w, rest me.1) b'
  moved w held claimed told spare full seats starts o f is runs flies slots inside low = subst (Mirrors z (w, rest me.1)) (sym is) record {
    running = sym runs;
    flight = sym flies;
    units = λ n. h.units n ∙ sym (λ i. Rattle.spd_state.specs.Sums.count n (held i));
    claimed = h.claimed ∙ sym (ap length claimed);
    told = h.told ∙ sym (ap length told);
    spare = h.spare ∙ sym spare;
    marked = h.marked ∙ sym (ap (ltb 0) full);
    starts = h.starts ∙ sym (ap (λ n. min n 18446744073709551615) starts);
    begun = let b = h.begun in omega arith;
    inside = inside;
    flies = low;
    few = h.few;
    seated = subst (λ n. 0 < n) (sym seats) h.seated;
    slots = slots ∙ left_slots;
  }

  no_run : (r : Running) → (let x : Option Running = None in x) ≡ Some r → IsWithin z r × (r.side < 2)
  no_run r e = absurd (cc)

  no_flight : (g : Flight) → (let x : Option Flight = None in x) ≡ Some g → 2 * g.number < z.slots
  no_flight g e = absurd (cc)

  at_stage : (draw : Draw) (d u s t : ℕ) → b.flight ≡ Some (flight_with draw d u s) → (g : Flight) → Some (flight_with draw d u t) ≡ Some g
      → 2 * g.number < z.slots
  at_stage draw d u s t e g k = let i : flight_with draw d u t ≡ g = cc in let n : d ≡ g.number = ap (λ (f : Flight). f.number) i in
      let l = h.flies (flight_with draw d u s) e in omega arith

  -- a first vertex, by what draws
  firsts_of : (draw : Draw) (d u : ℕ) → me.0.flight ≡ Some (flight_with draw d u 2) → (w : View) → (o : Option Running) → after_first draw b.running ≡ o
      → ((r : Running) → o ≡ Some r → IsWithin z r × (r.side < 2)) → w.running ≡ o
      → w.flight ≡ Some (flight_with draw d u 3) → w.slots ≡ less_first me.0.slots → due me.0.flight me.0.running ≡ due me.0.flight o
      → less_first (due (Some (flight_with draw d u 2)) o) ≡ due (Some (flight_with draw d u 3)) o
      → w.held ≡ me.0.held → w.claimed ≡ me.0.claimed → w.told ≡ me.0.told → w.spare ≡ me.0.spare → w.full_draws ≡ me.0.full_draws → w.seats ≡ me.0.seats → w.starts ≡ me.0.starts
      → Fits (at_rest (w, rest me.1))
  firsts_of draw d u flies w o runs inside running flight slots same next held claimed told spare full seats starts = let e : b.flight ≡ Some (flight_with draw d u 2) =
      h.flight ∙ flies in
      let m = moved w held claimed told spare full seats starts o (Some (flight_with draw d u 3))
      (first (flight_with draw d u 2) e refl ∙ (λ i. record b { running = runs i; flight = Some (flight_with draw d u 3) })) running flight slots inside
      (at_stage draw d u 2 3 e) in record {
        mirrors = mirrors_rest z (w, rest me.1) b' m;
        holds = rest_due w (rest me.1) (inl (slots ∙ ap less_first (is_due ∙ same ∙ (λ i. due (flies i) o)) ∙ next ∙ sym (λ i. due (flight i) (running i))));
      }

  -- a last vertex
  lasts_of : (draw : Draw) (d u : ℕ) → me.0.flight ≡ Some (flight_with draw d u 3) → (w : View) → w.running ≡ None → w.flight ≡ None
      → w.slots ≡ less_first me.0.slots
      → w.held ≡ me.0.held → w.claimed ≡ me.0.claimed → w.told ≡ me.0.told → w.spare ≡ me.0.spare → w.full_draws ≡ me.0.full_draws → w.seats ≡ me.0.seats → w.starts ≡ me.0.starts
      → Fits (at_rest (w, rest me.1))
  lasts_of draw d u flies w running flight slots held claimed told spare full seats starts = let e : b.flight ≡ Some (flight_with draw d u 3) = h.flight ∙ flies in
      let m = moved w held claimed told spare full seats starts None None (last (flight_with draw d u 3) e refl) running flight slots no_run no_flight in record {
        mirrors = mirrors_rest z (w, rest me.1) b' m;
        holds = rest_due w (rest me.1) (inr (running, flight));
      }

  pub fits : (i : ℕ) (x : Vertex) → MaySetVertex means i x me → Fits (at_rest (vertex_set me))
  fits i x (the_end k) = let l = less_first me.0.slots in subst (λ (w : View). Fits (at_rest (w, rest me.1)))
      (sym (λ j. stored_in (k.flies j) me.0.running l me.0))
      (firsts_of Make 0 0 k.flies (stored_in (Some (flight_with Make 0 0 2)) me.0.running l me.0) me.0.running h.running
      (λ r e. h.inside r (h.running ∙ e)) refl refl refl refl refl refl refl refl refl refl refl refl)
  fits i x (the_rest k) = let l = less_first me.0.slots in let d : ℕ = k.number in let o : Option Running = Some k.runs in
      subst (λ (w : View). Fits (at_rest (w, rest me.1))) (sym (λ j. stored_in (k.flies j) (k.running j) l me.0))
      (firsts_of Chain d d k.flies (stored_in (Some (flight_with Chain d d 2)) o l me.0) (lose_right o) (ap lose_right (h.running ∙ k.running))
      (within_lost z o (λ r e. h.inside r (h.running ∙ (k.running ∙ e)))) refl refl refl
      (ap (due me.0.flight) k.running ∙ due_lost me.0.flight o) refl refl refl refl refl refl refl refl)
  fits i x (the_left k) = let l = less_first me.0.slots in let d : ℕ = k.number in let u : ℕ = k.finish in
      subst (λ (w : View). Fits (at_rest (w, rest me.1))) (sym (λ j. stored_in (k.flies j) me.0.running l me.0))
      (firsts_of Spawn d u k.flies (stored_in (Some (flight_with Spawn d u 2)) me.0.running l me.0) me.0.running h.running
      (λ r e. h.inside r (h.running ∙ e)) refl refl refl refl refl refl refl refl refl refl refl refl)
  fits i x (the_right k) = let l = less_first me.0.slots in let d : ℕ = k.number in let u : ℕ = k.finish in
      subst (λ (w : View). Fits (at_rest (w, rest me.1))) (sym (λ j. stored_in (k.flies j) me.0.running l me.0))
      (lasts_of Spawn d u k.flies (stored_in (Some (flight_with Spawn d u 3)) me.0.running l me.0) refl refl refl refl refl refl refl refl refl refl)
  fits i x (the_body k) = let l = less_first me.0.slots in let d : ℕ = k.number in
      subst (λ (w : View). Fits (at_rest (w, rest me.1))) (sym (λ j. stored_in (k.flies j) me.0.running l me.0)) (by k.draw k.opens k.flies)
    where
      by : (draw : Draw) → draw ≢ Spawn → me.0.flight ≡ Some (flight_with draw k.number k.number 3)
          → Fits (at_rest (stored_in (Some (flight_with draw k.number k.number 3)) me.0.running (less_first me.0.slots) me.0, rest me.1))
      by Make o e = lasts_of Make k.number k.number e (stored_in (Some (flight_with Make k.number k.number 3)) me.0.running
          (less_first me.0.slots) me.0) refl refl refl refl refl refl refl refl refl refl
      by Chain o e = lasts_of Chain k.number k.number e (stored_in (Some (flight_with Chain k.number k.number 3)) me.0.running
          (less_first me.0.slots) me.0) refl refl refl refl refl refl refl refl refl refl
      by Spawn o e = absurd (o refl)
