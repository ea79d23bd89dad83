-- The numbers beside a seat, and the slots that are due, after an exchange that started a vertex or didn't.
use Rattle.std.proofs.Common.{◌≡◌, ℕ, ◌+◌, ◌*◌, ◌<◌, ◌≤◌, List, ◌∷◌, refl, sym, ap, ◌∙◌, subst, arith, Option, Some, None}
use Rattle.atomic_table.specs.Table.{Me}
use Rattle.atomic_table.specs.Seated.{TableId}
use Rattle.spd_words.specs.Plan.{PlanView, IsPlan, plan_words}
use Rattle.spd_words.specs.Words.{vertex_of}
use Rattle.spd_words.specs.Meaning.{Meaning}
use Rattle.spd_state.specs.Parts.{IsWithin}
use Rattle.spd_state.specs.Steps.{stepped, start_run}
use Rattle.spd_state.specs.declared.view.Running.{Running}
use Rattle.spd_state.specs.declared.view.View.{View}
use Rattle.spd_rule.specs.Beside.{Mirrors}
use Rattle.spd_rule.specs.Idle.{StartsBeside}
use Rattle.spd_rule.specs.Rest.{due}
use Rattle.spd_rule.specs.Steps.{StartsVertex}
use Rattle.spd_rule.specs.declared.beside.Beside.{Beside}

module _ {B : Type 0} (z : TableId) (me me' : Me (Option B) View) (b : Beside) (h : Mirrors z me b) (is_due : me.0.slots ≡ due me.0.flight me.0.running) where
  pub mirrors_idle : me' ≡ (stepped me.0, me.1) → Mirrors z me' b
  mirrors_idle e = subst (λ (m : Me (Option B) View). Mirrors z m b) (sym e) (record {
    running = h.running;
    flight = h.flight;
    units = h.units;
    claimed = h.claimed;
    told = h.told;
    spare = h.spare;
    marked = h.marked;
    starts = h.starts;
    begun = h.begun;
    inside = h.inside;
    flies = h.flies;
    few = h.few;
    seated = h.seated;
    slots = h.slots;
  })

  pub idle_due : me' ≡ (stepped me.0, me.1) → me'.0.slots ≡ due me'.0.flight me'.0.running
  idle_due e = subst (λ (m : Me (Option B) View). m.0.slots ≡ due m.0.flight m.0.running) (sym e) is_due

  module _ (means : B → Meaning) (p : PlanView) (plan : IsPlan p) (deep : z.slots ≡ 2 * p.moves) (wide : z.words ≡ plan_words p) (i seen : ℕ)
      (starts : StartsVertex means p i seen me me') where
    within : (r : Running) → r ≡ start_run i (vertex_of seen) → IsWithin z r × (r.side < 2)
    within r e = let k = starts.inside in let v = k.0 in let q = k.1 in let f = k.2 in let n = k.3 in subst (λ (x : Running). IsWithin z x × (x.side < 2)) (sym e)
        ((omega arith, omega arith, omega arith, omega arith), omega arith)

    few : me.0.starts + 1 ≤ 2 * p.moves
    few = subst (λ (m : Me (Option B) View). m.0.starts ≤ 2 * p.moves) starts.known starts.few

    pub mirrors_start : (b' : Beside) → StartsBeside i seen b b' → Mirrors z me' b'
    mirrors_start b' is = subst (λ (m : Me (Option B) View). Mirrors z m b') (sym starts.known) (subst (Mirrors z _) (sym is) (record {
      running = refl;
      flight = h.flight;
      units = h.units;
      claimed = h.claimed;
      told = h.told;
      spare = h.spare;
      marked = h.marked;
      starts = let s = h.starts in let m = plan.moves.most in let f = few in omega arith;
      begun = let m = plan.moves.most in let f = few in let k = h.seated in omega arith;
      inside = λ r e. within r (let o : r ≡ start_run i (vertex_of seen) = cc in o);
      flies = h.flies;
      few = h.few;
      seated = h.seated;
      slots = ap (λ (l : List ℕ). i ∷ l) h.slots;
    }))

    -- and there is room for one more
    pub start_counts : b.starts < 18446744073709551615
    start_counts = let s = h.starts in let m = plan.moves.most in let f = few in omega arith

    pub start_due : me.0.running ≡ None → me.0.flight ≡ None → me'.0.slots ≡ due me'.0.flight me'.0.running
    start_due runs flies = subst (λ (m : Me (Option B) View). m.0.slots ≡ due m.0.flight m.0.running) (sym starts.known)
        (ap (λ (l : List ℕ). i ∷ l) (is_due ∙ (λ j. due (flies j) (runs j)))
        ∙ sym (ap (λ f. due f (Some (start_run i (vertex_of seen)))) flies))
