-- The numbers beside a seat stand after a step that leaves what they mirror, or gives a unit more.
use Rattle.std.proofs.Common.{◌≡◌, ℕ, length, refl, min, sym, ap, ◌∙◌, subst, arith, Option, Some, None, Bool, true, false, cond}
use Prim.Native.Nat.{zero, suc}
use lib.Dec.{ltb}
use Rattle.atomic_table.specs.Table.{Me}
use Rattle.atomic_table.specs.Seated.{TableId}
use Rattle.spd_words.specs.Words.{Vertex}
use Rattle.spd_state.specs.Sums.{count}
use Rattle.spd_state.specs.Shown.{note_ready}
use Rattle.spd_state.specs.Steps.{stepped, add_view}
use Rattle.spd_state.specs.declared.promise.Expected.{Expected}
use Rattle.spd_state.specs.declared.view.View.{View}
use Rattle.spd_debts.specs.Payments.{lower_view, shown_view}
use Rattle.spd_rule.specs.Beside.{Mirrors}
use Rattle.spd_rule.specs.Idle.{HoldsOneMore}
use Rattle.spd_rule.specs.Payments.{collected_view}
use Rattle.spd_rule.specs.Rest.{due}
use Rattle.spd_rule.specs.declared.beside.Beside.{Beside}

-- what is mirrored is the same
pub record Mirrored (v w : View) : Type 0 where
  pub running : w.running ≡ v.running
  pub flight : w.flight ≡ v.flight
  pub held : w.held ≡ v.held
  pub claimed : w.claimed ≡ v.claimed
  pub told : w.told ≡ v.told
  pub spare : w.spare ≡ v.spare
  pub full_draws : w.full_draws ≡ v.full_draws
  pub seats : w.seats ≡ v.seats
  pub starts : w.starts ≡ v.starts
  pub slots : w.slots ≡ v.slots

module _ (v : View) where
  pub same_steps : Mirrored v (stepped v)
  same_steps = record { running = refl; flight = refl; held = refl; claimed = refl; told = refl; spare = refl; full_draws = refl; seats = refl; starts = refl; slots = refl }

  pub see_mirrored : (i : ℕ) (x : Vertex) (b : Bool) → Mirrored v (cond b (note_ready i x v) (stepped v))
  see_mirrored i x false = same_steps
  see_mirrored i x true =
      record { running = refl; flight = refl; held = refl; claimed = refl; told = refl; spare = refl; full_draws = refl; seats = refl; starts = refl; slots = refl }

  pub lower_mirrored : (c left : ℕ) → Mirrored v (lower_view c left v)
  lower_mirrored zero left =
      record { running = refl; flight = refl; held = refl; claimed = refl; told = refl; spare = refl; full_draws = refl; seats = refl; starts = refl; slots = refl }
  lower_mirrored (suc c) left =
      record { running = refl; flight = refl; held = refl; claimed = refl; told = refl; spare = refl; full_draws = refl; seats = refl; starts = refl; slots = refl }

  pub shown_mirrored : (n : ℕ) (b : Bool) → Mirrored v (cond b (shown_view n v) (stepped v))
  shown_mirrored n false = same_steps
  shown_mirrored n true =
      record { running = refl; flight = refl; held = refl; claimed = refl; told = refl; spare = refl; full_draws = refl; seats = refl; starts = refl; slots = refl }

  pub collected_mirrored : (o : Option Expected) (n : ℕ) (b : Bool) → Mirrored v (cond b (collected_view o n v) (stepped v))
  collected_mirrored o n false = same_steps
  collected_mirrored None n true = same_steps
  collected_mirrored (Some x) zero true =
      record { running = refl; flight = refl; held = refl; claimed = refl; told = refl; spare = refl; full_draws = refl; seats = refl; starts = refl; slots = refl }
  collected_mirrored (Some x) (suc c) true =
      record { running = refl; flight = refl; held = refl; claimed = refl; told = refl; spare = refl; full_draws = refl; seats = refl; starts = refl; slots = refl }

module _ {B : Type 0} (z z' : TableId) (same : z' ≡ z) (me me' : Me (Option B) View) (b : Beside) (h : Mirrors z me b)
    (is_due : me.0.slots ≡ due me.0.flight me.0.running) (w : View) (e : me' ≡ (w, me.1)) where
  module _ (k : Mirrored me.0 w) where
    mirrors_kept : Mirrors z (w, me.1) b
    mirrors_kept = record {
      running = h.running ∙ sym k.running;
      flight = h.flight ∙ sym k.flight;
      units = λ n. h.units n ∙ sym (ap (count n) k.held);
      claimed = h.claimed ∙ sym (ap length k.claimed);
      told = h.told ∙ sym (ap length k.told);
      spare = h.spare ∙ sym k.spare;
      marked = h.marked ∙ sym (ap (ltb 0) k.full_draws);
      starts = h.starts ∙ sym (ap (λ n. min n 18446744073709551615) k.starts);
      begun = let a = k.starts in let s = k.seats in let b = h.begun in omega arith;
      inside = h.inside;
      flies = h.flies;
      few = h.few;
      seated = let s = k.seats in let t = h.seated in omega arith;
      slots = k.slots ∙ h.slots;
    }

    pub mirrors_like : Mirrors z' me' b
    mirrors_like = subst (λ (t : TableId). Mirrors t me' b) (sym same) (subst (λ (m : Me (Option B) View). Mirrors z m b) (sym e) mirrors_kept)

    pub like_due : me'.0.slots ≡ due me'.0.flight me'.0.running
    like_due = subst (λ (m : Me (Option B) View). m.0.slots ≡ due m.0.flight m.0.running) (sym e)
        (k.slots ∙ is_due ∙ (λ j. due (sym k.flight j) (sym k.running j)))

-- a unit more
module _ {B : Type 0} (z z' : TableId) (same : z' ≡ z) (me me' : Me (Option B) View) (b b' : Beside) (h : Mirrors z me b)
    (is_due : me.0.slots ≡ due me.0.flight me.0.running) (d : ℕ) (e : me' ≡ (add_view d me.0, me.1)) (k : HoldsOneMore d b b') where
  mirrors_more : Mirrors z (add_view d me.0, me.1) b'
  mirrors_more = record {
    running = k.running ∙ h.running;
    flight = k.flight ∙ h.flight;
    units = λ n. let u = k.units n in let v = h.units n in omega arith;
    claimed = k.claimed ∙ h.claimed;
    told = k.told ∙ h.told;
    spare = k.spare ∙ h.spare;
    marked = k.full ∙ h.marked;
    starts = k.starts ∙ h.starts;
    begun = h.begun;
    inside = λ r is. h.inside r (sym k.running ∙ is);
    flies = λ f is. h.flies f (sym k.flight ∙ is);
    few = let t = k.told in let f = h.few in omega arith;
    seated = h.seated;
    slots = h.slots;
  }

  pub mirrors_hold : Mirrors z' me' b'
  mirrors_hold = subst (λ (t : TableId). Mirrors t me' b') (sym same) (subst (λ (m : Me (Option B) View). Mirrors z m b') (sym e) mirrors_more)

  pub hold_due : me'.0.slots ≡ due me'.0.flight me'.0.running
  hold_due = subst (λ (m : Me (Option B) View). m.0.slots ≡ due m.0.flight m.0.running) (sym e) is_due
