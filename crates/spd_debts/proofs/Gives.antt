-- A finish whose root is 0 and whose fault word isn't 0 has got what it was to give.
use Rattle.std.proofs.Common.{◌≡◌, ◌≢◌, ℕ, ◌+◌, ◌*◌, ◌<◌, ◌≤◌, List, min, refl, sym, ap, ◌∙◌, subst, arith, Option, Some, ◌^◌}
use Prim.Native.Nat.{zero, suc}
use mathlib.Core.Option.{some, none}
use mathlib.Core.Option as maybe
use mathlib.Core.Logic.{dite}
use native.Mathlib.Decide.{ℕ_discrete}
use lib.ListN.{get_elem?}
use Rattle.spd_words.specs.Gift.{join, identity, no_fault}
use Rattle.spd_words.specs.Meaning.{Meaning}
use Rattle.spd_words.specs.Plan.{PlanView}
use Rattle.spd_words.specs.Words.{Vertex}
use Rattle.spd_state.specs.Sums.{same, gate}
use Rattle.spd_state.specs.Dag.{Dag, units, openings}
use Rattle.spd_state.specs.Parts.{Rule}
use Rattle.spd_state.specs.declared.view.Running.{Running}
use Rattle.spd_state.specs.declared.view.View.{View}
use Rattle.spd_state.proofs.Sums.{same_means, total_some}
use Rattle.spd_state.proofs.Rights.{running_ok, right_holds}
use Rattle.spd_words.proofs.Gather.{faults_join, gifts_join}
use Rattle.spd_debts.specs.Books.{Books, Clear, finish_is, hurts}
use Rattle.spd_debts.specs.Debts.{Debt}
use Rattle.spd_debts.specs.Worth.{gift_of}
use Rattle.spd_debts.proofs.Gates.{right_means}
use Rattle.spd_debts.proofs.Owing.{owes_nothing}
use Rattle.spd_debts.proofs.Values.{gift_lawful}

module _ {B : Type 0} (view : B → Meaning) (p : PlanView) (a : Dag) (homes : List (maybe.Option (Option B))) (vs : List View) (rule : Rule p a homes vs)
    (books : Books view p a homes vs) where
  -- a hurt share keeps a unit at the finish of its vertex
  pub hurt_holds : (f : ℕ) → 0 < hurts vs f → 0 < units p a vs f
  hurt_holds f h = let t = total_some (λ (v : View). gate v.hurt (finish_is f v.running)) vs h in by t.0 t.1 t.2 t.1.hurt refl t.3
    where
      by : (j : ℕ) (v : View) → get_elem? vs j ≡ some v → (k : ℕ) → v.hurt ≡ k → 0 < gate k (finish_is f v.running) → 0 < units p a vs f
      by j v at zero e z = absurd (omega arith)
      by j v at (suc k) e z = let r = right_means v.running ((books.views j v at).right (omega arith)) in
          let g : finish_is f v.running ≡ same f r.0.finish = ap (finish_is f) r.1 in let top = same_means f r.0.finish (omega arith) in
          let h = right_holds p a homes vs rule j v at r.0 r.1 r.2 in subst (λ (k : ℕ). 0 < units p a vs k) (sym top) h

  module _ (f : ℕ) (low : f < p.moves) (is_open : 0 < openings a.vertices vs f) where
    -- without units and with a fault word that isn't 0 it isn't tainted
    pub is_clear : units p a vs f ≡ 0 → a.faults f ≢ 0 → Clear (openings a.vertices vs) a.faults (hurts vs) f
    is_clear u n = record {
      is_open = is_open;
      pure = n;
      unhurt = dite (ℕ_discrete (hurts vs f) 0) (λ e. e)
          (λ e. let h = hurt_holds f (omega arith) in absurd (omega arith));
    }

    pub gift_got : units p a vs f ≡ 0 → a.faults f ≢ 0 → a.gifts f < 2 ^ 64 → gift_of (a.expects f).kind (a.gifts f) ≡ (a.expects f).gift
    gift_got u n fits = let k = (a.expects f).kind in sym (gift_lawful k (a.gifts f) fits)
        ∙ ap (join k (gift_of k (a.gifts f))) (sym (owes_nothing view p a homes vs rule f low u (join k) (identity k) (gifts_join k)
        (λ (d : Debt). d.promise.gift))) ∙ books.gifts.whole f low (is_clear u n)

    pub fault_got : units p a vs f ≡ 0 → a.faults f ≢ 0 → a.faults f ≤ no_fault → a.faults f ≡ (a.expects f).fault
    fault_got u n fits = let o = owes_nothing view p a homes vs rule f low u min no_fault faults_join (λ (d : Debt). d.promise.fault) in
        let w = books.faults.whole f low (is_clear u n) in
        (let e : a.faults f ≡ min (a.faults f) no_fault = omega arith in e) ∙ ap (min (a.faults f)) (sym o) ∙ w

    -- the root is 0 once its waiting vertex is ready
    pub root_gone : 2 ≤ (a.vertices (2 * f + 1)).state → units p a vs f ≡ 0
    root_gone s = dite (ℕ_discrete (units p a vs f) 0) (λ e. e) (λ e. let g = rule.finishes.going f low is_open (omega arith) in let g₀ = g.0 in
        absurd (omega arith))

  -- `collect`: the share runs vertex 2f + 1 of the open finish f, and sees a fault other than 0
  pub collect_gives : (id : ℕ) (v : View) → get_elem? vs id ≡ some v → (r : Running) → v.running ≡ Some r → (f : ℕ) → f < p.moves → r.vertex ≡ 2 * f + 1
      → 0 < openings a.vertices vs f → a.faults f ≢ 0 → a.gifts f < 2 ^ 64 → a.faults f ≤ no_fault
      → (gift_of (a.expects f).kind (a.gifts f) ≡ (a.expects f).gift) × (a.faults f ≡ (a.expects f).fault)
  collect_gives id v at r is f low odd is_open n fits fault_fits = let w = (running_ok p a homes vs rule id v at r is).word in
      let s : (a.vertices (2 * f + 1)).state ≡ 3 = ap (λ k. (a.vertices k).state) (sym odd) ∙ ap (λ (x : Vertex). x.state) w in
      let u = root_gone f low is_open (omega arith) in (gift_got f low is_open u n fits, fault_got f low is_open u n fault_fits)
