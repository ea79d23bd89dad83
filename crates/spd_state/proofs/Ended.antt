-- Where the root of an open finish is 0, none of its vertices is unfinished.
use Rattle.std.proofs.Common.{◌≡◌, ◌≢◌, ℕ, ◌+◌, ◌*◌, ◌<◌, ◌≤◌, List, [], ◌∷◌, drop, take, refl, ap, ◌∙◌, arith, Option, Some}
use Prim.Native.Nat.{zero, suc}
use mathlib.Core.Option.{some}
use mathlib.Core.Option as maybe
use mathlib.Core.Logic.{dite}
use native.Mathlib.Decide.{dec_lt, ℕ_discrete}
use lib.ListN.{get_elem?}
use Rattle.spd_words.specs.Plan.{PlanView}
use Rattle.spd_words.specs.Words.{Pair, Vertex}
use Rattle.spd_state.specs.Sums.{same, gate, count}
use Rattle.spd_state.specs.Dag.{Dag, stands, waits, not_end, handles, units}
use Rattle.spd_state.specs.Parts.{Tops, Rule}
use Rattle.spd_state.specs.declared.view.Running.{Running}
use Rattle.spd_state.specs.declared.view.View.{View}
use Rattle.spd_state.proofs.Sums.{same_self, summand_le}
use Rattle.spd_state.proofs.Rights.{claim_holds, running_ok, right_holds}
use Rattle.spd_state.specs.Tree.{Trees, Under}
use Rattle.spd_state.proofs.Rights.{unit_roots}

-- a pair with fewer claims than its total has a handle left under its top
pub handle_left : (p : PlanView) (t : Trees) (f : ℕ) (q : Pair) → q.claims < q.total → q.total ≤ 2 → Tops p t f q → (h : ℕ) × Under p t f h
    × (0 < count h (handles q))
handle_left p t f q l m o = any q.claims q.total q.first q.second o.first o.second l m
  where
    any : (c n x y : ℕ) → Under p t f x → (n ≡ 2 → Under p t f y) → c < n → n ≤ 2 → (h : ℕ) × Under p t f h
        × (0 < count h (drop c (take n (x ∷ y ∷ []))))
    any zero zero x y a b l m = absurd (omega arith)
    any zero (suc zero) x y a b l m = (x, a, let s = same_self x x refl in omega arith)
    any zero (suc (suc zero)) x y a b l m = (x, a, let s = same_self x x refl in omega arith)
    any zero (suc (suc (suc n))) x y a b l m = absurd (omega arith)
    any (suc zero) zero x y a b l m = absurd (omega arith)
    any (suc zero) (suc zero) x y a b l m = absurd (omega arith)
    any (suc zero) (suc (suc zero)) x y a b l m = (y, b refl, let s = same_self y y refl in omega arith)
    any (suc zero) (suc (suc (suc n))) x y a b l m = absurd (omega arith)
    any (suc (suc c)) n x y a b l m = absurd (omega arith)

module _ {B : Type 0} (p : PlanView) (a : Dag) (homes : List (maybe.Option (Option B))) (vs : List View) (rule : Rule p a homes vs) where
  -- a vertex other than the end that waits or is ready keeps a unit at its finish
  pub standing_holds : (x : ℕ) → x < 2 * p.moves → 0 < (a.vertices x).state → (a.vertices x).state < 3 → x ≢ 1
      → 0 < units p a vs (a.vertices x).finish
  standing_holds x low s t n = let y : Vertex = a.vertices x in let pair = rule.balances.pair x low s in let tops = rule.balances.tops x low s t n in
      let r = summand_le (2 * p.moves) (λ (k : ℕ). stands y.pair k (a.vertices k)) x low in
      let one : stands y.pair x y ≡ 1 = counts x n y.state refl s t in
      let b = rule.balances.balance y.pair pair in let m = rule.balances.most y.pair pair in
      let h = handle_left p a.trees y.finish (a.pairs y.pair) (omega arith) m tops in let h₂ = h.2 in
      let q = summand_le p.moves (λ (d : ℕ). count h.0 (handles (a.pairs d))) y.pair pair in
      unit_roots p a homes vs rule h.0 y.finish h.1 (omega arith)
    where
      apart : (j : ℕ) → j ≢ 1 → (k : ℕ) → gate (not_end j) k ≡ k
      apart zero n k = refl
      apart (suc zero) n k = absurd (n refl)
      apart (suc (suc j)) n k = refl

      counts : (j : ℕ) → j ≢ 1 → (s : ℕ) → (a.vertices x).state ≡ s → 0 < s → s < 3
          → gate (not_end j) (gate (waits (a.vertices x).state) (same (a.vertices x).pair (a.vertices x).pair)) ≡ 1
      counts j n zero e l m = absurd (omega arith)
      counts j n (suc zero) e l m = apart j n _ ∙ (ap (λ k. gate (waits k) (same (a.vertices x).pair (a.vertices x).pair)) e
          ∙ same_self (a.vertices x).pair (a.vertices x).pair refl)
      counts j n (suc (suc zero)) e l m = apart j n _ ∙ (ap (λ k. gate (waits k) (same (a.vertices x).pair (a.vertices x).pair)) e
          ∙ same_self (a.vertices x).pair (a.vertices x).pair refl)
      counts j n (suc (suc (suc s))) e l m = absurd (omega arith)

  module _ (f : ℕ) (low : f < p.moves) (gone : (a.nodes f).twice ≡ 0) where
    pub no_units : units p a vs f ≡ 0
    no_units = let c = rule.counts.count f low in omega arith

    -- each stored vertex of the finish is started
    pub all_started : (x : ℕ) → x < 2 * p.moves → 0 < (a.vertices x).state → x ≢ 1 → (a.vertices x).finish ≡ f → 3 ≤ (a.vertices x).state
    all_started x l s n e = dite (dec_lt (a.vertices x).state 3) (λ t. let h = standing_holds x l s t n in
        let z : units p a vs (a.vertices x).finish ≡ 0 = ap (units p a vs) e ∙ no_units in absurd (omega arith)) (λ t. omega arith)

    -- no share that runs one of its vertices has its right or its claimed unit
    pub no_right : (id : ℕ) (v : View) (r : Running) → get_elem? vs id ≡ some v → v.running ≡ Some r → r.finish ≡ f → r.right ≡ 0
    no_right id v r at is e = let le = (running_ok p a homes vs rule id v at r is).right in dite (ℕ_discrete r.right 1)
        (λ one. let h = right_holds p a homes vs rule id v at r is one in let z : units p a vs r.finish ≡ 0 = ap (units p a vs) e ∙ no_units in
        absurd (omega arith)) (λ n. omega arith)

    pub no_claim : (id : ℕ) (v : View) (r : Running) → get_elem? vs id ≡ some v → v.running ≡ Some r → r.finish ≡ f → v.claimed ≡ []
    no_claim id v r at is e = by v.claimed refl
      where
        by : (l : List ℕ) → v.claimed ≡ l → l ≡ []
        by [] q = refl
        by (x ∷ xs) q = let s = same_self x x refl in let k : count x v.claimed ≡ same x x + count x xs = ap (count x) q in
            let h = claim_holds p a homes vs rule id v at r is x (omega arith) in let z : units p a vs r.finish ≡ 0 = ap (units p a vs) e
            ∙ no_units in absurd (omega arith)
