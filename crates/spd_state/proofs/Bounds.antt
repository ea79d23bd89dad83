-- What the counts of all views bound: the words that are only drawn from, what one share makes ready and starts, how many finishes it is told; and
-- what a share with all seats knows of the others, and of the vertices that are started.
use Rattle.std.proofs.Common.{◌≡◌, ◌≢◌, ℕ, ◌+◌, ◌*◌, ◌<◌, ◌≤◌, List, [], ◌∷◌, length, refl, sym, ◌∙◌, arith, Option, Some, None}
use mathlib.Core.Option.{some}
use mathlib.Core.Option as maybe
use mathlib.Core.Logic.{dite}
use native.Mathlib.Decide.{ℕ_discrete, dec_lt}
use lib.ListN.{get_elem?}
use Prim.Native.Nat.{zero, suc}
use Rattle.spd_words.specs.Plan.{PlanView}
use Rattle.spd_state.specs.Sums.{total, count, sum_below}
use Rattle.spd_state.specs.Dag.{Dag, busy, goods, openings, tellers, started}
use Rattle.spd_state.specs.History.{woken}
use Rattle.spd_state.specs.Parts.{Rule}
use Rattle.spd_state.specs.Seats.{IsEmpty}
use Rattle.spd_state.specs.declared.view.View.{View}
use Rattle.spd_state.proofs.Sums.{same_self, same_else, sum_change, sum_none, sum_bound, total_has, total_two, total_le, total_only}

woken_le : (s : ℕ) → woken s ≤ 1
woken_le zero = omega arith
woken_le (suc zero) = omega arith
woken_le (suc (suc s)) = omega arith

started_le : (s : ℕ) → started s ≤ 1
started_le zero = omega arith
started_le (suc zero) = omega arith
started_le (suc (suc zero)) = omega arith
started_le (suc (suc (suc s))) = omega arith

-- a list of numbers below n is as long as the counts of these numbers add up to
length_counts : (n : ℕ) (l : List ℕ) → ((k : ℕ) → 0 < count k l → k < n) → length l ≡ sum_below n (λ k. count k l)
length_counts n [] h = sym (sum_none n (λ k. 0) (λ k l. refl))
length_counts n (x ∷ xs) h = let low = h x (let s = same_self x x refl in omega arith) in let r = length_counts n xs (λ k z. h k (omega arith)) in
    let c = sum_change n (λ k. count k xs) (λ k. count k (x ∷ xs)) x low (λ k _ e. let s = same_else k x e in omega arith) in
    let s = same_self x x refl in omega arith

none_left : {A : Type 0} (l : List A) → length l ≡ 0 → l ≡ []
none_left [] e = refl
none_left (x ∷ xs) e = absurd (omega arith)

idle : {A : Type 0} (o : Option A) → busy o ≡ 0 → o ≡ None
idle None e = refl
idle (Some x) e = absurd (omega arith)

-- a share that has nothing in hand holds nothing
pub nothing_held : (v : View) → goods v ≡ 0 → IsEmpty v
nothing_held v z = record {
  running = idle v.running (omega arith);
  flight = idle v.flight (omega arith);
  held = none_left v.held (omega arith);
  claimed = none_left v.claimed (omega arith);
  rooted = none_left v.rooted (omega arith);
  above = none_left v.above (omega arith);
  halves = none_left v.halves (omega arith);
  sprout = idle v.sprout (omega arith);
  told = none_left v.told (omega arith);
  slots = none_left v.slots (omega arith);
}

module _ {B : Type 0} (p : PlanView) (a : Dag) (homes : List (maybe.Option (Option B))) (vs : List View) (rule : Rule p a homes vs) where
  -- word 0 ends at M plus the shares at most
  pub drawn_few : a.drawn ≤ p.moves + 64
  drawn_few = let m = rule.marks.most in let t = total_le (λ (v : View). v.full_draws) (λ (v : View). v.seats + v.spare) vs
      (λ j v e. let b = rule.marks.by_seats j v e in omega arith) in let k = rule.marks.seats in omega arith

  -- word 1 ends at G plus twice the shares at most
  pub bred_few : a.bred ≤ p.grown + 128
  bred_few = let m = rule.growth.most in let t = total_le (λ (v : View). v.full_grows) (λ (v : View). v.seats + v.spare) vs
      (λ j v e. let b = (rule.grows j v e).by_seats in omega arith) in let k = rule.marks.seats in omega arith

  -- at most two grown nodes are drawn per spawn drawn
  pub grown_few : a.bred ≤ 2 * total (λ (v : View). v.spawns) vs
  grown_few = let w = rule.growth.word in let t = total_le (λ (v : View). v.grow_draws) (λ (v : View). v.spawns) vs
      (λ j v e. (rule.grows j v e).paid) in omega arith

  -- a child word is small
  pub child_low : (i : ℕ) → i < p.moves + p.grown → a.trees.children i < p.moves + p.grown
  child_low i low = let m₀ = rule.plan.moves.some in dite (ℕ_discrete (a.trees.children i) 0) (λ e. omega arith)
      (λ e. let t = rule.forest.down i low e in let tw = t.2 in let w = tw.word in let l = tw.low in omega arith)

  -- one share is told each finish once at most
  teller_le : (f : ℕ) → f < p.moves → tellers vs f ≤ 1
  teller_le f low = dite (ℕ_discrete (openings a.vertices vs f) 0) (λ e. let z = rule.finishes.untold f low e in omega arith)
      (λ e. dite (dec_lt 0 (Rattle.spd_state.specs.Dag.units p a vs f)) (λ z. let g = (rule.finishes.going f low (omega arith) z).1 in omega arith)
      (λ z. let o = rule.finishes.over f low (omega arith) (omega arith) in
      dite (ℕ_discrete (a.vertices (2 * f + 1)).state 1) (λ s. let t = rule.finishes.tell f low (omega arith) (omega arith) s in omega arith)
      (λ s. let t = rule.finishes.woken f low (omega arith) (omega arith) (omega arith) in omega arith)))

  module _ (id : ℕ) (v : View) (at : get_elem? vs id ≡ some v) where
    pub told_few : length v.told ≤ p.moves
    told_few = let l = length_counts p.moves v.told (λ k z. (rule.own id v at).tells k z) in
        let b = sum_bound p.moves (λ k. count k v.told) 1 (λ k l. let t = total_has (λ (u : View). count k u.told) vs id v at in
        let o = teller_le k l in omega arith) in omega arith

    pub ready_few : v.ready ≤ 2 * p.moves
    ready_few = let r = rule.history.tallied.ready in let t = total_has (λ (u : View). u.ready) vs id v at in
        let b = sum_bound (2 * p.moves) (λ x. woken (a.vertices x).state) 1 (λ x _. woken_le (a.vertices x).state) in omega arith

    pub starts_few : v.starts ≤ 2 * p.moves
    starts_few = let r = rule.starts.all in let t = total_has (λ (u : View). u.starts) vs id v at in
        let b = sum_bound (2 * p.moves) (λ x. started (a.vertices x).state) 1 (λ x _. started_le (a.vertices x).state) in omega arith

    -- the share with all seats has started whatever is started, by itself or by those that were joined into it
    pub all_starts : v.seats + v.spare ≡ 64 → v.starts ≡ sum_below (2 * p.moves) (λ x. started (a.vertices x).state)
    all_starts all = sym (total_only (λ (u : View). u.starts) vs id v at (λ j u apart e. let m = rule.marks.seats in
        let t = total_two (λ (u : View). u.seats + u.spare) vs j id u v e at apart in rule.starts.spent j u e (omega arith))) ∙ rule.starts.all

    -- the share with all seats is alone: every other view is spent and holds nothing
    pub others_empty : v.seats + v.spare ≡ 64 → (j : ℕ) (u : View) → j ≢ id → get_elem? vs j ≡ some u → IsEmpty u
    others_empty all j u apart e = let t = total_two (λ (u : View). u.seats + u.spare) vs j id u v e at apart in let m = rule.marks.seats in
        nothing_held u ((rule.own j u e).spent (omega arith))
