-- What a share's right, or its unit, shows of the words.
use Rattle.std.proofs.Common.{◌≡◌, ℕ, ◌+◌, ◌*◌, ◌<◌, ◌≤◌, ◌≢◌, ⊎_elim, List, [], ◌∷◌, length, drop, take, get_or, refl, sym, ap, ◌∙◌, subst, arith}
use Rattle.std.proofs.Common.{Option, Some, None, length-drop}
use Prim.Native.Nat.{zero, suc}
use mathlib.Core.Option.{some}
use mathlib.Core.Option as maybe
use mathlib.Core.Logic.{dite}
use native.Mathlib.Decide.{dec_lt}
use Rattle.spd_state.specs.declared.view.Flight.{Flight}
use lib.ListN.{get_elem?}
use Rattle.spd_words.specs.Plan.{PlanView}
use Rattle.spd_words.specs.Words.{Pair, Vertex}
use Rattle.spd_state.specs.Sums.{same, gate, total, count, sum_below}
use Rattle.spd_state.specs.Tree.{Trees, Under, lives, live_under, tree_units, whole}
use Rattle.spd_state.proofs.Upwards.{solid_climbs, some_is, unit_under, unit_tops}
use Rattle.spd_state.specs.Dag.{above_units, claimed_units, claimed_above, halves, Dag, handles, next_handle, units, openings, has_right, right_of}
use Rattle.spd_state.specs.Dag.{units_of, named, opens_in, flies_in, root_of}
use Rattle.spd_state.specs.Parts.{RunOk, RunsOk, ClaimsOk, Rule}
use Rattle.spd_state.specs.declared.view.Running.{Running}
use Rattle.spd_state.specs.declared.view.View.{View}
use Rattle.spd_state.proofs.Sums.{same_tells, same_self, same_le, sum_bound, summand_le, total_has, total_le}

-- a claim takes the next handle out of those that are left
pub handles_claim : (c t k f s : ℕ) → c < t → t ≤ 2 → drop c (take t (f ∷ s ∷ [])) ≡ get_or (f ∷ s ∷ []) c 0 ∷ drop (c + 1) (take t (f ∷ s ∷ []))
handles_claim zero zero k f s l m = absurd (omega arith)
handles_claim zero (suc zero) k f s l m = refl
handles_claim zero (suc (suc zero)) k f s l m = refl
handles_claim zero (suc (suc (suc t))) k f s l m = absurd (omega arith)
handles_claim (suc zero) zero k f s l m = absurd (omega arith)
handles_claim (suc zero) (suc zero) k f s l m = absurd (omega arith)
handles_claim (suc zero) (suc (suc zero)) k f s l m = refl
handles_claim (suc zero) (suc (suc (suc t))) k f s l m = absurd (omega arith)
handles_claim (suc (suc c)) t k f s l m = absurd (omega arith)

pub count_le : (n : ℕ) (l : List ℕ) → count n l ≤ length l
count_le n [] = omega arith
count_le n (x ∷ xs) = let a = same_le n x in let b = count_le n xs in omega arith

take_le : (t f s : ℕ) → length (take t (f ∷ s ∷ [])) ≤ 2
take_le zero f s = omega arith
take_le (suc zero) f s = omega arith
take_le (suc (suc zero)) f s = omega arith
take_le (suc (suc (suc t))) f s = omega arith

pub handles_few : (n : ℕ) (p : Pair) → count n (handles p) ≤ 2
handles_few n p = let a = count_le n (handles p) in let b = take_le p.total p.first p.second in
    let c = length-drop p.claims (take p.total (p.first ∷ p.second ∷ [])) in omega arith

pub claimed_none : (t : Trees) (n s : ℕ) → claimed_units t n s [] ≡ 0
claimed_none t n zero = refl
claimed_none t n (suc s) = refl

pub above_none : (n s : ℕ) → claimed_above s n [] ≡ 0
above_none n zero = refl
above_none n (suc s) = refl

module _ {B : Type 0} (p : PlanView) (a : Dag) (homes : List (maybe.Option (Option B))) (vs : List View) (rule : Rule p a homes vs) where
  pub units_few : (n : ℕ) → units p a vs n ≤ 2 * p.moves + p.grown + 4224
  units_few n = let s = sum_bound p.moves (λ (d : ℕ). count n (handles (a.pairs d))) 2 (λ d l. handles_few n (a.pairs d)) in
      let t = total_le (units_of a.trees n) (λ (u : View). 66 * (u.seats + u.spare)) vs
      (λ j u e. let x = count_le n u.held in let y = claimed_le u.lifted u.claimed in let z = count_le n u.rooted in let k = above_le u.above in
      let few = (rule.own j u e).few in omega arith) in
      let m = times66 (λ (u : View). u.seats + u.spare) vs in let k = rule.marks.seats in
      let g = sum_bound p.grown (λ c. gate (whole (a.nodes (p.moves + c)).twice) (same n (a.trees.parents (p.moves + c)))) 1
      (λ c l. gate_same (whole (a.nodes (p.moves + c)).twice) n (a.trees.parents (p.moves + c))) in omega arith
    where
      times66 : (f : View → ℕ) (l : List View) → total (λ u. 66 * f u) l ≡ 66 * total f l
      times66 f [] = refl
      times66 f (x ∷ xs) = let e = times66 f xs in omega arith

      above_le : (l : List ℕ) → above_units a.trees n l ≤ length l
      above_le [] = omega arith
      above_le (x ∷ xs) = let a = same_le n (a.trees.parents x) in let b = above_le xs in omega arith

      claimed_le : (s : ℕ) (l : List ℕ) → claimed_units a.trees n s l ≤ length l
      claimed_le zero l = count_le n l
      claimed_le (suc s) l = above_le l

      gate_same : (k x y : ℕ) → gate k (same x y) ≤ 1
      gate_same zero x y = omega arith
      gate_same (suc k) x y = same_le x y

  pub tree_part : (n : ℕ) → tree_units p.moves p.grown a.trees.parents a.nodes n ≤ units p a vs n
  tree_part n = omega arith

  -- a unit anywhere is under an open root, and keeps that root's count above 0
  pub unit_at : (n : ℕ) → n < p.moves + p.grown → 0 < units p a vs n → (f : ℕ) × (a.trees.tops n ≡ Some f) × (0 < openings a.vertices vs f)
  unit_at = unit_under p a.trees a.nodes (units p a vs) (halves vs) (openings a.vertices vs) rule.forest rule.counts rule.live.shut tree_part

  pub unit_roots : (n f : ℕ) → Under p a.trees f n → 0 < units p a vs n → 0 < units p a vs f
  unit_roots = unit_tops p a.trees a.nodes (units p a vs) (halves vs) (openings a.vertices vs) rule.forest rule.counts rule.live.shut tree_part

  pub unit_opens : (n : ℕ) → n < p.moves → 0 < units p a vs n → 0 < openings a.vertices vs n
  unit_opens n l z = let t = unit_at n (omega arith) z in let e : n ≡ t.0 = some_is n t.0 (sym (rule.forest.root n l) ∙ t.1) in
      subst (λ k. 0 < openings a.vertices vs k) (sym e) t.2

  pub root_lives : (n : ℕ) → n < p.moves → lives a.trees (openings a.vertices vs) n ≡ openings a.vertices vs n
  root_lives n l = ap (live_under (openings a.vertices vs)) (rule.forest.root n l)

  pub under_itself : (n : ℕ) → n < p.moves → Under p a.trees n n
  under_itself n l = record { low = omega arith; top = rule.forest.root n l }

  -- a finish that is open is one of a drawn move
  pub opened_begun : (f : ℕ) → f < p.moves → 0 < openings a.vertices vs f → f < a.drawn
  opened_begun f l z = dite (dec_lt f a.drawn) (λ y. y) (λ y. let n : named f (a.vertices (2 * f)) ≡ 0 =
      ap (named f) (rule.moves.blank_body f l (omega arith)) in let g = rule.moves.grounded f l (omega arith) in
      let t = total_le (λ (u : View). opens_in f u.flight) (λ (u : View). flies_in f u.flight) vs (λ j u e. opens_le u.flight) in
      absurd (omega arith))
    where
      gate_le : (k n : ℕ) → gate k n ≤ n
      gate_le zero n = omega arith
      gate_le (suc k) n = omega arith

      opens_le : (o : Option Flight) → opens_in f o ≤ flies_in f o
      opens_le None = omega arith
      opens_le (Some g) = gate_le (root_of g.draw g.stage) (same f g.number)

  module _ (id : ℕ) (v : View) (at : get_elem? vs id ≡ some v) where
    pub unit_counts : (n : ℕ) → 0 < units_of a.trees n v → 0 < units p a vs n
    unit_counts n z = let t = total_has (units_of a.trees n) vs id v at in omega arith

    module _ (r : Running) (is : v.running ≡ Some r) where
      pub running_ok : RunOk p a.trees a.pairs a.vertices r
      running_ok = subst (RunsOk p a.trees a.pairs a.vertices) is (rule.running id v at)

      state : (a.vertices r.vertex).state ≡ 3
      state = ap (λ (x : Vertex). x.state) running_ok.word

      pub finish_begun : r.finish < a.drawn
      finish_begun = let finish : (a.vertices r.vertex).finish ≡ r.finish = ap (λ (x : Vertex). x.finish) running_ok.word in let s = state in
          let t = rule.live.finish r.vertex running_ok.vertex (omega arith) in
          subst (λ f. f < a.drawn) finish (opened_begun (a.vertices r.vertex).finish t.0 t.1)

      pub pair_inside : r.pair < p.moves
      pair_inside = let vertex = running_ok.vertex in let pair : (a.vertices r.vertex).pair ≡ r.pair = ap (λ (x : Vertex). x.pair) running_ok.word in
          let s = state in let t = rule.balances.pair r.vertex vertex (omega arith) in omega arith

      pub finish_inside : r.finish < p.moves
      finish_inside = let vertex = running_ok.vertex in let finish : (a.vertices r.vertex).finish ≡ r.finish = ap
          (λ (x : Vertex). x.finish) running_ok.word in
          let s = state in let t = rule.live.finish r.vertex vertex (omega arith) in let g = t.0 in omega arith

      module _ (mine : r.right ≡ 1) where
        -- the right counts in the pair's balance
        pub right_counts : (d : ℕ) → has_right d v.running ≡ same d r.pair
        right_counts d = ap (has_right d) is ∙ ap (λ k. gate k (same d r.pair)) mine

        pub unclaimed : (a.pairs r.pair).claims < (a.pairs r.pair).total
        unclaimed = let b = rule.balances.balance r.pair pair_inside in let t = total_has (right_of r.pair) vs id v at in
            let c = right_counts r.pair in let s = same_self r.pair r.pair refl in omega arith

        pub left : handles (a.pairs r.pair) ≡ next_handle (a.pairs r.pair) ∷ handles
            (record (a.pairs r.pair) { claims = (a.pairs r.pair).claims + 1 })
        left = let q : Pair = a.pairs r.pair in handles_claim q.claims q.total q.kind q.first q.second unclaimed
            (rule.balances.most r.pair pair_inside)

        pub none_yet : v.claimed ≡ []
        none_yet = let c = subst (λ (o : Option Running). ClaimsOk p a.trees o v.claimed) is (rule.own id v at).claims in c.0 mine

        pub handle_under : Under p a.trees r.finish (next_handle (a.pairs r.pair))
        handle_under = let q : Pair = a.pairs r.pair in two q.claims q.total q.first q.second (running_ok.tops mine).first
            (running_ok.tops mine).second unclaimed (rule.balances.most r.pair pair_inside)
          where
            two : (c t f s : ℕ) → Under p a.trees r.finish f → (t ≡ 2 → Under p a.trees r.finish s) → c < t → t ≤ 2
                → Under p a.trees r.finish (get_or (f ∷ s ∷ []) c 0)
            two zero t f s x y l m = x
            two (suc zero) t f s x y l m = y (omega arith)
            two (suc (suc c)) t f s x y l m = absurd (omega arith)

        handle_holds : 0 < units p a vs (next_handle (a.pairs r.pair))
        handle_holds = let n : ℕ = next_handle (a.pairs r.pair) in let s =
            summand_le p.moves (λ (d : ℕ). count n (handles (a.pairs d))) r.pair pair_inside in let c = ap (count n) left in
            let e = same_self n n refl in omega arith

        -- the root of the vertex's finish has a unit
        pub right_holds : 0 < units p a vs r.finish
        right_holds = unit_roots (next_handle (a.pairs r.pair)) r.finish handle_under handle_holds

        -- and one that is in no share's list
        pub right_solid : 0 < sum_below p.moves (λ (d : ℕ). count r.finish
            (handles (a.pairs d))) + tree_units p.moves p.grown a.trees.parents a.nodes r.finish
        right_solid = let n : ℕ = next_handle (a.pairs r.pair) in let k = handle_under in
            let s = summand_le p.moves (λ (d : ℕ). count n (handles (a.pairs d))) r.pair pair_inside in let c = ap (count n) left in
            let e = same_self n n refl in
            solid_climbs p a.trees a.nodes (units p a vs) (halves vs) (openings a.vertices vs) rule.forest rule.counts rule.live.shut tree_part
            (λ n. sum_below p.moves (λ (d : ℕ). count n (handles (a.pairs d))) + tree_units p.moves p.grown a.trees.parents a.nodes n)
            (λ n. omega arith) (λ n. omega arith) (n + 1) n r.finish (omega arith) k.low k.top (omega arith)

      -- and so it has where the share holds the unit that it claimed
      pub claim_holds : (c : ℕ) → 0 < count c v.claimed → 0 < units p a vs r.finish
      claim_holds c z = let under = (subst (λ (o : Option Running). ClaimsOk p a.trees o v.claimed) is (rule.own id v at).claims).1 c z in
          by v.lifted refl under
        where
          above_one : (l : List ℕ) → 0 < count c l → 0 < above_units a.trees (a.trees.parents c) l
          above_one [] z = absurd (omega arith)
          above_one (x ∷ xs) z = ⊎_elim (λ (t : (c ≡ x) × (same c x ≡ 1)). let s =
              same_self (a.trees.parents c) (a.trees.parents x) (ap a.trees.parents t.0) in omega arith)
              (λ (t : (c ≢ x) × (same c x ≡ 0)). let e = t.1 in let r = above_one xs (omega arith) in omega arith) (same_tells c x)

          by : (s : ℕ) → v.lifted ≡ s → Under p a.trees r.finish c → 0 < units p a vs r.finish
          by zero e k = let h : claimed_units a.trees c v.lifted v.claimed ≡ count c v.claimed = ap (λ j. claimed_units a.trees c j v.claimed) e in
              unit_roots c r.finish k (unit_counts c (omega arith))
          by (suc s) e k = let h : claimed_above v.lifted c v.claimed ≡ count c v.claimed = ap (λ j. claimed_above j c v.claimed) e in
              let grown = (rule.own id v at).lifts c (omega arith) in
              let g = rule.forest.up c r.finish grown k.low k.top in let q : claimed_units a.trees
              (a.trees.parents c) v.lifted v.claimed ≡ above_units a.trees (a.trees.parents c) v.claimed = ap
              (λ j. claimed_units a.trees (a.trees.parents c) j v.claimed) e in
              let one = above_one v.claimed z in let low = k.low in let small = g.smaller in
              unit_roots (a.trees.parents c) r.finish record { low = omega arith; top = g.top } (unit_counts (a.trees.parents c) (omega arith))
