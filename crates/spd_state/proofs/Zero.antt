-- What a root at 0 means: no unit is left in its tree, none of its finish's vertices is unfinished, no share can raise it again, and its waiting
-- vertex is told once.
use Rattle.std.proofs.Common.{◌≡◌, ◌≢◌, ℕ, ◌+◌, ◌*◌, ◌<◌, ◌≤◌, List, length, refl, sym, ap, ◌∙◌, subst, arith, Option, Some, None}
use mathlib.Core.Option.{some}
use mathlib.Core.Option as maybe
use mathlib.Core.Logic.{dite}
use native.Mathlib.Decide.{ℕ_discrete}
use lib.ListN.{get_elem?}
use Prim.Native.Nat.{zero, suc}
use Rattle.spd_words.specs.Plan.{PlanView}
use Rattle.spd_state.specs.Sums.{gate, times, same, count, sum_below}
use Rattle.spd_state.specs.Tree.{Under, tree_units}
use Rattle.spd_state.specs.Dag.{Dag, waits, not_end, units_of, handles, right_at, units, openings, tree_right, tellers}
use Rattle.spd_state.specs.Unfinished.{unstarted, unsignalled, unstored, unstored_of, unfinished}
use Rattle.spd_state.specs.Parts.{Rule}
use Rattle.spd_state.specs.declared.view.View.{View}
use Rattle.spd_state.specs.declared.view.Running.{Running}
use Rattle.spd_state.specs.declared.view.Flight.{Flight}
use Rattle.spd_state.proofs.Sums.{same_means, total_has, total_none, sum_none}
use Rattle.spd_state.proofs.Rights.{unit_roots, running_ok, right_solid}
use Rattle.spd_state.proofs.Add.{right_counts_there}
use Rattle.spd_state.proofs.Ended.{no_units, all_started, no_right, no_claim}
use Rattle.spd_state.proofs.InFlight.{unstored_holds}

gate_none : (k : ℕ) → gate k 0 ≡ 0
gate_none zero = refl
gate_none (suc k) = refl

times_none : (k : ℕ) → times k 0 ≡ 0
times_none zero = refl
times_none (suc k) = let h = times_none k in omega arith

module _ {B : Type 0} (p : PlanView) (a : Dag) (homes : List (maybe.Option (Option B))) (vs : List View) (rule : Rule p a homes vs) where
  module _ (f : ℕ) (low : f < p.moves) (gone : (a.nodes f).twice ≡ 0) where
    -- no unit is left under a root at 0
    pub no_unit_under : (n : ℕ) → Under p a.trees f n → units p a vs n ≡ 0
    no_unit_under n under = dite (ℕ_discrete (units p a vs n) 0) (λ e. e)
        (λ e. let h = unit_roots p a homes vs rule n f under (omega arith) in let z = no_units p a homes vs rule f low gone in absurd (omega arith))

    -- no stored vertex of its finish waits or is ready
    none_unstarted : (x : ℕ) → x < 2 * p.moves → unstarted f x (a.vertices x) ≡ 0
    none_unstarted x l = dite (ℕ_discrete x 1) (λ e. ap (λ k. gate (not_end k) (gate (waits (a.vertices x).state) (same f (a.vertices x).finish))) e)
        (λ n. let s : gate (waits (a.vertices x).state) (same f (a.vertices x).finish) ≡ 0 = by (a.vertices x).state refl n in ap (gate (not_end x)) s
        ∙ gate_none (not_end x))
      where
        named : (s : ℕ) → (a.vertices x).state ≡ s → 0 < s → s < 3 → x ≢ 1 → (k : ℕ) → same f (a.vertices x).finish ≡ k → k ≡ 0
        named s e z t n zero q = refl
        named s e z t n (suc k) q = let m = all_started p a homes vs rule f low gone x l (omega arith) n
            (sym (same_means f (a.vertices x).finish (omega arith))) in absurd (omega arith)

        by : (s : ℕ) → (a.vertices x).state ≡ s → x ≢ 1 → gate (waits (a.vertices x).state) (same f (a.vertices x).finish) ≡ 0
        by zero e n = ap (λ k. gate (waits k) (same f (a.vertices x).finish)) e
        by (suc zero) e n = ap (λ k. gate (waits k) (same f (a.vertices x).finish)) e
            ∙ named 1 e (omega arith) (omega arith) n (same f (a.vertices x).finish) refl
        by (suc (suc zero)) e n = ap (λ k. gate (waits k) (same f (a.vertices x).finish)) e
            ∙ named 2 e (omega arith) (omega arith) n (same f (a.vertices x).finish) refl
        by (suc (suc (suc s))) e n = ap (λ k. gate (waits k) (same f (a.vertices x).finish)) e

    -- no share runs one with its right or its claimed unit
    none_unsignalled : (j : ℕ) (v : View) → get_elem? vs j ≡ some v → unsignalled f v.running v.claimed ≡ 0
    none_unsignalled j v at = by v.running refl
      where
        named : (r : Running) → v.running ≡ Some r → (k : ℕ) → same f r.finish ≡ k → gate (r.right + length v.claimed) k ≡ 0
        named r e zero q = gate_none (r.right + length v.claimed)
        named r e (suc k) q = let is : f ≡ r.finish = same_means f r.finish (omega arith) in
            let z = no_right p a homes vs rule f low gone j v r at e (sym is) in
            let c : length v.claimed ≡ 0 = ap length (no_claim p a homes vs rule f low gone j v r at e (sym is)) in
            ap (λ n. gate n (suc k)) (let s : r.right + length v.claimed ≡ 0 = omega arith in s)

        by : (o : Option Running) → v.running ≡ o → unsignalled f o v.claimed ≡ 0
        by None e = refl
        by (Some r) e = ap (gate (not_end r.vertex)) (named r e (same f r.finish) refl) ∙ gate_none (not_end r.vertex)

    -- no move in flight has one yet to store
    none_unstored : (j : ℕ) (v : View) → get_elem? vs j ≡ some v → unstored f v.flight ≡ 0
    none_unstored j v at = by v.flight refl
      where
        named : (g : Flight) → v.flight ≡ Some g → (n k : ℕ) → unstored_of g.draw g.stage ≡ n → same f g.finish ≡ k → times n k ≡ 0
        named g e zero k i q = refl
        named g e (suc n) zero i q = times_none (suc n)
        named g e (suc n) (suc k) i q = let h = unstored_holds p a homes vs rule j v at g e (omega arith) in
            let is : units p a vs f ≡ units p a vs g.finish = ap (units p a vs) (same_means f g.finish (omega arith)) in
            let z = no_units p a homes vs rule f low gone in absurd (omega arith)

        by : (o : Option Flight) → v.flight ≡ o → unstored f o ≡ 0
        by None e = refl
        by (Some g) e = named g e (unstored_of g.draw g.stage) (same f g.finish) refl refl

    -- a root at 0 leaves no unfinished vertex
    pub none_unfinished : unfinished p a vs f ≡ 0
    none_unfinished = let s = sum_none (2 * p.moves) (λ x. unstarted f x (a.vertices x)) none_unstarted in
        let r = total_none (λ (v : View). unsignalled f v.running v.claimed) vs none_unsignalled in
        let y = total_none (λ (v : View). unstored f v.flight) vs none_unstored in omega arith

    -- no share has a right there, so that none may raise it
    pub no_right_there : (id : ℕ) (v : View) → get_elem? vs id ≡ some v → tree_right f v ≡ 0
    no_right_there id v at = dite (ℕ_discrete (tree_right f v) 0) (λ e. e)
        (λ e. let h = right_counts_there p a homes vs rule id v at f (omega arith) in let z = no_units p a homes vs rule f low gone in
        absurd (omega arith))

    -- its waiting vertex is stored; either it waits and exactly one share is told, or it is ready or started and none is
    pub told_once : 0 < openings a.vertices vs f → (0 < (a.vertices (2 * f + 1)).state) × ((a.vertices (2 * f + 1)).state ≡ 1 → tellers vs f ≡ 1)
        × (2 ≤ (a.vertices (2 * f + 1)).state → tellers vs f ≡ 0)
    told_once open' = let z = no_units p a homes vs rule f low gone in
        (rule.finishes.over f low open' z, rule.finishes.tell f low open' z, rule.finishes.woken f low open' z)

  -- while root f is at 1 at least nobody is told f, and its waiting vertex isn't ready
  pub told_never : (f : ℕ) → f < p.moves → 0 < openings a.vertices vs f → 0 < (a.nodes f).twice → ((a.vertices (2 * f + 1)).state ≤ 1)
      × (tellers vs f ≡ 0)
  told_never f low open' more = let c = rule.counts.count f low in rule.finishes.going f low open' (omega arith)

  -- where the waiting vertex of an open finish is ready or started, its root is 0
  pub started_zero : (f : ℕ) → f < p.moves → 0 < openings a.vertices vs f → 2 ≤ (a.vertices (2 * f + 1)).state → (a.nodes f).twice ≡ 0
  started_zero f low open' s = dite (ℕ_discrete (a.nodes f).twice 0) (λ e. e)
      (λ e. let t = (told_never f low open' (omega arith)).0 in absurd (omega arith))

  -- a share that runs a vertex of f with its right isn't the last there: what it gives back doesn't take root f to 0
  pub not_last : (id : ℕ) (v : View) → get_elem? vs id ≡ some v → (f : ℕ) → f < p.moves → 0 < right_at f v.running → 0 < count f v.held
      → 2 < (a.nodes f).twice
  not_last id v at f low right has = by v.running refl right
    where
      by : (o : Option Running) → v.running ≡ o → 0 < right_at f o → 2 < (a.nodes f).twice
      by None e z = absurd (omega arith)
      by (Some r) e z = go r.right refl z
        where
          go : (x : ℕ) → r.right ≡ x → 0 < gate x (same f r.finish) → 2 < (a.nodes f).twice
          go zero i z = absurd (omega arith)
          go (suc x) i z = let ok = running_ok p a homes vs rule id v at r e in let le = ok.right in let is = same_means f r.finish z in
              let s = subst (λ (k : ℕ). 0 < sum_below p.moves (λ (d : ℕ). count k
              (handles (a.pairs d))) + tree_units p.moves p.grown a.trees.parents a.nodes k) (sym is)
              (right_solid p a homes vs rule id v at r e (omega arith)) in
              let t = total_has (units_of a.trees f) vs id v at in let c = rule.counts.count f low in omega arith
