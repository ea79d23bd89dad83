-- A unit anywhere in a tree keeps every count above it at 1 at least, up to the root.
use Rattle.std.proofs.Common.{◌≡◌, ℕ, ◌+◌, ◌-◌, ◌<◌, ◌≤◌, refl, sym, ap, ◌∙◌, subst, arith, Option, Some, None}
use Prim.Native.Nat.{zero, suc}
use mathlib.Core.Logic.{dite}
use native.Mathlib.Decide.{dec_lt}
use Rattle.spd_words.specs.Plan.{PlanView}
use Rattle.spd_words.specs.Words.{Node}
use Rattle.spd_state.specs.Sums.{same, gate}
use Rattle.spd_state.specs.Tree.{Trees, Under, Forest, lives, live_under, whole, tree_units, NodeRule}
use Rattle.spd_state.proofs.Sums.{same_self, summand_le}
use Rattle.spd_state.proofs.Roots.{unit_rises}

pub some_is : (f g : ℕ) → (let x : Option ℕ = Some f in x) ≡ Some g → f ≡ g
some_is f g e = cc

module _ (p : PlanView) (t : Trees) (nodes : ℕ → Node) (u h o : ℕ → ℕ) (forest : Forest p t) (counts : NodeRule p.moves p.grown nodes u h)
    (shut : (n : ℕ) → n < p.moves + p.grown → lives t o n ≡ 0 → u n ≡ 0)
    (part : (n : ℕ) → tree_units p.moves p.grown t.parents nodes n ≤ u n) where
  -- what isn't dead is under an open root
  pub live_at : (n : ℕ) → (lives t o n ≡ 0 → ⊥) → (f : ℕ) × (t.tops n ≡ Some f) × (0 < o f)
  live_at n live = by (t.tops n) refl
    where
      by : (x : Option ℕ) → t.tops n ≡ x → (f : ℕ) × (x ≡ Some f) × (0 < o f)
      by None e = absurd (live (ap (live_under o) e))
      by (Some f) e = dite (dec_lt 0 (o f)) (λ z. (f, refl, z)) (λ z. absurd (live (ap (live_under o) e ∙ (let q : o f ≡ 0 = omega arith in q))))

  pub unit_under : (n : ℕ) → n < p.moves + p.grown → 0 < u n → (f : ℕ) × (t.tops n ≡ Some f) × (0 < o f)
  unit_under n low has = live_at n (λ z. let e = shut n low z in absurd (omega arith))

  pub parent_has : (n : ℕ) → p.moves ≤ n → n < p.moves + p.grown → 0 < u n → 0 < u (t.parents n)
  parent_has n grown low has = let w = unit_rises p.moves p.grown nodes u h counts n grown low has in let c : ℕ = n - p.moves in
      let at : p.moves + c ≡ n = omega arith in
      let s = summand_le p.grown (λ k. gate (whole (nodes (p.moves + k)).twice) (same (t.parents n) (t.parents (p.moves + k)))) c (omega arith) in
      let one : gate (whole (nodes (p.moves + c)).twice) (same (t.parents n) (t.parents (p.moves + c))) ≡ 1 = ap
      (λ k. gate (whole (nodes k).twice) (same (t.parents n) (t.parents k))) at
      ∙ (ap (λ k. gate k (same (t.parents n) (t.parents n))) w ∙ same_self (t.parents n) (t.parents n) refl) in
      let q = part (t.parents n) in omega arith

  climbs : (k n f : ℕ) → n < k → n < p.moves + p.grown → t.tops n ≡ Some f → 0 < u n → 0 < u f
  climbs zero n f l low top has = absurd (omega arith)
  climbs (suc k) n f l low top has = dite (dec_lt n p.moves)
      (λ root. subst (λ j. 0 < u j) (some_is n f (sym (forest.root n root) ∙ top)) has)
      (λ r. let grown : p.moves ≤ n = omega arith in let g = forest.up n f grown low top in let s = g.smaller in
      climbs k (t.parents n) f (omega arith) (omega arith) g.top (parent_has n grown low has))

  -- a unit in the tree of f keeps the count of root f above 0
  pub unit_tops : (n f : ℕ) → Under p t f n → 0 < u n → 0 < u f
  unit_tops n f under has = climbs (n + 1) n f (omega arith) under.low under.top has

  -- the same of units that aren't the shares' own: a handle anywhere in the tree keeps a unit at the root that is in no share's list
  module _ (s : ℕ → ℕ) (less : (n : ℕ) → s n ≤ u n) (more : (n : ℕ) → tree_units p.moves p.grown t.parents nodes n ≤ s n) where
    parent_solid : (n : ℕ) → p.moves ≤ n → n < p.moves + p.grown → 0 < u n → 0 < s (t.parents n)
    parent_solid n grown low has = let w = unit_rises p.moves p.grown nodes u h counts n grown low has in let c : ℕ = n - p.moves in
        let at : p.moves + c ≡ n = omega arith in
        let b = summand_le p.grown (λ k. gate (whole (nodes (p.moves + k)).twice) (same (t.parents n) (t.parents (p.moves + k)))) c (omega arith) in
        let one : gate (whole (nodes (p.moves + c)).twice) (same (t.parents n) (t.parents (p.moves + c))) ≡ 1 = ap
        (λ k. gate (whole (nodes k).twice) (same (t.parents n) (t.parents k))) at
        ∙ (ap (λ k. gate k (same (t.parents n) (t.parents n))) w ∙ same_self (t.parents n) (t.parents n) refl) in
        let q = more (t.parents n) in omega arith

    pub solid_climbs : (k n f : ℕ) → n < k → n < p.moves + p.grown → t.tops n ≡ Some f → 0 < s n → 0 < s f
    solid_climbs zero n f l low top has = absurd (omega arith)
    solid_climbs (suc k) n f l low top has = dite (dec_lt n p.moves)
        (λ root. subst (λ j. 0 < s j) (some_is n f (sym (forest.root n root) ∙ top)) has)
        (λ r. let grown : p.moves ≤ n = omega arith in let g = forest.up n f grown low top in let m = g.smaller in let e = less n in
        solid_climbs k (t.parents n) f (omega arith) (omega arith) g.top (parent_solid n grown low (omega arith)))
