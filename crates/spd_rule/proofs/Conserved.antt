-- A step brings no body: what lies in a slot afterwards lay there before.
use Rattle.std.proofs.Common.{◌≡◌, ◌≢◌, ℕ, List, [], ◌∷◌, set, sym, subst, inl, inr, ⊎_elim}
use Prim.Native.Nat.{zero, suc}
use mathlib.Core.Option.{some, none, some-injective, some-ne-none}
use mathlib.Core.Option as maybe
use lib.ListN.{get_elem?}
use Rattle.atomic_table.specs.Table.{Act, keeps, takes, gives, chain, Valid, homes_after, carried_after}
use Rattle.atomic_table.proofs.Lists.{at_set}
use Rattle.spd_rule.specs.Lying.{LiesIn}

module _ {S : Type 0} where
  -- by the act that goes with the step
  pub lay_there : (act : Act S) (homes : List (maybe.Option S)) (c : List (ℕ × S)) → Valid homes c act → (i : ℕ) (y : S)
      → LiesIn i y (homes_after homes c act) (carried_after c act) → LiesIn i y homes c
  lay_there keeps homes c valid i y lies = lies
  lay_there (takes k x) homes c valid i y lies = ⊎_elim
      (λ (h : get_elem? (set homes k none) i ≡ some (some y)). ⊎_elim
      (λ (t : (i ≡ k) × (none ≡ some y)). absurd (some-ne-none y (sym t.1)))
      (λ (t : (i ≢ k) × (get_elem? homes i ≡ some (some y))). inl t.1) (at_set homes k i none (some y) h))
      (λ (h : (j : ℕ) × (get_elem? ((k, x) ∷ c) j ≡ some (i, y))). taken h.0 h.1) lies
    where
      taken : (j : ℕ) → get_elem? ((k, x) ∷ c) j ≡ some (i, y) → LiesIn i y homes c
      taken zero e = let p : (k, x) ≡ (i, y) = some-injective (k, x) (i, y) e in
          inl (subst (λ (X : Type 0). X) (λ z. get_elem? homes (p z).0 ≡ some (some (p z).1)) valid)
      taken (suc j) e = inr (j, e)
  lay_there gives homes [] valid i y lies = lies
  lay_there gives homes (x ∷ xs) valid i y lies = ⊎_elim
      (λ (h : get_elem? (set homes x.0 (some x.1)) i ≡ some (some y)). ⊎_elim
      (λ (t : (i ≡ x.0) × (some x.1 ≡ some y)). inr (0, λ z. some (sym t.0 z, some-injective x.1 y t.1 z)))
      (λ (t : (i ≢ x.0) × (get_elem? homes i ≡ some (some y))). inl t.1) (at_set homes x.0 i (some x.1) (some y) h))
      (λ (h : (j : ℕ) × (get_elem? xs j ≡ some (i, y))). inr (suc h.0, h.1)) lies
  lay_there (chain a b) homes c valid i y lies =
      lay_there a homes c valid.0 i y (lay_there b (homes_after homes c a) (carried_after c a) valid.1 i y lies)
