-- What is gathered, before and after one change. There is no taking away, so a change tells the rest.
use Rattle.std.proofs.Common.{◌≡◌, ◌≢◌, ℕ, ◌<◌, List, [], ◌∷◌, set, refl, sym, ap, ◌∙◌, arith}
use Prim.Native.Nat.{zero, suc}
use mathlib.Core.Logic.{dite}
use mathlib.Core.Option.{some, some-injective, some-ne-none}
use native.Mathlib.Decide.{ℕ_discrete}
use lib.ListN.{get_elem?}
use Rattle.spd_words.proofs.Gather.{swap}
use Rattle.spd_words.specs.Gather.{IsJoin, gather}
use Rattle.spd_debts.specs.Debts.{gather_below}

-- a is x with a rest, and b is y with the same rest
pub record Turned {C : Type 0} (op : C → C → C) (x y a b : C) : Type 0 where
  pub rest : C
  pub before : a ≡ op x rest
  pub after : b ≡ op y rest

module _ {C : Type 0} (op : C → C → C) (e : C) (law : IsJoin op e) where
  -- what doesn't change the part keeps the whole; what changes a word and the part together keeps both together
  pub turned_same : {x y a b : C} → y ≡ x → Turned op x y a b → b ≡ a
  turned_same {x} {y} {a} {b} h t = t.after ∙ ap (λ k. op k t.rest) h ∙ sym t.before

  pub turned_put : {x y a b : C} (u w : C) → op w y ≡ op u x → Turned op x y a b → op w b ≡ op u a
  turned_put {x} {y} {a} {b} u w h t = ap (op w) t.after ∙ sym (law.assoc w y t.rest) ∙ ap (λ k. op k t.rest) h ∙ law.assoc u x t.rest
      ∙ ap (op u) (sym t.before)

  module _ {A : Type 0} (f : A → C) where
    pub gather_set : (l : List A) (i : ℕ) (a b : A) → get_elem? l i ≡ some a → Turned op (f a) (f b) (gather op e f l) (gather op e f (set l i b))
    gather_set [] i a b g = absurd (some-ne-none a (sym g))
    gather_set (x ∷ xs) zero a b g = record { rest = gather op e f xs; before = ap (λ t. op (f t) (gather op e f xs)) (some-injective x a g); after = refl }
    gather_set (x ∷ xs) (suc i) a b g = let t = gather_set xs i a b g in
        record {
          rest = op (f x) t.rest;
          before = ap (op (f x)) t.before ∙ swap op e law (f x) (f a) t.rest;
          after = ap (op (f x)) t.after
              ∙ swap op e law (f x) (f b) t.rest;
        }

    -- nothing is owed where each thing is worth nothing
    pub gather_none : (l : List A) → ((j : ℕ) (a : A) → get_elem? l j ≡ some a → f a ≡ e) → gather op e f l ≡ e
    gather_none [] h = refl
    gather_none (x ∷ xs) h = (λ i. op (h 0 x refl i) (gather_none xs (λ j a g. h (suc j) a g) i)) ∙ law.unit

  pub below_alike : (n : ℕ) (f g : ℕ → C) → ((k : ℕ) → k < n → g k ≡ f k) → gather_below op e n g ≡ gather_below op e n f
  below_alike zero f g h = refl
  below_alike (suc n) f g h = λ i. op (h n (omega arith) i) (below_alike n f g (λ k l. h k (omega arith)) i)

  pub below_none : (n : ℕ) (f : ℕ → C) → ((k : ℕ) → k < n → f k ≡ e) → gather_below op e n f ≡ e
  below_none zero f h = refl
  below_none (suc n) f h = (λ i. op (h n (omega arith) i) (below_none n f (λ k l. h k (omega arith)) i)) ∙ law.unit

  pub below_set : (n : ℕ) (f g : ℕ → C) (i : ℕ) → i < n → ((k : ℕ) → k < n → k ≢ i → g k ≡ f k)
      → Turned op (f i) (g i) (gather_below op e n f) (gather_below op e n g)
  below_set zero f g i l h = absurd (omega arith)
  below_set (suc n) f g i l h = dite (ℕ_discrete i n)
      (λ z. record {
        rest = gather_below op e n f;
        before = ap (λ t. op (f t) (gather_below op e n f)) (sym z);
        after =
            (λ j. op (g (sym z j)) (below_alike n f g (λ k m. h k (omega arith) (λ q. omega arith)) j));
      })
      (λ z. let t = below_set n f g i (omega arith) (λ k m. h k (omega arith)) in
      record {
        rest = op (f n) t.rest;
        before = ap (op (f n)) t.before
            ∙ swap op e law (f n) (f i) t.rest;
        after = (λ j. op (h n (omega arith) (λ q. z (sym q)) j) (t.after j)) ∙ swap op e law (f n) (g i) t.rest;
      })
