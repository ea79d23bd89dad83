-- Lists in which each number stands as often.
use Rattle.std.proofs.Common.{◌≡◌, ℕ, ◌+◌, ◌<◌, List, [], ◌∷◌, ◌++◌, length, refl, subst, arith, remove, get_or, take, ◌≤◌, ◌≢◌, ⊎_elim, eqb, true, false}
use Prim.Native.Nat.{zero, suc}
use mathlib.Core.Option.{some}
use lib.ListN.{get_elem?}
use Rattle.std.proofs.lemmas.Bool.Decides.{eqb_tells}
use Rattle.spd_state.specs.Sums.{same, count, without}
use Rattle.spd_state.proofs.Sums.{same_self, same_else}
use Rattle.spd_state.proofs.Settle.{count_without, length_without}

pub count_append : (n : ℕ) (xs : List ℕ) (y : ℕ) → count n (xs ++ y ∷ []) ≡ count n xs + same n y
count_append n [] y = omega arith
count_append n (x ∷ xs) y = let r = count_append n xs y in omega arith

-- they are as long
pub same_length : (xs ys : List ℕ) → ((n : ℕ) → count n xs ≡ count n ys) → length xs ≡ length ys
same_length [] [] h = refl
same_length [] (y ∷ ys) h = let e = h y in let s = same_self y y refl in absurd (omega arith)
same_length (x ∷ xs) ys h = let s = same_self x x refl in let has : 0 < count x ys = let e = h x in omega arith in
    let l = length_without x ys has in let r = same_length xs (without x ys) (λ n. let e = h n in let w = count_without n x ys has in omega arith) in
    omega arith

pub count_remove : (n : ℕ) (xs : List ℕ) (i d : ℕ) → i < length xs → count n (remove xs i) + same n (get_or xs i d) ≡ count n xs
count_remove n [] i d h = absurd (omega arith)
count_remove n (x ∷ xs) zero d h = omega arith
count_remove n (x ∷ xs) (suc i) d h = let r = count_remove n xs i d (omega arith) in omega arith

take_more : (n : ℕ) (xs : List ℕ) (i d : ℕ) → i < length xs → count n (take (suc i) xs) ≡ count n (take i xs) + same n (get_or xs i d)
take_more n [] i d h = absurd (omega arith)
take_more n (x ∷ xs) zero d h = omega arith
take_more n (x ∷ xs) (suc i) d h = let r = take_more n xs i d (omega arith) in omega arith

-- one number more of a list
pub count_take : (n : ℕ) (xs : List ℕ) (i d : ℕ) → i < length xs → count n (take (i + 1) xs) ≡ count n (take i xs) + same n (get_or xs i d)
count_take n xs i d h = let e : suc i ≡ i + 1 = omega arith in subst
    (λ (k : ℕ). count n (take k xs) ≡ count n (take i xs) + same n (get_or xs i d)) e (take_more n xs i d h)

pub count_few : (n : ℕ) (xs : List ℕ) → count n xs ≤ length xs
count_few n [] = omega arith
count_few n (x ∷ xs) = let r = count_few n xs in let s = same_few n x in omega arith
  where
    same_few : (a b : ℕ) → same a b ≤ 1
    same_few a b = ⊎_elim (λ (t : (eqb a b ≡ true) × (a ≡ b)). let s = same_self a b t.1 in omega arith)
        (λ (t : (eqb a b ≡ false) × (a ≢ b)). let s = same_else a b t.1 in omega arith) (eqb_tells a b)

-- what stands at a place of a list
pub is_at : (l : List ℕ) (i a : ℕ) → get_elem? l i ≡ some a → a ≡ get_or l i 0
is_at [] i a e = absurd (cc)
is_at (x ∷ xs) zero a e = cc
is_at (x ∷ xs) (suc i) a e = is_at xs i a e
