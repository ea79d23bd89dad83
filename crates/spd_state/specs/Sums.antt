-- Sums and counts over lists and over numbers, and functions that differ at one number.
use Rattle.std.specs.Prelude.{◌≡◌, ℕ, ◌+◌, List, [], ◌∷◌, cond, ◌==◌}
use Prim.Native.Nat.{zero, suc}
use mathlib.Core.Option.{some}
use lib.ListN.{get_elem?}

-- 1 where the two are one number
unfoldable pub same : ℕ → ℕ → ℕ
same a b = cond (a == b) 1 0

-- n where the first is not 0
abbrev pub gate : ℕ → ℕ → ℕ
gate zero n = 0
gate (suc k) n = n

-- n added up k times
abbrev pub times : ℕ → ℕ → ℕ
times zero n = 0
times (suc k) n = n + times k n

-- the sum over a list
abbrev pub total : {A : Type 0} → (A → ℕ) → List A → ℕ
total f [] = 0
total f (x ∷ xs) = f x + total f xs

-- how often n stands in the list
abbrev pub count : ℕ → List ℕ → ℕ
count n [] = 0
count n (x ∷ xs) = same n x + count n xs

-- the list without its first n
abbrev pub without : ℕ → List ℕ → List ℕ
without n [] = []
without n (x ∷ xs) = cond (n == x) xs (x ∷ without n xs)

-- the sum over the numbers below n
abbrev pub sum_below : ℕ → (ℕ → ℕ) → ℕ
sum_below zero f = 0
sum_below (suc n) f = f n + sum_below n f

-- f, but x at i
unfoldable pub put : {A : Type 0} → (ℕ → A) → ℕ → A → ℕ → A
put f i x j = cond (j == i) x (f j)

-- what holds of each entry of a list
abbrev pub Each : {A : Type 0} → (A → Type 0) → List A → Type 0
Each {A} P xs = (j : ℕ) (x : A) → get_elem? xs j ≡ some x → P x
