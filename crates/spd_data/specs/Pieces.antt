-- Byte strings that lie one behind the other, by the places where they end.
use Rattle.std.specs.Prelude.{◌≡◌, ℕ, zero, suc, ◌-◌, ◌≤◌, List, [], ◌∷◌, Some, take, drop, slice_get}

-- the pieces of the bytes from a place on, each up to its end
abbrev pub pieces : List ℕ → ℕ → List ℕ → List (List ℕ)
pieces bytes start [] = []
pieces bytes start (end ∷ ends) = take (end - start) (drop start bytes) ∷ pieces bytes end ends

-- No end lies before the one before it, and the last is the last byte's.
abbrev pub AreEnds : ℕ → List ℕ → ℕ → Type 0
AreEnds start [] last = start ≡ last
AreEnds start (end ∷ ends) last = (start ≤ end) × AreEnds end ends last

-- The piece of a number begins where the one before it ends.
abbrev pub BeginsAt : ℕ → List ℕ → ℕ → ℕ → Type 0
BeginsAt first ends zero start = start ≡ first
BeginsAt first ends (suc number) start = slice_get ends number ≡ Some start
