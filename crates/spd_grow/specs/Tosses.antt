-- What a contract sees of a coin over PCG32, and of a coin that follows a list.
use Rattle.std.specs.Prelude.{ℕ, List, [], ◌∷◌, Bool, false}
use Rattle.rand_pcg.specs.Lcg.{Lcg}

-- its generator, how many of the 65,536 low halves of a word are heads, and how often it fell on each side
pub record PcgCoinState : Type 0 where
  pub generator : Lcg
  pub chance : ℕ
  pub tails : ℕ
  pub heads : ℕ

-- the sides that it is still to fall on before it falls tails for good, and how often it fell on each side
pub record ListCoinState : Type 0 where
  pub coming : List Bool
  pub tails : ℕ
  pub heads : ℕ

-- the side on which it falls next: tails, which is false, where none is left
abbrev pub next_side : List Bool → Bool
next_side [] = false
next_side (side ∷ _) = side
