-- What a contract sees of a pile.
use Rattle.std.specs.Prelude.{ℕ, List}

-- how many numbers it has room for, and the numbers in it, the newest last
pub record PileState : Type 0 where
  pub room : ℕ
  pub numbers : List ℕ
