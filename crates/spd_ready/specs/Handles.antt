-- What a contract sees of a worker's handle on a locked list.
use Rattle.std.specs.Prelude.{ℕ}

-- how many vertices it may push, how many it has pushed, and how often its one lane was empty
pub record LockedReadyState : Type 0 where
  pub room : ℕ
  pub pushed : ℕ
  pub looks : ℕ
