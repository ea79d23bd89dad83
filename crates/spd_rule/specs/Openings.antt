-- The words of a table in which nothing has begun.
use Rattle.std.specs.Prelude.{◌≡◌, ◌<◌, ℕ, List, length, slice_index}
use Rattle.spd_words.specs.Plan.{PlanView, plan_words, fault_place}
use Rattle.spd_words.specs.Gift.{no_fault}

-- All are 0, but that each finish has the greatest code.
pub record StartsBlank (p : PlanView) (words : List ℕ) : Type 0 where
  pub long : length words ≡ plan_words p
  pub zeros : (i : ℕ) → i < fault_place p 0 → slice_index words i ≡ 0
  pub codes : (d : ℕ) → d < p.moves → slice_index words (fault_place p d) ≡ no_fault
