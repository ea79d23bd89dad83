-- What a log keeps of the regions that ran.
use Rattle.std.specs.Prelude.{ℕ, ◌+◌, ◌%◌, ◌^◌, Option, Some, None}
use Rattle.spd_words.specs.Plan.{PlanView}

-- how many there were, and how many moves they drew, both modulo 2^64; and the plan of the last one
pub record RunLogView : Type 0 where
  pub regions : ℕ
  pub moves : ℕ
  pub plan : Option PlanView

abbrev pub empty_log : RunLogView
empty_log = record { regions = 0; moves = 0; plan = None }

-- a log to which a region of this plan is added that drew so many moves
abbrev pub with_region : PlanView → ℕ → RunLogView → RunLogView
with_region plan moves log = record {
  regions = (log.regions + 1) % 2 ^ 64;
  moves = (log.moves + moves) % 2 ^ 64;
  plan = Some plan;
}
