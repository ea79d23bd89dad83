-- A step of a share, whatever lies in its slots.
use Rattle.std.specs.Prelude.{ℕ, List, Option}
use Rattle.atomic_table.specs.Table.{Me}
use Rattle.spd_words.specs.Plan.{PlanView}
use Rattle.spd_state.specs.declared.view.View.{View}
use Rattle.spd_rule.specs.Held.{StepUnderRule}

-- A share with this view took a step under the rule. A body that it had in hand may have come into its slot just before.
pub record TakesStep {B : Type 0} (p : PlanView) (place found left : ℕ) (known known' : Me (Option B) View) : Type 0 where
  pub slots : List (ℕ × Option B)
  pub step : StepUnderRule p place found left (known.0, slots) known'
