-- Where a call that goes turn by turn began, and what the rule has shown of that.
use Rattle.std.specs.Prelude.{◌≡◌, ◌<◌, [], ℕ, Option}
use Rattle.atomic_table.specs.Table.{Me}
use Rattle.spd_words.specs.Plan.{PlanView, IsPlan}
use Rattle.spd_state.specs.Parts.{IsInside}
use Rattle.spd_state.specs.declared.view.Running.{Running}
use Rattle.spd_state.specs.declared.view.View.{View}

-- the beginning of a call of two bodies: what the share knew, the vertex that it ran, and the bodies that it was given
pub record Origin (B : Type 0) : Type 0 where
  pub known : Me (Option B) View
  pub runs : Running
  pub body : B
  pub rest : B

-- The move d was drawn for a call that began with this view: it is one of the plan, and the rule has shown of the
-- beginning that the numbers of the running vertex are within the plan, and that it had neither claimed nor set a root.
pub record HasDrawn (p : PlanView) (d : ℕ) (r : Running) (v : View) : Type 0 where
  pub plan : IsPlan p
  pub low : d < p.moves
  pub inside : IsInside p r
  pub claimed : v.claimed ≡ []
  pub rooted : v.rooted ≡ []
