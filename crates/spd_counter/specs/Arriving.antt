-- When a share may increment, and how the first turn of an increment arrives.
use Rattle.std.specs.Prelude.{◌≡◌, ◌<◌, ℕ, Some}
use Rattle.spd_words.specs.Plan.{PlanView}
use Rattle.spd_state.specs.Dag.{load_of}
use Rattle.spd_state.specs.Stages.{finish_in}
use Rattle.spd_state.specs.Steps.{add_view}
use Rattle.spd_state.specs.declared.view.Running.{Running}
use Rattle.spd_state.specs.declared.view.View.{View}
use Rattle.spd_rule.specs.Steps.{IsFree}
use Rattle.spd_rule.specs.Shares.{AddsUnderRule, root_place, share_view}
use Rattle.spd_rule.specs.declared.field.Field.{Field}
use Rattle.spd_rule.specs.declared.field.Share.{Share}

-- It runs a vertex of a finish of the plan, with its right, and holds fewer than 64 units; it has neither to collect nor
-- to put the code 0.
pub record MayIncrement (p : PlanView) (v : View) : Type 0 where
  pub runs : Running
  pub running : v.running ≡ Some runs
  pub right : runs.right ≡ 1
  pub finish : runs.finish < p.moves
  pub room : load_of v < 64
  pub free : IsFree v

-- The share has arrived at this node, the root of the running vertex's finish.
pub record ArrivesAtRoot {B : Type 0} (field : Field B) (node : ℕ) (s t : Share B) : Type 0 where
  pub root : node ≡ finish_in (share_view s).running
  pub found : ℕ
  pub step : AddsUnderRule field (root_place field node) 2 found s t
  pub view : share_view t ≡ add_view node (share_view s)
