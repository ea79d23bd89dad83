-- An arrival turn by turn: what the share knows at each stage, and what a turn answers.
use Rattle.std.specs.Prelude.{◌≡◌, ◌+◌, ◌%◌, ◌^◌, ◌<◌, ℕ}
use Rattle.spd_words.specs.Plan.{PlanView, node_place}
use Rattle.spd_state.specs.Steps.{add_view}
use Rattle.spd_state.specs.declared.view.View.{View}
use Rattle.spd_rule.specs.Held.{StepUnderRule}
use Rattle.spd_rule.specs.Steps.{MayAdd}
use Rattle.spd_rule.specs.Shares.{field_plan, share_view, share_known}
use Rattle.spd_rule.specs.declared.field.Field.{Field}
use Rattle.spd_rule.specs.declared.field.Share.{Share}
use Rattle.spd_snzi.specs.declared.arrive.ArriveCall.{ArriveCall}
use Rattle.spd_snzi.specs.declared.arrive.ArriveStage.{ArriveStage}
use Rattle.spd_snzi.specs.declared.arrive.ArriveStage.TheVariants as stage
use Rattle.spd_snzi.specs.declared.arrive.ArriveTurn.{ArriveTurn}
use Rattle.spd_snzi.specs.declared.arrive.ArriveTurn.TheVariants as turn

-- The node is a root of the plan, and the share has a right in its tree and room for a unit.
pub record MayArrive (p : PlanView) (node : ℕ) (v : View) : Type 0 where
  pub root : node < p.moves
  pub adds : MayAdd node v

-- what comes after a turn: another stage, or the end, with a unit at a node
pub data AfterArrive : Type 0 where
  arrive_goes : ArriveStage → AfterArrive
  arrive_ends : ℕ → AfterArrive

-- The table of turns: by the node, the stage and the word that its step found.
abbrev pub arrive_next : ℕ → ArriveStage → ℕ → AfterArrive
arrive_next node stage.AddRoot found = arrive_ends node

-- where the word of a turn's step stands, and what the step leaves there
abbrev pub arrive_place : PlanView → ℕ → ArriveStage → ℕ
arrive_place p node stage.AddRoot = node_place p node

abbrev pub arrive_writes : ArriveStage → ℕ → ℕ
arrive_writes stage.AddRoot found = (found + 2) % 2 ^ 64

-- what the share knows at each stage, as a function of the view with which the call began
abbrev pub arrive_view : ArriveStage → View → View
arrive_view stage.AddRoot before = before

-- The call began at this node with this view, and its turns alone have changed what the share knows.
pub record ArriveGoes (p : PlanView) (node : ℕ) (before : View) (call : ArriveCall) (v : View) : Type 0 where
  pub asks : call.node ≡ node
  pub may : MayArrive p node before
  pub is : v ≡ arrive_view call.stage before

-- by the table of turns
abbrev pub ArriveAnswers : AfterArrive → ArriveStage → ArriveTurn → Type 0
ArriveAnswers (arrive_goes s) new result = (new ≡ s) × (result ≡ turn.More)
ArriveAnswers (arrive_ends unit) new result = result ≡ turn.Done unit

-- `More` goes on. At `Done` the share holds one unit more than where the call began, at the node asked for.
abbrev pub ArriveComes : PlanView → ℕ → View → ArriveCall → View → ArriveTurn → Type 0
ArriveComes p node before new v turn.More = ArriveGoes p node before new v
ArriveComes p node before new v (turn.Done unit) = (unit ≡ node) × (v ≡ add_view node before)

-- A turn of a call that began so took one step, the one of its stage, under the rule, and answered by the
-- table.
pub record ArriveTurned {B : Type 0} (field : Field B) (node : ℕ) (before : View) (old new : ArriveCall) (s t : Share B)
    (result : ArriveTurn) : Type 0 where
  pub found : ℕ
  pub step : StepUnderRule (field_plan field) (arrive_place (field_plan field) old.node old.stage) found
      (arrive_writes old.stage found) (share_known s) (share_known t)
  pub counted : (share_view t).steps ≡ (share_view s).steps + 1
  pub table : ArriveAnswers (arrive_next old.node old.stage found) new.stage result
  pub comes : ArriveComes (field_plan field) node before new (share_view t) result

-- the same of every beginning from which the call came here
abbrev pub ArrivePlays : {B : Type 0} → Field B → ArriveCall → ArriveCall → Share B → Share B → ArriveTurn → Type 0
ArrivePlays {B} field old new s t result = (node : ℕ) (before : View) → ArriveGoes (field_plan field) node before old (share_view s)
    → ArriveTurned field node before old new s t result

-- The call may go on, from some beginning.
abbrev pub ArriveMayGo : {B : Type 0} → Field B → ArriveCall → Share B → Type 0
ArriveMayGo field call share = (node : ℕ) × (before : View) × ArriveGoes (field_plan field) node before call (share_view share)

-- A new call may begin wherever a share may arrive at this node.
abbrev pub ArriveBegins : ℕ → ArriveCall → Type 0
ArriveBegins node call = (p : PlanView) (v : View) → MayArrive p node v → ArriveGoes p node v call v
