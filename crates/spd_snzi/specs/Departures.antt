-- A departure turn by turn: what the share knows at each stage, and what a turn answers.
use Rattle.std.specs.Prelude.{◌≡◌, ◌+◌, ◌-◌, ◌%◌, ◌^◌, ◌<◌, ℕ, Option}
use Rattle.atomic_table.specs.Table.{Me}
use Rattle.spd_words.specs.Plan.{PlanView, node_place}
use Rattle.spd_words.specs.Words.{node_of}
use Rattle.spd_state.specs.declared.view.View.{View}
use Rattle.spd_rule.specs.Held.{StepUnderRule}
use Rattle.spd_rule.specs.Rest.{sub_known}
use Rattle.spd_rule.specs.Steps.{MaySub}
use Rattle.spd_rule.specs.Shares.{field_plan, share_view, share_known}
use Rattle.spd_rule.specs.declared.field.Field.{Field}
use Rattle.spd_rule.specs.declared.field.Share.{Share}
use Rattle.spd_snzi.specs.Told.{told_by, KnowsTold}
use Rattle.spd_snzi.specs.declared.depart.DepartCall.{DepartCall}
use Rattle.spd_snzi.specs.declared.depart.DepartStage.{DepartStage}
use Rattle.spd_snzi.specs.declared.depart.DepartStage.TheVariants as stage
use Rattle.spd_snzi.specs.declared.depart.DepartTurn.{DepartTurn}
use Rattle.spd_snzi.specs.declared.depart.DepartTurn.TheVariants as turn

-- The node is a root of the plan, and the share holds a unit there that may leave.
pub record MayDepart (p : PlanView) (unit : ℕ) (v : View) : Type 0 where
  pub root : unit < p.moves
  pub subs : MaySub unit v

-- what comes after a turn: another stage, or the end, with what the share is told
pub data AfterDepart : Type 0 where
  depart_goes : DepartStage → AfterDepart
  depart_ends : Option ℕ → AfterDepart

-- The table of turns: by the unit's node, the stage and the word that its step found.
abbrev pub depart_next : ℕ → DepartStage → ℕ → AfterDepart
depart_next unit stage.SubRoot found = depart_ends (told_by unit (node_of found))

-- where the word of a turn's step stands, and what the step leaves there
abbrev pub depart_place : PlanView → ℕ → DepartStage → ℕ
depart_place p unit stage.SubRoot = node_place p unit

abbrev pub depart_writes : DepartStage → ℕ → ℕ
depart_writes stage.SubRoot found = (found + (2 ^ 64 - 2)) % 2 ^ 64

-- what the share knows at each stage, as a function of the view with which the call began
abbrev pub depart_view : DepartStage → View → View
depart_view stage.SubRoot before = before

-- The call began with a unit at this node and with this view, and its turns alone have changed what the share knows.
pub record DepartGoes (p : PlanView) (unit : ℕ) (before : View) (call : DepartCall) (v : View) : Type 0 where
  pub asks : call.unit ≡ unit
  pub may : MayDepart p unit before
  pub is : v ≡ depart_view call.stage before

-- by the table of turns
abbrev pub DepartAnswers : AfterDepart → DepartStage → DepartTurn → Type 0
DepartAnswers (depart_goes s) new result = (new ≡ s) × (result ≡ turn.More)
DepartAnswers (depart_ends told) new result = result ≡ turn.Done told

-- `More` goes on. At `Done` one unit at the node has left, by a step that found this word; what is told is known.
abbrev pub DepartComes : {B : Type 0} → PlanView → ℕ → View → ℕ → DepartCall → Me (Option B) View → Me (Option B) View
    → DepartTurn → Type 0
DepartComes p unit before found new me me' turn.More = DepartGoes p unit before new me'.0
DepartComes p unit before found new me me' (turn.Done told) = (me' ≡ sub_known unit (node_of found) (before, me.1))
    × KnowsTold told me'.0

-- A turn of a call that began so took one step, the one of its stage, under the rule, and answered by the
-- table.
pub record DepartTurned {B : Type 0} (field : Field B) (unit : ℕ) (before : View) (old new : DepartCall) (s t : Share B)
    (result : DepartTurn) : Type 0 where
  pub found : ℕ
  pub step : StepUnderRule (field_plan field) (depart_place (field_plan field) old.unit old.stage) found
      (depart_writes old.stage found) (share_known s) (share_known t)
  pub counted : (share_view t).steps ≡ (share_view s).steps + 1
  pub table : DepartAnswers (depart_next old.unit old.stage found) new.stage result
  pub comes : DepartComes (field_plan field) unit before found new (share_known s) (share_known t) result

-- the same of every beginning from which the call came here
abbrev pub DepartPlays : {B : Type 0} → Field B → DepartCall → DepartCall → Share B → Share B → DepartTurn → Type 0
DepartPlays {B} field old new s t result = (unit : ℕ) (before : View) → DepartGoes (field_plan field) unit before old (share_view s)
    → DepartTurned field unit before old new s t result

-- The call may go on, from some beginning.
abbrev pub DepartMayGo : {B : Type 0} → Field B → DepartCall → Share B → Type 0
DepartMayGo field call share = (unit : ℕ) × (before : View) × DepartGoes (field_plan field) unit before call (share_view share)

-- A new call may begin wherever a share may depart with a unit there.
abbrev pub DepartBegins : ℕ → DepartCall → Type 0
DepartBegins unit call = (p : PlanView) (v : View) → MayDepart p unit v → DepartGoes p unit v call v
