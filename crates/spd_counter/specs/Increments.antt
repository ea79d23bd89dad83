-- An increment turn by turn: what the share knows at each stage, and what a turn answers.
use Rattle.std.specs.Prelude.{◌≡◌, ◌+◌, ◌%◌, ◌^◌, ◌<◌, ℕ}
use Rattle.spd_words.specs.Plan.{PlanView, node_place, pair_place}
use Rattle.spd_words.specs.Words.{pair_of}
use Rattle.spd_state.specs.Dag.{next_handle}
use Rattle.spd_state.specs.Steps.{add_view, claim_after}
use Rattle.spd_state.specs.declared.view.Running.{Running}
use Rattle.spd_state.specs.declared.view.View.{View}
use Rattle.spd_rule.specs.Held.{StepUnderRule}
use Rattle.spd_rule.specs.Shares.{field_plan, share_view, share_known}
use Rattle.spd_rule.specs.declared.field.Field.{Field}
use Rattle.spd_rule.specs.declared.field.Share.{Share}
use Rattle.spd_counter.specs.Receipts.{still_receipt}
use Rattle.spd_counter.specs.Arriving.{MayIncrement}
use Rattle.spd_counter.specs.declared.receipt.Receipt.{Receipt}
use Rattle.spd_counter.specs.declared.increment.IncrementCall.{IncrementCall}
use Rattle.spd_counter.specs.declared.increment.IncrementStage.{IncrementStage}
use Rattle.spd_counter.specs.declared.increment.IncrementStage.TheVariants as stage
use Rattle.spd_counter.specs.declared.increment.IncrementTurn.{IncrementTurn}
use Rattle.spd_counter.specs.declared.increment.IncrementTurn.TheVariants as turn

-- what comes after a turn: another stage, or the end, with a receipt
pub data AfterIncrement : Type 0 where
  increment_goes : IncrementStage → AfterIncrement
  increment_ends : Receipt → AfterIncrement

-- The table of turns: by the vertex that runs, the stage and the word that its step found.
abbrev pub increment_next : Running → IncrementStage → ℕ → AfterIncrement
increment_next r stage.Arrive found = increment_goes (stage.Claim r.finish)
increment_next r (stage.Claim arrived) found =
    increment_ends (still_receipt r.inc arrived (next_handle (pair_of found)))

-- where the word of a turn's step stands, and what the step leaves there
abbrev pub increment_place : PlanView → Running → IncrementStage → ℕ
increment_place p r stage.Arrive = node_place p r.finish
increment_place p r (stage.Claim arrived) = pair_place p r.pair

abbrev pub increment_writes : IncrementStage → ℕ → ℕ
increment_writes stage.Arrive found = (found + 2) % 2 ^ 64
increment_writes (stage.Claim arrived) found = (found + 1) % 2 ^ 64

-- how many turns are left
abbrev pub increment_left : IncrementStage → ℕ
increment_left stage.Arrive = 2
increment_left (stage.Claim arrived) = 1

-- what the share knows at each stage, as a function of the view with which the call began
abbrev pub increment_view : Running → IncrementStage → View → View
increment_view r stage.Arrive before = before
increment_view r (stage.Claim arrived) before = add_view r.finish before

-- where the call has arrived
abbrev pub HasArrived : Running → IncrementStage → Type 0
HasArrived r stage.Arrive = Unit {0}
HasArrived r (stage.Claim arrived) = arrived ≡ r.finish

-- The call began with this view, and its turns alone have changed what the share knows.
pub record IncrementGoes (p : PlanView) (before : View) (call : IncrementCall) (v : View) : Type 0 where
  pub may : MayIncrement p before
  pub is : v ≡ increment_view may.runs call.stage before
  pub arrived : HasArrived may.runs call.stage

-- by the table of turns
abbrev pub IncrementAnswers : AfterIncrement → IncrementStage → IncrementTurn → Type 0
IncrementAnswers (increment_goes s) new result = (new ≡ s) × (result ≡ turn.More)
IncrementAnswers (increment_ends receipt) new result = result ≡ turn.Done receipt

-- the view after an increment whose last step found this word of the pair
abbrev pub incremented_view : Running → ℕ → View → View
incremented_view r found before = claim_after (pair_of found) (add_view r.finish before)

-- `More` goes on, with fewer turns left. At `Done` the share holds one unit more than where the call began, at the root
-- of its finish, which is the vertex's own node; and it has claimed the pair's next handle, a root of the plan.
abbrev pub IncrementComes : PlanView → View → Running → ℕ → IncrementCall → IncrementCall → View → IncrementTurn → Type 0
IncrementComes p before r found old new v turn.More = IncrementGoes p before new v
    × (increment_left new.stage < increment_left old.stage)
IncrementComes p before r found old new v (turn.Done receipt) = (v ≡ incremented_view r found before)
    × (receipt.arrived ≡ r.finish) × (receipt.arrived ≡ r.inc) × (receipt.claimed < p.moves)

-- A turn of a call that began with this view took one step, the one of its stage, under the rule, and answered by the
-- table.
pub record IncrementTurned {B : Type 0} (field : Field B) (before : View) (r : Running) (old new : IncrementCall)
    (s t : Share B) (result : IncrementTurn) : Type 0 where
  pub found : ℕ
  pub step : StepUnderRule (field_plan field) (increment_place (field_plan field) r old.stage) found
      (increment_writes old.stage found) (share_known s) (share_known t)
  pub counted : (share_view t).steps ≡ (share_view s).steps + 1
  pub table : IncrementAnswers (increment_next r old.stage found) new.stage result
  pub comes : IncrementComes (field_plan field) before r found old new (share_view t) result

-- the same of every beginning from which the call came here
abbrev pub IncrementPlays : {B : Type 0} → Field B → IncrementCall → IncrementCall → Share B → Share B → IncrementTurn
    → Type 0
IncrementPlays {B} field old new s t result = (before : View) (goes : IncrementGoes (field_plan field) before old (share_view s))
    → IncrementTurned field before goes.may.runs old new s t result

-- The call may go on, from some beginning.
abbrev pub IncrementMayGo : {B : Type 0} → Field B → IncrementCall → Share B → Type 0
IncrementMayGo field call share = (before : View) × IncrementGoes (field_plan field) before call (share_view share)

-- A new call may begin wherever a share may increment.
abbrev pub IncrementBegins : IncrementCall → Type 0
IncrementBegins call = (p : PlanView) (v : View) → MayIncrement p v → IncrementGoes p v call v
