-- A signal turn by turn: what the share knows at each stage, and what a turn answers.
use Rattle.std.specs.Prelude.{◌≡◌, ◌≢◌, ◌+◌, ◌*◌, ◌<◌, [], ◌∷◌, ℕ, Option, Some, None}
use Rattle.atomic_table.specs.Table.{Me}
use Rattle.spd_words.specs.Plan.{PlanView, IsPlan}
use Rattle.spd_state.specs.declared.view.Running.{Running}
use Rattle.spd_state.specs.declared.view.View.{View}
use Rattle.spd_rule.specs.Held.{StepUnderRule}
use Rattle.spd_rule.specs.Shares.{field_plan, share_known, share_view}
use Rattle.spd_rule.specs.declared.field.Field.{Field}
use Rattle.spd_rule.specs.declared.field.Share.{Share}
use Rattle.spd_dag.specs.Acts.{MaySignal}
use Rattle.spd_dag.specs.Ends.{IsOver}
use Rattle.spd_dag.specs.SignalStages.{AfterSignal, signal_goes, signal_ends, signal_next, signal_place, signal_writes, signal_left}
use Rattle.spd_dag.specs.declared.signal.SignalCall.{SignalCall}
use Rattle.spd_dag.specs.declared.signal.SignalStage.{SignalStage}
use Rattle.spd_dag.specs.declared.signal.SignalStage.TheVariants as stage
use Rattle.spd_dag.specs.declared.signal.SignalTurn.{SignalTurn}
use Rattle.spd_dag.specs.declared.signal.SignalTurn.TheVariants as turn

-- the beginning of a signal: what the share knew, and the vertex that it ran
pub record SignalOrigin : Type 0 where
  pub before : View
  pub runs : Running

-- ---- what the share knows at each stage, as a function of the beginning

-- the right has become the unit of the node n
abbrev pub signal_claimed : Running → ℕ → View → View
signal_claimed r n v = record v {
  running = Some (record r { right = 0 });
  flight = None;
  held = [];
  claimed = n ∷ [];
  lifted = 0;
  told = [];
  steps = v.steps + 1;
}

-- the unit has left, and was the last of the root f
abbrev pub signal_told : ℕ → View → View
signal_told f v = record v { claimed = []; told = f ∷ []; steps = v.steps + 1 }

abbrev pub signal_view : SignalOrigin → SignalStage → View
signal_view o stage.Claim = o.before
signal_view o (stage.Depart n) = signal_claimed o.runs n o.before
signal_view o (stage.Wake f) = signal_told f (signal_claimed o.runs f o.before)

-- ---- a call that goes on

-- The node n was claimed in a call that began with this view: the rule has shown that it is the root of the running
-- vertex's finish, which isn't vertex 1, and that nothing was claimed before.
pub record HasClaimed (p : PlanView) (n : ℕ) (r : Running) (v : View) : Type 0 where
  pub plan : IsPlan p
  pub low : n < p.moves
  pub root : n ≡ r.finish
  pub other : r.vertex ≢ 1
  pub claimed : v.claimed ≡ []

abbrev pub SignalClaimed : PlanView → SignalOrigin → SignalStage → Type 0
SignalClaimed p o stage.Claim = Unit {0}
SignalClaimed p o (stage.Depart n) = HasClaimed p n o.runs o.before
SignalClaimed p o (stage.Wake f) = HasClaimed p f o.runs o.before

-- The call began at o, and its turns alone have changed what the share knows.
pub record SignalGoes (p : PlanView) (o : SignalOrigin) (call : SignalCall) (v : View) : Type 0 where
  pub may : MaySignal o.before o.runs
  pub is : v ≡ signal_view o call.stage
  pub has : SignalClaimed p o call.stage

-- The call may go on, from some beginning.
abbrev pub SignalMayGo : {B : Type 0} → Field B → SignalCall → Share B → Type 0
SignalMayGo field call share = (o : SignalOrigin) × SignalGoes (field_plan field) o call (share_view share)

-- ---- what a turn answers

-- by the table of turns
abbrev pub SignalAnswers : AfterSignal → SignalStage → SignalTurn → Type 0
SignalAnswers (signal_goes s) new result = (new ≡ s) × (result ≡ turn.More)
SignalAnswers (signal_ends woke) new result = result ≡ turn.Done woke

-- Nothing was woken, or the vertex that waits for the running one's finish, whose root this call took from 1 to 0.
abbrev pub SignalEnds : PlanView → Running → View → View → Option ℕ → Type 0
SignalEnds p r before after None = IsOver p before after 0 2
SignalEnds p r before after (Some w) = (w ≡ 2 * r.finish + 1) × (w < 2 * p.moves) × IsOver p before after 1 3

abbrev pub SignalComes : {B : Type 0} → PlanView → SignalOrigin → SignalCall → SignalCall → Me (Option B) View
    → SignalTurn → Type 0
SignalComes p o old new known turn.More = SignalGoes p o new known.0 × (signal_left new.stage < signal_left old.stage)
SignalComes p o old new known (turn.Done woke) = SignalEnds p o.runs o.before known.0 woke × (known.1 ≡ [])

-- A turn of a call that began at o took one step, the one of its stage, under the rule, and answered by the table.
pub record SignalTurned {B : Type 0} (p : PlanView) (o : SignalOrigin) (old new : SignalCall) (known known' : Me (Option B) View)
    (result : SignalTurn) : Type 0 where
  pub found : ℕ
  pub step : StepUnderRule p (signal_place p o.runs old.stage) found (signal_writes old.stage found) known known'
  pub table : SignalAnswers (signal_next old.stage found) new.stage result
  pub comes : SignalComes p o old new known' result

-- the same of every beginning from which the call came here
abbrev pub SignalPlays : {B : Type 0} → Field B → SignalCall → SignalCall → Share B → Share B → SignalTurn → Type 0
SignalPlays field old new s t result = (o : SignalOrigin) → SignalGoes (field_plan field) o old (share_view s)
    → SignalTurned (field_plan field) o old new (share_known s) (share_known t) result

-- A new call may begin wherever a share may signal.
abbrev pub SignalBegins : SignalCall → Type 0
SignalBegins call = (p : PlanView) (o : SignalOrigin) → MaySignal o.before o.runs → SignalGoes p o call o.before
