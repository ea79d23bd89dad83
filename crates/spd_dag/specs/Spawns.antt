-- A spawn turn by turn: what the share knows at each stage, and what a turn answers.
use Rattle.std.specs.Prelude.{◌≡◌, ◌+◌, ◌*◌, ◌<◌, ◌≤◌, [], ◌∷◌, ℕ, Option, Some, None}
use Rattle.atomic_table.specs.Table.{Me, rest as less_slot}
use Rattle.spd_words.specs.Plan.{PlanView}
use Rattle.spd_words.specs.Meaning.{Meaning, BodyView}
use Rattle.spd_state.specs.Steps.{add_view}
use Rattle.spd_state.specs.Stages.{drawn_view, paired_view, spawn_left_view}
use Rattle.spd_state.specs.declared.view.Draw.TheVariants.{Spawn}
use Rattle.spd_state.specs.declared.view.Running.{Running}
use Rattle.spd_state.specs.declared.view.View.{View}
use Rattle.spd_dag.specs.Taken.{TakesStep}
use Rattle.spd_rule.specs.Nobody.{nobody}
use Rattle.spd_rule.specs.Moves.{flight_with, less_first}
use Rattle.spd_rule.specs.Shares.{field_plan, share_known}
use Rattle.spd_rule.specs.declared.field.Field.{Field}
use Rattle.spd_rule.specs.declared.field.Share.{Share}
use Rattle.spd_dag.specs.Acts.{MaySpawn}
use Rattle.spd_dag.specs.Ends.{IsOver}
use Rattle.spd_dag.specs.Origins.{Origin, HasDrawn}
use Rattle.spd_dag.specs.Draws.{unmoved_known}
use Rattle.spd_dag.specs.SpawnStages.{AfterSpawn, spawn_goes, spawn_ends, spawn_fills, spawn_next, spawn_place, spawn_writes, spawn_left}
use Rattle.spd_dag.specs.declared.spawn.SpawnCall.{SpawnCall}
use Rattle.spd_dag.specs.declared.spawn.SpawnStage.{SpawnStage}
use Rattle.spd_dag.specs.declared.spawn.SpawnStage.TheVariants as stage
use Rattle.spd_dag.specs.declared.spawn.SpawnTurn.{SpawnTurn}
use Rattle.spd_dag.specs.declared.spawn.SpawnTurn.TheVariants as turn

-- ---- what the share knows at each stage, as a function of the beginning and the drawn move

-- the move d is in flight, of the finish of the running vertex r
abbrev pub spawn_drawn : {B : Type 0} → Running → ℕ → Me (Option B) View → Me (Option B) View
spawn_drawn r d me = (
  record (drawn_view Spawn d nobody me.0) { running = Some r; flight = Some (flight_with Spawn d r.finish 0) },
  (2 * d, None) ∷ (2 * d + 1, None) ∷ me.1,
)

-- a unit at the node where it increments more
abbrev pub spawn_arrived : {B : Type 0} → Running → Me (Option B) View → Me (Option B) View
spawn_arrived r me = (add_view r.inc me.0, me.1)

-- the right has become the unit of the node n
abbrev pub spawn_claimed : {B : Type 0} → Running → ℕ → Me (Option B) View → Me (Option B) View
spawn_claimed r n me = (
  record me.0 { running = Some (record r { right = 0 }); claimed = n ∷ []; lifted = 0; steps = me.0.steps + 1 },
  me.1,
)

-- both units have left for the pair, and the bodies have taken their promises; `before` is the view of the beginning
abbrev pub spawn_paired : {B : Type 0} → Running → ℕ → Meaning → Meaning → View → Me (Option B) View → Me (Option B) View
spawn_paired r d left right before me = (
  record (paired_view (flight_with Spawn d r.finish 0) r.inc left.promise right.promise me.0) { held = before.held },
  me.1,
)

abbrev pub spawn_stored : {B : Type 0} → Running → ℕ → Me (Option B) View → Me (Option B) View
spawn_stored r d me = (spawn_left_view d r.finish (less_first me.0.slots) me.0, less_slot me.1)

abbrev pub spawn_known : {B : Type 0} → (B → Meaning) → Origin B → SpawnStage → Me (Option B) View
spawn_known means o stage.Draw = o.known
spawn_known means o (stage.Arrive d) = spawn_drawn o.runs d o.known
spawn_known means o (stage.Claim d) = spawn_arrived o.runs (spawn_drawn o.runs d o.known)
spawn_known means o (stage.Pair d n) = spawn_claimed o.runs n (spawn_arrived o.runs (spawn_drawn o.runs d o.known))
spawn_known means o (stage.Left d) = spawn_paired o.runs d (means o.body) (means o.rest) o.known.0
    (spawn_claimed o.runs 0 (spawn_arrived o.runs (spawn_drawn o.runs d o.known)))
spawn_known means o (stage.Right d) = spawn_stored o.runs d (spawn_paired o.runs d (means o.body) (means o.rest) o.known.0
    (spawn_claimed o.runs 0 (spawn_arrived o.runs (spawn_drawn o.runs d o.known))))

-- ---- a call that goes on

-- the bodies that the call still has
abbrev pub SpawnHas : {B : Type 0} → Origin B → SpawnStage → Option B → Option B → Type 0
SpawnHas o (stage.Right d) body rest = rest ≡ Some o.rest
SpawnHas o _ body rest = (body ≡ Some o.body) × (rest ≡ Some o.rest)

-- The move d was drawn, and the vertex increments at the root of its finish.
pub record DrewSpawn (p : PlanView) (d : ℕ) (r : Running) (v : View) : Type 0 where
  pub drawn : HasDrawn p d r v
  pub flat : r.inc < p.moves
  pub root : r.inc ≡ r.finish

abbrev pub SpawnDrew : {B : Type 0} → PlanView → Origin B → SpawnStage → Type 0
SpawnDrew p o stage.Draw = Unit {0}
SpawnDrew p o (stage.Arrive d) = DrewSpawn p d o.runs o.known.0
SpawnDrew p o (stage.Claim d) = DrewSpawn p d o.runs o.known.0
SpawnDrew p o (stage.Pair d n) = DrewSpawn p d o.runs o.known.0 × (n < p.moves)
SpawnDrew p o (stage.Left d) = DrewSpawn p d o.runs o.known.0
SpawnDrew p o (stage.Right d) = DrewSpawn p d o.runs o.known.0

-- The call began at o, and its turns alone have changed what the share knows.
pub record SpawnGoes {B : Type 0} (view : B → BodyView) (p : PlanView) (o : Origin B) (call : SpawnCall B)
    (known : Me (Option B) View) : Type 0 where
  pub may : MaySpawn o.known.0 o.runs (view o.body) (view o.rest)
  pub is : known ≡ spawn_known (λ b. (view b).means) o call.stage
  pub has : SpawnHas o call.stage call.body call.rest
  pub drew : SpawnDrew p o call.stage

-- The call may go on, from some beginning.
abbrev pub SpawnMayGo : {B : Type 0} → (B → BodyView) → Field B → SpawnCall B → Share B → Type 0
SpawnMayGo {B} view field call share = (o : Origin B) × SpawnGoes view (field_plan field) o call (share_known share)

-- ---- what a turn answers

-- by the table of turns
abbrev pub SpawnAnswers : {B : Type 0} → AfterSpawn → SpawnStage → SpawnTurn B → Type 0
SpawnAnswers (spawn_goes s) new result = (new ≡ s) × (result ≡ turn.More)
SpawnAnswers (spawn_ends d) new result = result ≡ turn.Done (2 * d) (2 * d + 1)
SpawnAnswers {B} (spawn_fills n) new result = (b : B) × (r : B) × (result ≡ turn.Full n b r)

-- `More` goes on, with fewer turns left. After `Done` the vertex is over, and two are ready. `Full` gives back the very
-- bodies, and the share runs its vertex as at the beginning.
abbrev pub SpawnComes : {B : Type 0} → (B → BodyView) → PlanView → Origin B → SpawnCall B → SpawnCall B
    → Me (Option B) View → SpawnTurn B → Type 0
SpawnComes view p o old new known turn.More = SpawnGoes view p o new known × (spawn_left new.stage < spawn_left old.stage)
SpawnComes view p o old new known (turn.Done left right) = (right ≡ left + 1) × (right < 2 * p.moves)
    × IsOver p o.known.0 known.0 2 6 × (known.1 ≡ [])
SpawnComes view p o old new known (turn.Full drawn body rest) = (p.moves ≤ drawn) × (body ≡ o.body) × (rest ≡ o.rest)
    × (known ≡ unmoved_known o.known)

-- A turn of a call that began at o took one step, the one of its stage, under the rule, and answered by the table.
pub record SpawnTurned {B : Type 0} (view : B → BodyView) (p : PlanView) (o : Origin B) (old new : SpawnCall B)
    (known known' : Me (Option B) View) (result : SpawnTurn B) : Type 0 where
  pub found : ℕ
  pub step : TakesStep p (spawn_place p o.runs old.stage) found
      (spawn_writes o.runs o.known.0.full_draws old.stage found) known known'
  pub table : SpawnAnswers (spawn_next p.moves old.stage found) new.stage result
  pub comes : SpawnComes view p o old new known' result

-- the same of every beginning from which the call came here
abbrev pub SpawnPlays : {B : Type 0} → (B → BodyView) → Field B → SpawnCall B → SpawnCall B → Share B → Share B
    → SpawnTurn B → Type 0
SpawnPlays {B} view field old new s t result = (o : Origin B) → SpawnGoes view (field_plan field) o old (share_known s)
    → SpawnTurned view (field_plan field) o old new (share_known s) (share_known t) result

-- A new call may begin wherever a share may spawn these bodies.
abbrev pub SpawnBegins : {B : Type 0} → (B → BodyView) → B → B → SpawnCall B → Type 0
SpawnBegins {B} view body rest call = (p : PlanView) (o : Origin B) → o.body ≡ body → o.rest ≡ rest
    → MaySpawn o.known.0 o.runs (view body) (view rest) → SpawnGoes view p o call o.known
