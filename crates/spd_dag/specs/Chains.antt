-- A chain turn by turn: what the share knows at each stage, and what a turn answers.
use Rattle.std.specs.Prelude.{◌≡◌, ◌+◌, ◌*◌, ◌<◌, ◌≤◌, [], ℕ, Option, Some}
use Rattle.atomic_table.specs.Table.{Me, rest as less_slot}
use Rattle.spd_words.specs.Plan.{PlanView}
use Rattle.spd_words.specs.Meaning.{Meaning, BodyView}
use Rattle.spd_words.specs.declared.finish_kind.FinishKind.{FinishKind}
use Rattle.spd_state.specs.Stages.{chain_rest_view}
use Rattle.spd_state.specs.declared.view.Draw.TheVariants.{Chain}
use Rattle.spd_state.specs.declared.view.Running.{Running}
use Rattle.spd_state.specs.declared.view.View.{View}
use Rattle.spd_dag.specs.Taken.{TakesStep}
use Rattle.spd_rule.specs.Nobody.{nobody}
use Rattle.spd_rule.specs.Steps.{drawn_known}
use Rattle.spd_rule.specs.Moves.{root_set, pair_set, less_first}
use Rattle.spd_rule.specs.Shares.{field_plan, share_known}
use Rattle.spd_rule.specs.declared.field.Field.{Field}
use Rattle.spd_rule.specs.declared.field.Share.{Share}
use Rattle.spd_dag.specs.Acts.{MayChain}
use Rattle.spd_dag.specs.Ends.{IsOver}
use Rattle.spd_dag.specs.Origins.{Origin, HasDrawn}
use Rattle.spd_dag.specs.Draws.{unmoved_known}
use Rattle.spd_dag.specs.ChainStages.{AfterChain, chain_goes, chain_ends, chain_fills, chain_next, chain_place, chain_writes, chain_left}
use Rattle.spd_dag.specs.declared.chain.ChainCall.{ChainCall}
use Rattle.spd_dag.specs.declared.chain.ChainStage.{ChainStage}
use Rattle.spd_dag.specs.declared.chain.ChainStage.TheVariants as stage
use Rattle.spd_dag.specs.declared.chain.ChainTurn.{ChainTurn}
use Rattle.spd_dag.specs.declared.chain.ChainTurn.TheVariants as turn

-- ---- what the share knows at each stage, as a function of the beginning and the drawn move

abbrev pub chain_drawn : {B : Type 0} → ℕ → Me (Option B) View → Me (Option B) View
chain_drawn d me = drawn_known Chain d nobody me

abbrev pub chain_opened : {B : Type 0} → ℕ → Meaning → Me (Option B) View → Me (Option B) View
chain_opened d told me = (root_set d told me.0, me.1)

abbrev pub chain_handed : {B : Type 0} → Me (Option B) View → Me (Option B) View
chain_handed me = (pair_set me.0.flight 0 nobody nobody me.0, me.1)

abbrev pub chain_waits : {B : Type 0} → Running → ℕ → Me (Option B) View → Me (Option B) View
chain_waits r d me = (chain_rest_view r d (less_first me.0.slots) me.0, less_slot me.1)

abbrev pub chain_known : {B : Type 0} → (B → Meaning) → Origin B → ChainStage → Me (Option B) View
chain_known means o stage.Draw = o.known
chain_known means o (stage.Root d) = chain_drawn d o.known
chain_known means o (stage.Pair d) = chain_opened d (means o.body) (chain_drawn d o.known)
chain_known means o (stage.Rest d) = chain_handed (chain_opened d (means o.body) (chain_drawn d o.known))
chain_known means o (stage.Body d) = chain_waits o.runs d (chain_handed (chain_opened d (means o.body) (chain_drawn d o.known)))

-- ---- a call that goes on

-- the bodies that the call still has
abbrev pub ChainHas : {B : Type 0} → Origin B → ChainStage → Option B → Option B → Type 0
ChainHas o (stage.Body d) body rest = body ≡ Some o.body
ChainHas o _ body rest = (body ≡ Some o.body) × (rest ≡ Some o.rest)

abbrev pub ChainDrew : {B : Type 0} → PlanView → Origin B → ChainStage → Type 0
ChainDrew p o stage.Draw = Unit {0}
ChainDrew p o (stage.Root d) = HasDrawn p d o.runs o.known.0
ChainDrew p o (stage.Pair d) = HasDrawn p d o.runs o.known.0
ChainDrew p o (stage.Rest d) = HasDrawn p d o.runs o.known.0
ChainDrew p o (stage.Body d) = HasDrawn p d o.runs o.known.0

-- The call began at o, and its turns alone have changed what the share knows.
pub record ChainGoes {B : Type 0} (view : B → BodyView) (p : PlanView) (o : Origin B) (call : ChainCall B)
    (known : Me (Option B) View) : Type 0 where
  pub may : MayChain o.known.0 o.runs call.kind (view o.body) (view o.rest)
  pub is : known ≡ chain_known (λ b. (view b).means) o call.stage
  pub has : ChainHas o call.stage call.body call.rest
  pub drew : ChainDrew p o call.stage

-- The call may go on, from some beginning.
abbrev pub ChainMayGo : {B : Type 0} → (B → BodyView) → Field B → ChainCall B → Share B → Type 0
ChainMayGo {B} view field call share = (o : Origin B) × ChainGoes view (field_plan field) o call (share_known share)

-- ---- what a turn answers

-- by the table of turns
abbrev pub ChainAnswers : {B : Type 0} → AfterChain → ChainStage → ChainTurn B → Type 0
ChainAnswers (chain_goes s) new result = (new ≡ s) × (result ≡ turn.More)
ChainAnswers (chain_ends d) new result = result ≡ turn.Done (2 * d) (2 * d + 1)
ChainAnswers {B} (chain_fills n) new result = (b : B) × (r : B) × (result ≡ turn.Full n b r)

-- `More` goes on, with fewer turns left. After `Done` the vertex is over. `Full` gives back the very bodies, and the
-- share runs its vertex as at the beginning.
abbrev pub ChainComes : {B : Type 0} → (B → BodyView) → PlanView → Origin B → ChainCall B → ChainCall B
    → Me (Option B) View → ChainTurn B → Type 0
ChainComes view p o old new known turn.More = ChainGoes view p o new known × (chain_left new.stage < chain_left old.stage)
ChainComes view p o old new known (turn.Done body rest) = (rest ≡ body + 1) × (rest < 2 * p.moves)
    × IsOver p o.known.0 known.0 1 5 × (known.1 ≡ [])
ChainComes view p o old new known (turn.Full drawn body rest) = (p.moves ≤ drawn) × (body ≡ o.body) × (rest ≡ o.rest)
    × (known ≡ unmoved_known o.known)

-- A turn of a call that began at o took one step, the one of its stage, under the rule, and answered by the table.
pub record ChainTurned {B : Type 0} (view : B → BodyView) (p : PlanView) (o : Origin B) (old new : ChainCall B)
    (known known' : Me (Option B) View) (result : ChainTurn B) : Type 0 where
  pub found : ℕ
  pub step : TakesStep p (chain_place p old.stage) found
      (chain_writes old.kind o.runs o.known.0.full_draws old.stage found) known known'
  pub table : ChainAnswers (chain_next p.moves old.stage found) new.stage result
  pub comes : ChainComes view p o old new known' result

-- the same of every beginning from which the call came here
abbrev pub ChainPlays : {B : Type 0} → (B → BodyView) → Field B → ChainCall B → ChainCall B → Share B → Share B
    → ChainTurn B → Type 0
ChainPlays {B} view field old new s t result = (o : Origin B) → ChainGoes view (field_plan field) o old (share_known s)
    → ChainTurned view (field_plan field) o old new (share_known s) (share_known t) result

-- A new call may begin wherever a share may chain these bodies.
abbrev pub ChainBegins : {B : Type 0} → (B → BodyView) → FinishKind → B → B → ChainCall B → Type 0
ChainBegins {B} view kind body rest call = (p : PlanView) (o : Origin B) → o.body ≡ body → o.rest ≡ rest
    → MayChain o.known.0 o.runs kind (view body) (view rest) → ChainGoes view p o call o.known
