-- What a worker's stage says of what its share knows.
use Rattle.std.specs.Prelude.{◌≡◌, ℕ, [], Option, Some, None}
use Rattle.atomic_table.specs.Table.{Me}
use Rattle.spd_words.specs.Plan.{PlanView}
use Rattle.spd_words.specs.declared.finish_kind.FinishKind.TheVariants.{Plain}
use Rattle.spd_state.specs.Promises.{expected_in}
use Rattle.spd_state.specs.Tree.{top_in}
use Rattle.spd_state.specs.declared.view.Running.{Running}
use Rattle.spd_state.specs.declared.view.View.{View}
use Rattle.spd_rule.specs.Shares.{field_plan, share_known}
use Rattle.spd_rule.specs.declared.field.Field.{Field}
use Rattle.spd_rule.specs.declared.field.Share.{Share}
use Rattle.spd_dag.specs.Origins.{Origin}
use Rattle.spd_dag.specs.Chains.{ChainGoes}
use Rattle.spd_dag.specs.Spawns.{SpawnGoes}
use Rattle.spd_dag.specs.Signals.{SignalOrigin, SignalGoes}
use Rattle.spd_fork.specs.declared.piece.Piece.{Piece}
use Rattle.spd_fork.specs.declared.stage.Stage.{Stage}
use Rattle.spd_fork.specs.declared.stage.Stage.TheVariants as stage
use Rattle.spd_fork.specs.Pieces.{piece_view, piece_awaits}

-- The share has these seats, and nothing in hand beside a vertex that it may run.
pub record HasSeats (seats : ℕ) (v : View) : Type 0 where
  pub number : v.seats ≡ seats
  pub flight : v.flight ≡ None
  pub held : v.held ≡ []
  pub claimed : v.claimed ≡ []
  pub rooted : v.rooted ≡ []
  pub above : v.above ≡ []
  pub halves : v.halves ≡ []
  pub sprout : v.sprout ≡ None
  pub told : v.told ≡ []
  pub hurt : v.hurt ≡ 0

-- It runs nothing.
pub record IsResting (seats : ℕ) (v : View) : Type 0 where
  pub has : HasSeats seats v
  pub running : v.running ≡ None
  pub slots : v.slots ≡ []

-- It runs this vertex of a wild body with its right, and knows that the vertex increments under its finish.
pub record IsWorking (seats : ℕ) (r : Running) (v : View) : Type 0 where
  pub has : HasSeats seats v
  pub running : v.running ≡ Some r
  pub right : r.right ≡ 1
  pub awaited : v.awaited ≡ None
  pub wild : v.wild ≡ 1
  pub kind : v.kind ≡ Plain
  pub knows : top_in r.inc v.known ≡ Some r.finish

-- It has just started this vertex with this piece, and works but for what the piece waits for.
pub record IsBegun (seats vertex : ℕ) (b : Piece) (r : Running) (v : View) : Type 0 where
  pub works : IsWorking seats r (record v { awaited = None })
  pub number : r.vertex ≡ vertex
  pub waits : v.awaited ≡ expected_in (piece_awaits b.stage)

-- A share that began so works on, or has found want of memory, and keeps its seats.
abbrev pub PieceGoesOn : ℕ → Piece → View → View → Option Piece → Type 0
PieceGoesOn vertex b v w None = w.seats ≡ v.seats
PieceGoesOn vertex b v w (Some _) = (seats : ℕ) (r : Running) → IsBegun seats vertex b r v → IsWorking seats r w

-- What a share knows while its worker is at a stage.
abbrev pub FitsStage : PlanView → ℕ → Me (Option Piece) View → Stage → Type 0
FitsStage p seats me stage.Rests = IsResting seats me.0
FitsStage p seats me stage.Works = (r : Running) × IsWorking seats r me.0
FitsStage p seats me (stage.Chains call) = (o : Origin Piece) × ChainGoes piece_view p o call me × IsWorking seats o.runs o.known.0
FitsStage p seats me (stage.Spawns call) = (o : Origin Piece) × SpawnGoes piece_view p o call me × IsWorking seats o.runs o.known.0
FitsStage p seats me (stage.Signals call) = (o : SignalOrigin) × SignalGoes p o call me.0 × IsWorking seats o.runs o.before
FitsStage p seats me stage.Ends = me.0.seats ≡ seats
FitsStage p seats me stage.Lost = me.0.seats ≡ seats

-- A share that fitted a stage fits another one afterwards, with the same seats.
abbrev pub StaysFit : Field Piece → Stage → Share Piece → Share Piece → Stage → Type 0
StaysFit field old s t new = (seats : ℕ) → FitsStage (field_plan field) seats (share_known s) old
    → FitsStage (field_plan field) seats (share_known t) new
