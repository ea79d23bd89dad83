-- Where a worker stands.
use Rattle.spd_rule.specs.Shares.{IsOf, field_plan, share_known}
use Rattle.spd_rule.specs.declared.field.Field.{Field}
use Rattle.spd_fork.specs.declared.piece.Piece.{Piece}
use Rattle.spd_fork.specs.declared.worker.Worker.{Worker}
use Rattle.spd_fork.specs.Workers.{FitsStage}

-- The worker's share is one of the field, and knows what the worker's stage says.
pub record IsAt (field : Field Piece) (w : Worker) : Type 0 where
  pub of : IsOf field w.share
  pub fits : FitsStage (field_plan field) w.seats (share_known w.share) w.stage

-- Wherever the worker stood, it stands there still.
abbrev pub StaysAt : Worker → Worker → Type 0
StaysAt old new = (field : Field Piece) → IsAt field old → IsAt field new
