-- What is told of a piece.
use Rattle.std.specs.Prelude.{Bool, Option, None, Some, true, false, pos}
use lib.Dec.{ltb}
use Rattle.spd_words.specs.Gift.{no_fault}
use Rattle.spd_words.specs.Meaning.{Awaited, Stage, Going, Spent, Ended, BodyView, empty}
use Rattle.spd_words.specs.BodyCalls.{TakesIn, part_seen}
use Rattle.spd_words.specs.declared.event.Part.{Part}
use Rattle.spd_words.specs.declared.finish_kind.FinishKind.TheVariants.{Plain}
use Rattle.spd_fork.specs.declared.piece.Piece.{Piece}
use Rattle.spd_fork.specs.declared.piece.PieceStage.{PieceStage}
use Rattle.spd_fork.specs.declared.piece.PieceStage.TheVariants as piece

-- It goes on while it has a number.
abbrev pub stage_where : Bool → Stage
stage_where true = Going
stage_where false = Ended

-- once it was resumed with want of memory, it is spent
abbrev pub piece_stage : PieceStage → Bool → Stage
piece_stage piece.Going more = stage_where more
piece_stage piece.Waits more = stage_where more
piece_stage piece.Spent more = Spent

-- It may wait for a plain finish, which gives nothing.
abbrev pub piece_awaits : PieceStage → Option Awaited
piece_awaits piece.Waits = Some (record { kind = Plain; gift = pos 0; fault = no_fault })
piece_awaits _ = None

-- It is wild, so that no debts are kept of it.
abbrev pub piece_view : Piece → BodyView
piece_view b = record {
  means = record { kind = Plain; wild = true; awaited = piece_awaits b.stage; promise = empty Plain };
  stage = piece_stage b.stage (ltb b.low b.high);
  size = 0;
}

-- The part is in the piece from now on.
abbrev pub PieceTakesIn : Piece → Piece → Part Piece → Type 0
PieceTakesIn old new part = TakesIn (piece_view old) (piece_view new) (part_seen piece_view part)
