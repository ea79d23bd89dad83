use Rattle.std.proofs.Common.{length}
use Rattle.spd_level.specs.Columns.{context_of}
use Rattle.spd_level.specs.Left.{level_eval}
use Rattle.spd_level.proofs.Quiet.{Quietly}
use Rattle.spd_level.proofs.level.Level.turn.Given as goal

-- the turns so far were quiet
abbrev pub invariant-loop : goal.invariant-loop
invariant-loop l =
    let context = context_of l.fn.code l.fn.columns in
    Quietly (level_eval context l.fn.self) (length l.fn.self.frames.items) (level_eval context l.self) (length l.self.frames.items)
