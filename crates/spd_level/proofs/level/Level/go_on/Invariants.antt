use Rattle.std.proofs.Common.{◌≡◌}
use Rattle.spd_level.specs.Columns.{context_of}
use Rattle.spd_level.proofs.Stepping.{BlockRuns}
use Rattle.spd_level.specs.declared.frame.Flow.TheVariants as flow
use Rattle.spd_level.proofs.level.Level.go_on.Given as goal

-- the statements so far needed nothing but the values
abbrev pub invariant-loop-at : goal.invariant-loop-at
invariant-loop-at l =
    (l.self.flow ≡ flow.Fell) × BlockRuns (context_of l.fn.code l.fn.columns) l.fn.self l.self l.fn.block l.fn.next l.at l.fn.floor l.fn.left
