use Rattle.std.proofs.Common.{◌≡◌, ◌≤◌, ◌++◌, length}
use Rattle.spd_cols.specs.Columns.{entries_of_lines, most_entries}
use Rattle.spd_cols.proofs.line_pieces.lines.Given as goal

abbrev pub invariant-loop-rest : goal.invariant-loop-rest
invariant-loop-rest l = (entries_of_lines l.fn.file ≡ l.entries ++ entries_of_lines l.rest) × (length l.entries ≤ most_entries)

abbrev pub decreases-loop-rest : goal.decreases-loop-rest
decreases-loop-rest l = length l.rest
