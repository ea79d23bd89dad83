-- The columns that are left to count are those of the items that are left.
use Rattle.std.proofs.Common.{◌≡◌, drop}
use Rattle.spd_cols.specs.Loading as spec
use Rattle.spd_cols.proofs.naming.file_of_column.Given as goal

abbrev pub invariant-loop-item : goal.invariant-loop-item
invariant-loop-item l = spec.file_of_column (drop l.item-index l.program.items) l.left ≡ spec.file_of_column l.program.items l.column
