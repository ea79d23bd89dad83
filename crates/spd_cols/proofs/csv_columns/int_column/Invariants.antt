use Rattle.spd_cols.specs.Columns.{int_column_of}
use Rattle.spd_cols.specs.Rows.{IsAtRow}
use Rattle.spd_cols.specs.Values.{int_of}
use Rattle.spd_cols.proofs.Entries.{IsSoFar}
use Rattle.spd_cols.proofs.csv_columns.int_column.Given as goal

abbrev pub invariant-loop-row : goal.invariant-loop-row
invariant-loop-row l = IsAtRow l.rows × IsSoFar int_of (int_column_of l.fn.file l.fn.field) l.entries l.row l.rows
