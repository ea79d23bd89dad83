use Rattle.std.proofs.Common.{Some}
use Rattle.spd_cols.specs.Columns.{text_column_of}
use Rattle.spd_cols.specs.Rows.{IsAtRow}
use Rattle.spd_cols.proofs.Entries.{IsSoFar}
use Rattle.spd_cols.proofs.csv_columns.text_column.Given as goal

abbrev pub invariant-loop-row : goal.invariant-loop-row
invariant-loop-row l = IsAtRow l.rows × IsSoFar Some (text_column_of l.fn.file l.fn.field) l.entries l.row l.rows
