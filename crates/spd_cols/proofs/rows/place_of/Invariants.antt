use Rattle.std.proofs.Common.{◌≡◌, drop}
use Rattle.std.specs.List.{position_from}
use Rattle.std.specs.Str.{bytes_eq}
use Rattle.csv.specs.Records.{fields_of}
use Rattle.spd_cols.specs.Columns.{field_place}
use Rattle.spd_cols.proofs.rows.place_of.Given as goal

abbrev pub invariant-loop-place : goal.invariant-loop-place
invariant-loop-place l = position_from (λ name. bytes_eq name l.field) l.place (drop l.place (fields_of l.header)) ≡ field_place l.field (fields_of l.header)
