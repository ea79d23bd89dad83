-- Columns of CSV and lines files, over whole files: their entries, or the first fault.
use Rattle.std.specs.Prelude.{ℕ, ◌+◌, ℤ, ◌==◌, not, nat_le, if◌then◌else◌, List, [], ◌∷◌, map, drop, length, slice_get, Option, None, Some, Result, Ok, Err}
use Rattle.std.specs.List.{position_from, slice_split}
use Rattle.std.specs.Option.{ok_or, option_and_then}
use Rattle.std.specs.Str.{bytes_eq}
use Rattle.csv.specs.Reading.{records, default_config, strip_bom}
use Rattle.spd_cols.specs.Values.{int_of}
use Rattle.spd_cols.specs.declared.fault.DataFault.{DataFault}
use Rattle.spd_cols.specs.declared.fault.DataKind.{DataKind}
use Rattle.spd_cols.specs.declared.fault.DataKind.TheVariants as kind

-- the most entries of a column
abbrev pub most_entries : ℕ
most_entries = 1000000

abbrev pub refused_at : {A : Type 0} → ℕ → DataKind → Result A DataFault
refused_at row what = Err (record { row = row; kind = what })

-- ---- records

-- a record: the bytes of its fields
abbrev pub Record : Type 0
Record = List (List ℕ)

-- the records of a CSV file; a byte order mark at its start is no part of them
abbrev pub records_of : List ℕ → List Record
records_of file = records default_config (strip_bom file)

-- what the cell at a place stands for, if it is there and stands for anything
abbrev pub cell_value : {A : Type 0} → (List ℕ → Option A) → ℕ → Record → Option A
cell_value value place fields = option_and_then value (slice_get fields place)

-- the entry of a data record, or what is wrong with the record: `width` fields are wanted, of which the one at `place` is the cell, and
-- data records are numbered from 1
abbrev pub row_entry : {A : Type 0} → (List ℕ → Option A) → ℕ → ℕ → ℕ → Record → Result A DataFault
row_entry value width place row fields =
    if not (length fields == width) then refused_at row kind.Ragged
    else if not (nat_le row most_entries) then refused_at row kind.TooMany
    else ok_or (cell_value value place fields) (record { row = row; kind = kind.NotInt })

-- ---- columns

-- each element through a function, with its number, counted from a first one
abbrev pub map_numbered : {A B : Type 0} → (ℕ → A → B) → ℕ → List A → List B
map_numbered f first [] = []
map_numbered f first (x ∷ xs) = f first x ∷ map_numbered f (first + 1) xs

-- a value, and behind it all the others, unless there is an error among them
abbrev pub with_first : {A E : Type 0} → A → Result (List A) E → Result (List A) E
with_first a (Ok rest) = Ok (a ∷ rest)
with_first a (Err e) = Err e

-- all the values, or the first error
abbrev pub all_or_first : {A E : Type 0} → List (Result A E) → Result (List A) E
all_or_first [] = Ok []
all_or_first (Err e ∷ results) = Err e
all_or_first (Ok a ∷ results) = with_first a (all_or_first results)

-- the entries of data records, or the first fault in their order
abbrev pub rows_entries : {A : Type 0} → (List ℕ → Option A) → ℕ → ℕ → List Record → Result (List A) DataFault
rows_entries value width place rows = all_or_first (map_numbered (row_entry value width place) 1 rows)

-- the header: the first record; a file without records has none, and so no fields
abbrev pub header_of : List Record → Record
header_of [] = []
header_of (header ∷ rows) = header

-- the first field of a header that is this name, byte for byte
abbrev pub field_place : List ℕ → Record → Option ℕ
field_place field header = position_from (λ name. bytes_eq name field) 0 header

-- the entries of the column at a place, of records of which the first is the header
abbrev pub entries_at : {A : Type 0} → (List ℕ → Option A) → Option ℕ → List Record → Result (List A) DataFault
entries_at value (Some place) records = rows_entries value (length (header_of records)) place (drop 1 records)
entries_at value None records = refused_at 0 kind.NoField

-- the entries of the column of a field
abbrev pub column_entries : {A : Type 0} → (List ℕ → Option A) → List ℕ → List Record → Result (List A) DataFault
column_entries value field records = entries_at value (field_place field (header_of records)) records

abbrev pub int_column_of : List ℕ → List ℕ → Result (List ℤ) DataFault
int_column_of file field = column_entries int_of field (records_of file)

abbrev pub text_column_of : List ℕ → List ℕ → Result (List (List ℕ)) DataFault
text_column_of file field = column_entries Some field (records_of file)

-- ---- lines

-- bytes without one CR (13) at their end
abbrev pub without_cr : List ℕ → List ℕ
without_cr [] = []
without_cr (b ∷ []) = if b == 13 then [] else b ∷ []
without_cr (b ∷ bytes) = b ∷ without_cr bytes

-- pieces without the last one, where it is empty
abbrev pub without_empty_last : List (List ℕ) → List (List ℕ)
without_empty_last [] = []
without_empty_last ([] ∷ []) = []
without_empty_last (piece ∷ pieces) = piece ∷ without_empty_last pieces

-- the entries of a lines file: its pieces between LF (10) bytes
abbrev pub entries_of_lines : List ℕ → List (List ℕ)
entries_of_lines file = map without_cr (without_empty_last (slice_split (λ b. b == 10) file))

abbrev pub lines_column_of : List ℕ → Result (List (List ℕ)) DataFault
lines_column_of file = if nat_le (length (entries_of_lines file)) most_entries then Ok (entries_of_lines file) else refused_at (most_entries + 1) kind.TooMany
