-- The records that a reader of a whole file has left.
use Rattle.std.specs.Prelude.{◌≡◌, ◌≢◌, ◌⊎◌, ℕ, ◌+◌, ◌<◌, false, List, [], ◌∷◌, drop, length, Option, None, Some}
use Rattle.std.specs.Borrow.{Bor}
use Rattle.csv.specs.Machine.{ends_at_end}
use Rattle.csv.specs.Reading.{Ready, records_from, source_of, default_config, reader_config, reader_state, reader_trim, is_flexible, expected_len}
use Rattle.csv.specs.declared.error.ErrorKind.{ErrorKind}
use Rattle.csv.specs.declared.error.ErrorKind.TheVariants as error
use Rattle.csv.specs.declared.parser.State.{State}
use Rattle.csv.specs.declared.reader.Reader.{Reader}
use Rattle.csv.specs.declared.reader.Trim.TheVariants as trim
use Rattle.csv.specs.Records.{fields_of}
use Rattle.spd_cols.specs.Columns.{Record, field_place, header_of, records_of}
use Rattle.spd_cols.specs.declared.fault.DataKind.{DataKind}
use Rattle.spd_cols.specs.declared.fault.DataKind.TheVariants as kind
use Rattle.spd_cols.specs.declared.rows.Rows.{Rows}

-- a reader of bytes that are known
abbrev pub FileReader : Type 0
FileReader = Reader (Bor (List ℕ))

abbrev pub bytes_left : FileReader → Option (List ℕ)
bytes_left reader = source_of (λ bytes. Some bytes.now) reader

abbrev pub records_behind : State → Option (List ℕ) → List Record
records_behind state None = []
records_behind state (Some bytes) = records_from default_config (length bytes + 1) state bytes

-- an error of lengths
abbrev pub IsOfLengths : ErrorKind → Type 0
IsOfLengths (error.UnequalLengths pos expected len) = Unit {0}
IsOfLengths _ = ⊥

-- the records that it has left
abbrev pub records_left : FileReader → List Record
records_left reader = records_behind (reader_state reader) (bytes_left reader)

-- It stands between two records of a file that it reads by the default settings, each record as long as the first.
pub record IsBetweenRecords (reader : FileReader) : Type 0 where
  pub config : reader_config reader ≡ default_config
  pub trim : reader_trim reader ≡ trim.None
  pub strict : is_flexible reader ≡ false
  pub ready : Ready reader
  pub rests : ends_at_end (reader_state reader) ≡ false
  pub bytes : List ℕ
  pub known : bytes_left reader ≡ Some bytes

-- The next record that it has left has another number of fields than the one before.
abbrev pub IsRaggedNext : FileReader → Type 0
IsRaggedNext reader = (width : ℕ) × (fields : Record) × (left : List Record) × (expected_len reader ≡ Some width)
    × (records_left reader ≡ fields ∷ left) × (length fields ≢ width)

-- what a read that failed tells of it
abbrev pub IsRaggedOrNoMemory : FileReader → DataKind → Type 0
IsRaggedOrNoMemory reader what = ((what ≡ kind.Ragged) × IsRaggedNext reader) ⊎ (what ≡ kind.NoMemory)

-- rows whose records are read one after another: the record at hand is as wide as the header, and has a cell in the column
pub record IsAtRow (rows : Rows) : Type 0 where
  pub between : IsBetweenRecords rows.reader
  pub width : expected_len rows.reader ≡ Some (length (fields_of rows.fields))
  pub place : rows.place < length (fields_of rows.fields)

-- the rows of a file's column, at the header
pub record AreRowsOf (file field : List ℕ) (rows : Rows) : Type 0 where
  pub at : IsAtRow rows
  pub header : fields_of rows.fields ≡ header_of (records_of file)
  pub place : field_place field (header_of (records_of file)) ≡ Some rows.place
  pub left : records_left rows.reader ≡ drop 1 (records_of file)

-- the rows with one record more behind them
pub record AreRowsAfter (old new : Rows) : Type 0 where
  pub at : IsAtRow new
  pub place : new.place ≡ old.place
  pub width : length (fields_of new.fields) ≡ length (fields_of old.fields)
  pub left : records_left old.reader ≡ fields_of new.fields ∷ records_left new.reader
