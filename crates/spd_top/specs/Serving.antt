-- What a command line's request over files defines, and what is answered where files, sinks or memory fail.
use Rattle.std.specs.Prelude.{◌≡◌, ◌≢◌, ℕ, ◌≤◌, [], ◌++◌, length, Option, Some, None, Result, Ok, Err, codes, ◌⊎◌}
use Rattle.spd_io.specs.Shelf.{FileTold, Untold, Missing, MayBe, MayExceed, ShelfState, FailedAt}
use Rattle.spd_io.specs.Sink.{SinkState, Gets, GetsFront, Failed, SameFaults}
use Rattle.spd_syntax.specs.Limits.{max_text}
use Rattle.spd_syntax.specs.declared.tree.Program.{Program}
use Rattle.spd_syntax.specs.declared.tree.ItemKind.TheVariants as i
use Rattle.spd_cols.specs.declared.fault.LoadFault.{LoadFault}
use Rattle.spd_cols.specs.declared.fault.LoadFault.TheVariants as load
use Rattle.spd_cols.specs.Loading.{declarations, file_of_column, IsNoFileOf}
use Rattle.spd_cols.specs.Made.{made_csv}
use Rattle.spd_spine.specs.declared.turn.End.{End}
use Rattle.spd_spine.specs.declared.turn.End.TheVariants as end
use Rattle.spd_spine.specs.declared.turn.RunError.{RunError}
use Rattle.spd_spine.specs.declared.turn.RunError.TheVariants as failed
use Rattle.spd_top.specs.declared.words.SerialCommand.{SerialCommand}
use Rattle.spd_top.specs.declared.words.SerialCommand.TheVariants.{Elide}
use Rattle.spd_top.specs.Requests.{Request, made_file, command_asked, program_asked, counts_asked}
use Rattle.spd_top.specs.Built.{TextOutcome, passes, ComesTo}
use Rattle.spd_top.specs.DataFiles.{DataOutcome, columns_loaded, DataComesTo, StopsAt, AreTold}
use Rattle.spd_top.specs.Told.{Bytes, end_of_line, of_file, of_line, of_fault, lex_word, parse_word, check_word, data_word, Told, told_of}
use Rattle.spd_top.specs.declared.building.BuildError.{BuildError}
use Rattle.spd_top.specs.declared.building.BuildError.TheVariants as errors

-- ---- the lines that tell of no file

abbrev pub words_refused : Bytes
words_refused = codes "spd: words refused" ++ end_of_line

abbrev pub out_of_memory : Bytes
out_of_memory = codes "spd: out of memory" ++ end_of_line

abbrev pub write_failed : Bytes
write_failed = codes "spd: write failed" ++ end_of_line

-- ---- the outcome: a status, the bytes for `out` and the line for `err`

-- What a command's data files come to: those of a program that runs. No other command, and no refused text, has any.
abbrev pub ReadsData : (Bytes → FileTold) → SerialCommand → TextOutcome → DataOutcome → Type 0
ReadsData file Elide (passes tree) came = DataComesTo file (declarations tree.items) came
ReadsData file _ _ came = came ≡ columns_loaded []

-- The request is this command over this file, whose text comes to this.
pub record ReadsText (request : Option Request) (file : Bytes → FileTold) (command : SerialCommand) (name : Bytes) (outcome : TextOutcome) : Type 0 where
  pub command_is : command_asked request ≡ Some command
  pub program_is : program_asked request ≡ Some name
  pub text : Bytes
  pub may : MayBe (file name) text
  pub within : length text ≤ max_text
  pub comes : ComesTo text outcome

pub data Outcome (request : Option Request) (file : Bytes → FileTold) : ℕ → Bytes → Bytes → Type 0 where
  refused : request ≡ None → Outcome request file 2 [] words_refused
  made : (rows seed : ℕ) → request ≡ Some (made_file rows seed) → Outcome request file 0 (made_csv rows seed) []
  missing : (name : Bytes) → program_asked request ≡ Some name → file name ≡ Missing → Outcome request file 4 [] (of_file name (codes "read failed"))
  too_long : (name : Bytes) → program_asked request ≡ Some name → MayExceed (file name) max_text → Outcome request file 1 [] (of_file name (codes "TooLong"))
  of_text : (command : SerialCommand) (name : Bytes) (outcome : TextOutcome) (came : DataOutcome) (status : ℕ) (bytes line : Bytes) → ReadsText request file command name outcome
      → ReadsData file command outcome came → told_of (counts_asked request) command name outcome came ≡ record { status = status; bytes = bytes; line = line } → Outcome request file status bytes line

-- two statuses, with the bytes for `out` and the lines for `err`
abbrev pub SameAnswer : ℕ → ℕ → Bytes → Bytes → Bytes → Bytes → Type 0
SameAnswer status status' bytes bytes' line line' = (status ≡ status') × (bytes ≡ bytes') × (line ≡ line')

-- It is told what file PROGRAM is, and what the data files are that its program declares.
pub record AreAllTold (request : Option Request) (file : Bytes → FileTold) : Type 0 where
  pub operand : (name : Bytes) → program_asked request ≡ Some name → file name ≢ Untold
  pub columns : (name : Bytes) (tree : Program) → ReadsText request file Elide name (passes tree) → AreTold file (declarations tree.items)

-- A request has one outcome, where it is told what its files are.
abbrev pub HasOneOutcome : Option Request → (Bytes → FileTold) → Type 0
HasOneOutcome request file = AreAllTold request file → (status status' : ℕ) (bytes bytes' line line' : Bytes)
    → Outcome request file status bytes line → Outcome request file status' bytes' line' → SameAnswer status status' bytes bytes' line line'

-- ---- files that are read

-- Reading this file failed: PROGRAM, or a data file of its program, where those before it were loaded.
pub data IsUnread (request : Option Request) (shelf shelf' : ShelfState) : Bytes → Type 0 where
  program : (name : Bytes) → program_asked request ≡ Some name → FailedAt shelf shelf' name → IsUnread request shelf shelf' name
  column : (name file : Bytes) (tree : Program) (what : i.the_data) → ReadsText request shelf.file Elide name (passes tree)
      → StopsAt shelf.file (declarations tree.items) what file → FailedAt shelf shelf' file → IsUnread request shelf shelf' file

-- The name is neither PROGRAM's nor that of a data file of its program.
pub record IsUntouched (request : Option Request) (file : Bytes → FileTold) (name : Bytes) : Type 0 where
  pub operand : program_asked request ≢ Some name
  pub columns : (program : Bytes) (tree : Program) → ReadsText request file Elide program (passes tree) → IsNoFileOf name (declarations tree.items)

-- No count of such a name changes.
abbrev pub ChangesNoUntouched : Option Request → ShelfState → ShelfState → Type 0
ChangesNoUntouched request shelf shelf' = (name : Bytes) → IsUntouched request shelf.file name → shelf'.faults name ≡ shelf.faults name

-- ---- the answer

-- A sink got the bytes without a fault.
abbrev pub Takes : SinkState → SinkState → Bytes → Type 0
Takes old new bytes = Gets old new bytes × SameFaults old new

-- A sink got the first of the bytes, up to some place, without a fault.
abbrev pub TakesFront : SinkState → SinkState → Bytes → Type 0
TakesFront old new bytes = GetsFront old new bytes × SameFaults old new

-- A sink failed, and got the first of the bytes.
abbrev pub FailsIn : SinkState → SinkState → Bytes → Type 0
FailsIn old new bytes = Failed old new × GetsFront old new bytes

-- A sink got the bytes without a fault, or failed in them.
abbrev pub GetsOrFails : SinkState → SinkState → Bytes → Type 0
GetsOrFails old new bytes = Takes old new bytes ⊎ FailsIn old new bytes

-- A status was told by its line, or is 5 where the sink failed in the line.
abbrev pub Says : ℕ → SinkState → SinkState → Bytes → ℕ → Type 0
Says status old new line result = ((result ≡ status) × Takes old new line) ⊎ ((result ≡ 5) × FailsIn old new line)

-- The answer is 7, for want of memory.
abbrev pub WantsMemory : SinkState → SinkState → ℕ → Type 0
WantsMemory old new result = (result ≡ 7) × GetsOrFails old new out_of_memory

-- why a text gave no program was told, unless memory ran out
abbrev pub RefusesText : Bytes → BuildError → SinkState → SinkState → ℕ → Type 0
RefusesText name (errors.Lex fault) old new result = Says 1 old new (of_line name fault.line (lex_word fault.kind)) result ⊎ WantsMemory old new result
RefusesText name (errors.Parse fault) old new result = Says 1 old new (of_line name fault.line (parse_word fault.kind)) result ⊎ WantsMemory old new result
RefusesText name (errors.Check fault) old new result = Says 1 old new (of_line name fault.line (check_word fault.kind)) result ⊎ WantsMemory old new result
RefusesText name errors.NoMemory old new result = WantsMemory old new result

-- What was to be told was answered, or a sink failed in it, or memory ran out when `out` had got the first of its bytes.
pub data Tells (t : Told) (out out' err err' : SinkState) : ℕ → Type 0 where
  took : Takes out out' t.bytes → Takes err err' t.line → Tells t out out' err err' t.status
  out_stopped : FailsIn out out' t.bytes → GetsOrFails err err' write_failed → Tells t out out' err err' 5
  err_stopped : Takes out out' t.bytes → FailsIn err err' t.line → Tells t out out' err err' 5
  memory_stopped : TakesFront out out' t.bytes → GetsOrFails err err' out_of_memory → Tells t out out' err err' 7

-- Why a program has no columns was told, by the name of the column's file, unless memory ran out.
abbrev pub RefusesData : Program → LoadFault → SinkState → SinkState → ℕ → Type 0
RefusesData tree (load.Failed number) old new result =
    ((file : Bytes) × (file_of_column tree.items number ≡ Some file) × (result ≡ 4) × GetsOrFails old new (of_file file (codes "read failed")))
    ⊎ WantsMemory old new result
RefusesData tree (load.Refused number fault) old new result =
    ((file : Bytes) × (file_of_column tree.items number ≡ Some file) × Says 6 old new (of_line file fault.row (data_word fault.kind)) result)
    ⊎ WantsMemory old new result
RefusesData tree load.NoMemory old new result = WantsMemory old new result

-- How main ended was told, by this line where it fell through.
abbrev pub TellsEnd : Bytes → Bytes → Result End RunError → SinkState → SinkState → ℕ → Type 0
TellsEnd line name (Ok end.Done) old new result = Says 0 old new line result ⊎ WantsMemory old new result
TellsEnd line name (Ok (end.Fault code)) old new result = Says 3 old new (of_fault name code) result ⊎ WantsMemory old new result
TellsEnd line name (Err failed.WriteFailed) old new result = (result ≡ 5) × GetsOrFails old new write_failed
TellsEnd line name (Err failed.NoMemory) old new result = WantsMemory old new result

-- What was answered, by what shelf, `out` and `err` were before and after.
pub data Answer (request : Option Request) (shelf shelf' : ShelfState) (out out' err err' : SinkState) : ℕ → Type 0 where
  -- the outcome
  as_defined : (status : ℕ) (bytes line : Bytes) → Outcome request shelf.file status bytes line → Takes out out' bytes → Takes err err' line
      → Answer request shelf shelf' out out' err err' status
  -- A file could not be read.
  unread : (name : Bytes) → IsUnread request shelf shelf' name → Takes out out' [] → GetsOrFails err err' (of_file name (codes "read failed"))
      → Answer request shelf shelf' out out' err err' 4
  -- `out` failed in the bytes of the outcome.
  out_failed : (status : ℕ) (bytes line : Bytes) → Outcome request shelf.file status bytes line → FailsIn out out' bytes → GetsOrFails err err' write_failed
      → Answer request shelf shelf' out out' err err' 5
  -- `err` failed in the line of the outcome, which isn't that of a file that could not be read.
  err_failed : (status : ℕ) (bytes line : Bytes) → Outcome request shelf.file status bytes line → status ≢ 4 → Takes out out' bytes → FailsIn err err' line
      → Answer request shelf shelf' out out' err err' 5
  -- Memory ran out before anything was put to `out`.
  no_memory : Takes out out' [] → GetsOrFails err err' out_of_memory → Answer request shelf shelf' out out' err err' 7
  -- Memory ran out when `out` had got the first of the bytes of the outcome.
  no_more_memory : (status : ℕ) (bytes line : Bytes) → Outcome request shelf.file status bytes line → TakesFront out out' bytes → GetsOrFails err err' out_of_memory
      → Answer request shelf shelf' out out' err err' 7
