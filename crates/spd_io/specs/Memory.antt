-- Files, sinks and faults in memory.
use Rattle.std.specs.Prelude.{◌≡◌, ℕ, ◌+◌, ◌==◌, Bool, not, ◌&&◌, if◌then◌else◌, min, nat_le, List, [], ◌∷◌, ◌++◌, length, count_by, Some, Result, Ok, Err}
use Rattle.std.specs.List.{list_any}
use Rattle.std.specs.Global.{Vec}
use Rattle.std.specs.Str.{bytes_eq}
use Rattle.spd_io.specs.Count.{last_count}
use Rattle.spd_io.specs.Shelf.{FileTold, Missing, Holds, ShelfState}
use Rattle.spd_io.specs.Sink.{SinkState}
use Rattle.spd_io.specs.declared.files.NamedFile.{NamedFile}
use Rattle.spd_io.specs.declared.shelf.ShelfFault.{ShelfFault}
use Rattle.spd_io.specs.declared.shelf.ShelfFault.TheVariants as fault
use Rattle.spd_io.specs.declared.sink.SinkFault.{SinkFault}
use Rattle.spd_io.specs.declared.sink.SinkFault.TheVariants as sink_fault

-- ---- names and files

-- how often a name stands among those whose reads failed
abbrev pub times_of : List ℕ → List (List ℕ) → ℕ
times_of name names = count_by (λ other. bytes_eq other name) names

-- the file of a name: of two with one name the one that was added later, which stands first
abbrev pub file_of : List NamedFile → List ℕ → FileTold
file_of [] name = Missing
file_of (file ∷ files) name = if bytes_eq file.name name then Holds file.bytes else file_of files name

-- the same, with an empty file under each name that has none
abbrev pub file_or_empty : List NamedFile → List ℕ → FileTold
file_or_empty files name = or_empty (file_of files name)
  where
    or_empty : FileTold → FileTold
    or_empty Missing = Holds []
    or_empty told = told

-- ---- calls that are to fail

-- the calls that were made, and the numbers of those that are to fail, counted from 1
pub record Calls : Type 0 where
  pub made : ℕ
  pub failing : List ℕ

abbrev pub uncalled : Calls
uncalled = record { made = 0; failing = [] }

-- the same, where the call of this number is to fail too
abbrev pub to_fail : Calls → ℕ → Calls
to_fail calls call = record calls { failing = calls.failing ++ call ∷ [] }

abbrev pub next_call : Calls → ℕ
next_call calls = min (calls.made + 1) last_count

abbrev pub next_fails : Calls → Bool
next_fails calls = list_any (λ call. call == next_call calls) calls.failing

abbrev pub after_call : Calls → Calls
after_call calls = record calls { made = next_call calls }

-- ---- a shelf in memory

pub record MemShelfState : Type 0 where
  pub files : List NamedFile
  pub calls : Calls
  -- the names whose reads failed, in order
  pub failed : List (List ℕ)

abbrev pub mem_shelf_state : MemShelfState → ShelfState
mem_shelf_state shelf = record { file = file_of shelf.files; faults = λ name. times_of name shelf.failed }

-- what a read of a told file gives, where memory is ample
abbrev pub within_limit : FileTold → ℕ → Result (List ℕ) ShelfFault
within_limit (Holds bytes) limit = if nat_le (length bytes) limit then Ok bytes else Err fault.TooLong
within_limit _ limit = Err fault.Failed

-- what a call of read gives, where memory is ample
abbrev pub read_of : MemShelfState → List ℕ → ℕ → Result (List ℕ) ShelfFault
read_of shelf name limit = if next_fails shelf.calls then Err fault.Failed else within_limit (file_of shelf.files name) limit

-- The answer is that one, or want of memory.
abbrev pub IsAnswer : Result (Vec ℕ) ShelfFault → Result (List ℕ) ShelfFault → Type 0
IsAnswer (Ok file) expected = expected ≡ Ok file.items
IsAnswer (Err fault.NoMemory) expected = Unit {0}
IsAnswer (Err other) expected = expected ≡ Err other

-- The name joins those whose reads failed where the answer says so.
abbrev pub failed_after : Result (Vec ℕ) ShelfFault → List (List ℕ) → List ℕ → List (List ℕ)
failed_after (Err fault.Failed) failed name = failed ++ name ∷ []
failed_after _ failed name = failed

-- the shelf with one file more
abbrev pub with_file : MemShelfState → List ℕ → List ℕ → MemShelfState
with_file shelf name bytes = record shelf { files = record { name = name; bytes = bytes } ∷ shelf.files }

-- the shelf after a read of this name that was answered so
abbrev pub after_read : MemShelfState → Result (Vec ℕ) ShelfFault → List ℕ → MemShelfState
after_read shelf answer name =
    record shelf { calls = after_call shelf.calls; failed = failed_after answer shelf.failed name }

-- ---- a sink in memory

pub record MemSinkState : Type 0 where
  pub bytes : List ℕ
  pub room : ℕ
  pub calls : Calls
  pub faults : ℕ

abbrev pub mem_sink_state : MemSinkState → SinkState
mem_sink_state sink = record { got = Some sink.bytes; faults = sink.faults }

-- a piece fits, and the call isn't one that is to fail
abbrev pub takes : MemSinkState → List ℕ → Bool
takes sink piece = nat_le (length sink.bytes + length piece) sink.room && not (next_fails sink.calls)

-- what a put of a piece that isn't empty answers, and the sink after it
abbrev pub put_of : MemSinkState → List ℕ → Result ℕ SinkFault
put_of sink piece = if takes sink piece then Ok (length piece) else Err sink_fault.Failed

abbrev pub after_put : MemSinkState → List ℕ → MemSinkState
after_put sink piece =
    if takes sink piece then record sink { bytes = sink.bytes ++ piece; calls = after_call sink.calls }
    else record sink { calls = after_call sink.calls; faults = min (sink.faults + 1) last_count }
