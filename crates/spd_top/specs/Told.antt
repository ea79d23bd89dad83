-- What a command tells of a text: a status, the bytes for `out` and the line for `err`.
use Rattle.std.specs.Prelude.{ℕ, ◌+◌, ◌/◌, ◌%◌, ◌^◌, ◌==◌, if◌then◌else◌, min, sum_by, List, [], ◌∷◌, ◌++◌, length, Option, Some, None, codes}
use Rattle.std.specs.Fmt.{decimal}
use Rattle.spd_syntax.specs.declared.tree.Program.{Program}
use Rattle.spd_syntax.specs.declared.lexing.LexKind.{LexKind}
use Rattle.spd_syntax.specs.declared.lexing.LexKind.TheVariants as lex
use Rattle.spd_syntax.specs.declared.fault.ParseKind.{ParseKind}
use Rattle.spd_syntax.specs.declared.fault.ParseKind.TheVariants as parse
use Rattle.spd_canonical.specs.Layout.{canonical_text}
use Rattle.spd_check.specs.declared.faults.CheckKind.{CheckKind}
use Rattle.spd_check.specs.declared.faults.CheckKind.TheVariants as check
use Rattle.spd_cols.specs.declared.fault.DataKind.{DataKind}
use Rattle.spd_cols.specs.declared.fault.DataKind.TheVariants as of_data
use Rattle.spd_level.specs.Columns.{columns_in}
use Rattle.spd_meaning.specs.Acts.{jobs_of}
use Rattle.spd_meaning.specs.Eval as eval
use Rattle.spd_meaning.specs.Eval.{Eval}
use Rattle.spd_meaning.specs.Programs.{main_meaning}
use Rattle.spd_meaning.specs.Printed.{printed}
use Rattle.spd_top.specs.declared.words.SerialCommand.{SerialCommand}
use Rattle.spd_top.specs.declared.words.SerialCommand.TheVariants.{Elide, Check}
use Rattle.spd_top.specs.Built.{TextOutcome, lex_fault, parse_fault, check_fault, passes}
use Rattle.spd_top.specs.DataFiles.{DataOutcome, columns_loaded, file_unread, file_refused}

abbrev pub Bytes : Type 0
Bytes = List ℕ

-- ---- lines

abbrev pub end_of_line : Bytes
end_of_line = 10 ∷ []

-- what is told of a file
abbrev pub of_file : Bytes → Bytes → Bytes
of_file name what = codes "spd: " ++ name ++ codes ": " ++ what ++ end_of_line

-- what is told of a line of a file, or of a record
abbrev pub of_line : Bytes → ℕ → Bytes → Bytes
of_line name line what = codes "spd: " ++ name ++ codes ":" ++ decimal line ++ codes ": " ++ what ++ end_of_line

abbrev pub lex_word : LexKind → Bytes
lex_word lex.BadByte = codes "BadByte"
lex_word lex.OpenString = codes "OpenString"
lex_word lex.BadEscape = codes "BadEscape"
lex_word lex.NoMemory = codes "NoMemory"

abbrev pub parse_word : ParseKind → Bytes
parse_word parse.Expected = codes "Expected"
parse_word parse.Literal = codes "Literal"
parse_word parse.TooDeep = codes "TooDeep"
parse_word parse.TooMany = codes "TooMany"
parse_word parse.NoMemory = codes "NoMemory"

abbrev pub check_word : CheckKind → Bytes
check_word check.Unknown = codes "Unknown"
check_word check.Twice = codes "Twice"
check_word check.Arity = codes "Arity"
check_word check.AsyncOutside = codes "AsyncOutside"
check_word check.OfferOutside = codes "OfferOutside"
check_word check.PrintPlace = codes "PrintPlace"
check_word check.ReturnPlace = codes "ReturnPlace"
check_word check.AssignOuter = codes "AssignOuter"
check_word check.ColumnKind = codes "ColumnKind"
check_word check.NoMain = codes "NoMain"
check_word check.NoReturn = codes "NoReturn"
check_word check.NoMemory = codes "NoMemory"

abbrev pub data_word : DataKind → Bytes
data_word of_data.TooLong = codes "TooLong"
data_word of_data.NoField = codes "NoField"
data_word of_data.Ragged = codes "Ragged"
data_word of_data.TooMany = codes "TooMany"
data_word of_data.NotInt = codes "NotInt"
data_word of_data.NoMemory = codes "NoMemory"

-- the word for the kind of a fault of a run
abbrev pub fault_word : ℕ → Bytes
fault_word kind = if kind == 1 then codes "division by zero" else if kind == 2 then codes "index out of range" else codes "calls too deep"

-- what is told of the code of a fault: it has the line and the kind
abbrev pub of_fault : Bytes → ℕ → Bytes
of_fault name code = of_line name (code / 8) (fault_word (code % 8))

-- what is told of regions and of the moves that they drew
abbrev pub of_counts : ℕ → ℕ → Bytes
of_counts regions moves = codes "spd: regions " ++ decimal regions ++ codes ", moves " ++ decimal moves ++ end_of_line

-- ---- jobs, each as the number of its moves without its own

-- how many moves they draw, each from a table of so many: of each the lesser of its moves with its own and those of the table
abbrev pub moves_within : ℕ → List ℕ → ℕ
moves_within most jobs = sum_by (λ moves. min (moves + 1) most) jobs

-- what is told of the jobs of a program that came to its end, where it is to be, with the moves of a table: a region for each
abbrev pub counts_line : Option ℕ → List ℕ → Bytes
counts_line None jobs = []
counts_line (Some most) jobs = of_counts (length jobs % 2 ^ 64) (moves_within most jobs % 2 ^ 64)

-- ---- what is told

pub record Told : Type 0 where
  pub status : ℕ
  -- for `out`
  pub bytes : Bytes
  -- for `err`
  pub line : Bytes

abbrev pub refusal : Bytes → Told
refusal line = record { status = 1; bytes = []; line = line }

-- the end of main: this line where it fell through, else its fault
abbrev pub end_told : {A : Type 0} → Bytes → Bytes → eval.End A → Bytes → Told
end_told line name (eval.Fault code) bytes = record { status = 3; bytes = bytes; line = of_fault name code }
end_told line name _ bytes = record { status = 0; bytes = bytes; line = line }

-- the lines that main prints, and where it faults that fault; where it falls through, its jobs, if they are to be told
abbrev pub run_told : {A : Type 0} → Option ℕ → Bytes → Eval A → Told
run_told counts name a = end_told (counts_line counts (jobs_of a.given)) name a.end (printed a.given)

-- what is told of data files that came to this: a program runs over its columns, and what it means is said of its own names
abbrev pub elided : Option ℕ → Bytes → Program → DataOutcome → Told
elided counts name tree (columns_loaded columns) = run_told counts name (main_meaning tree.items (columns_in tree.items columns))
elided counts name tree (file_unread file) = record { status = 4; bytes = []; line = of_file file (codes "read failed") }
elided counts name tree (file_refused file fault) = record { status = 6; bytes = []; line = of_line file fault.row (data_word fault.kind) }

-- bytes, and no line
abbrev pub bytes_alone : Bytes → Told
bytes_alone bytes = record { status = 0; bytes = bytes; line = [] }

abbrev pub checked : Program → Told
checked tree = bytes_alone (canonical_text tree)

-- what a command tells of a program that passes the checks, and of what its data files came to
abbrev pub program_told : Option ℕ → SerialCommand → Bytes → Program → DataOutcome → Told
program_told counts Elide name tree came = elided counts name tree came
program_told counts Check name tree came = checked tree

-- what it tells of a file of this name, whose text comes to this, and of its data files
abbrev pub told_of : Option ℕ → SerialCommand → Bytes → TextOutcome → DataOutcome → Told
told_of counts command name (lex_fault fault) came = refusal (of_line name fault.line (lex_word fault.kind))
told_of counts command name (parse_fault fault) came = refusal (of_line name fault.line (parse_word fault.kind))
told_of counts command name (check_fault fault) came = refusal (of_line name fault.line (check_word fault.kind))
told_of counts command name (passes tree) came = program_told counts command name tree came
