-- The table of commands and of their arguments.
use Rattle.std.specs.Prelude.{ℕ, Bool, true, false, List, [], ◌∷◌, Option, codes, find}
use Rattle.std.specs.Str.{bytes_eq}
use Rattle.spd_command.specs.declared.argument.Argument.{Argument}
use Rattle.spd_command.specs.declared.argument.Argument.TheVariants.{Program, Rows, FileSeed, Workers, Moves, Nodes, Tree, Grow, Seed, Counts}
use Rattle.spd_command.specs.declared.argument.ValueKind.{ValueKind}
use Rattle.spd_command.specs.declared.argument.ValueKind.TheVariants.{Name, Number, Scheme, Flag}
use Rattle.spd_command.specs.declared.command_name.CommandName.{CommandName}
use Rattle.spd_command.specs.declared.command_name.CommandName.TheVariants.{Elide, Check, Make, Run, Job}

-- ---- arguments

abbrev pub argument_name : Argument → List ℕ
argument_name Program = codes "PROGRAM"
argument_name Rows = codes "ROWS"
argument_name FileSeed = codes "SEED"
argument_name Workers = codes "workers"
argument_name Moves = codes "moves"
argument_name Nodes = codes "nodes"
argument_name Tree = codes "tree"
argument_name Grow = codes "grow"
argument_name Seed = codes "seed"
argument_name Counts = codes "counts"

-- the words that an argument takes as its value
abbrev pub kind_of_value : Argument → ValueKind
kind_of_value Program = Name
kind_of_value Rows = Number 0 1000000
kind_of_value FileSeed = Number 0 4294967295
kind_of_value Workers = Number 1 64
kind_of_value Moves = Number 1 262144
kind_of_value Nodes = Number 0 262144
kind_of_value Tree = Scheme
kind_of_value Grow = Number 0 65536
kind_of_value Seed = Number 0 4294967295
kind_of_value Counts = Flag

abbrev pub stands_alone : ValueKind → Bool
stands_alone Flag = true
stands_alone _ = false

-- an option that stands alone, without a value
abbrev pub is_flag : Argument → Bool
is_flag argument = stands_alone (kind_of_value argument)

-- an option's word is two hyphens and its name
abbrev pub is_option_word : Argument → List ℕ → Bool
is_option_word argument word = bytes_eq (45 ∷ 45 ∷ argument_name argument) word

-- ---- commands

abbrev pub command_word : CommandName → List ℕ
command_word Elide = codes "elide"
command_word Check = codes "check"
command_word Make = codes "make"
command_word Run = codes "run"
command_word Job = codes "job"

-- the operands, in order
abbrev pub operands_of : CommandName → List Argument
operands_of Elide = Program ∷ []
operands_of Check = Program ∷ []
operands_of Make = Rows ∷ FileSeed ∷ []
operands_of Run = Program ∷ []
operands_of Job = Rows ∷ FileSeed ∷ []

abbrev pub run_options : List Argument
run_options = Workers ∷ Moves ∷ Nodes ∷ Tree ∷ Grow ∷ Seed ∷ Counts ∷ []

abbrev pub options_of : CommandName → List Argument
options_of Elide = []
options_of Check = []
options_of Make = []
options_of Run = run_options
options_of Job = run_options

abbrev pub all_commands : List CommandName
all_commands = Elide ∷ Check ∷ Make ∷ Run ∷ Job ∷ []

-- ---- what a word names

abbrev pub first_called : List CommandName → List ℕ → Option CommandName
first_called commands word = find (λ command. bytes_eq (command_word command) word) commands

abbrev pub command_called : List ℕ → Option CommandName
command_called word = first_called all_commands word

abbrev pub option_called : List Argument → List ℕ → Option Argument
option_called options word = find (λ option. is_option_word option word) options
