-- What a command line asks for.
use Rattle.std.specs.Prelude.{◌≡◌, ◌≤◌, true, false, is_some, ℕ, List, [], ◌∷◌, Option, None, option_map, option_and_then, unwrap_or}
use Rattle.std.specs.Option.{option_map_or}
use Rattle.std.specs.Str.Parse.{digits_value}
use Rattle.spd_words.specs.declared.scheme.Scheme.{Scheme}
use Rattle.spd_words.specs.declared.scheme.Scheme.TheVariants.{Grow as ByTosses}
use Rattle.spd_command.specs.declared.argument.Argument.{Argument}
use Rattle.spd_command.specs.declared.argument.Argument.TheVariants as argument
use Rattle.spd_command.specs.declared.command_name.CommandName.{CommandName}
use Rattle.spd_command.specs.declared.command_name.CommandName.TheVariants as name
use Rattle.spd_command.specs.declared.settings.Settings.{Settings}
use Rattle.spd_command.specs.Table.{command_called}
use Rattle.spd_command.specs.Values.{scheme_called}
use Rattle.spd_command.specs.Lines.{Passed, arguments_in, value_in}

-- a command with the values of its arguments
pub data Asked : Type 0 where
  elide : (program : List ℕ) → Asked
  check : (program : List ℕ) → Asked
  make : (rows seed : ℕ) → Asked
  run : (program : List ℕ) (settings : Settings) → Asked
  job : (rows seed : ℕ) (settings : Settings) → Asked

-- an operand's value
abbrev pub text_in : Argument → List Passed → List ℕ
text_in argument all = unwrap_or (value_in argument all) []

-- an argument's value, or what holds where it isn't given
abbrev pub number_or : ℕ → Argument → List Passed → ℕ
number_or standard argument all = option_map_or (digits_value 10) (value_in argument all) standard

abbrev pub scheme_or : Scheme → Argument → List Passed → Scheme
scheme_or standard argument all = option_map_or scheme_called (value_in argument all) standard

-- what holds where no option is given
abbrev pub standard : Settings
standard = record { workers = 4; moves = 16384; nodes = 16384; tree = ByTosses; grow = 32768; seed = 1; counts = false }

abbrev pub settings_in : List Passed → Settings
settings_in all = record {
  workers = number_or standard.workers argument.Workers all;
  moves = number_or standard.moves argument.Moves all;
  nodes = number_or standard.nodes argument.Nodes all;
  tree = scheme_or standard.tree argument.Tree all;
  grow = number_or standard.grow argument.Grow all;
  seed = number_or standard.seed argument.Seed all;
  counts = is_some (value_in argument.Counts all);
}

abbrev pub asked_by : CommandName → List Passed → Asked
asked_by name.Elide all = elide (text_in argument.Program all)
asked_by name.Check all = check (text_in argument.Program all)
asked_by name.Make all = make (number_or 0 argument.Rows all) (number_or 0 argument.FileSeed all)
asked_by name.Run all = run (text_in argument.Program all) (settings_in all)
asked_by name.Job all = job (number_or 0 argument.Rows all) (number_or 0 argument.FileSeed all) (settings_in all)

-- what a list of words asks for; nothing where it is no command line
abbrev pub asked_of : List (List ℕ) → Option Asked
asked_of [] = None
asked_of (word ∷ words) = option_and_then (λ command. option_map (asked_by command) (arguments_in command words)) (command_called word)

abbrev pub name_of : Asked → CommandName
name_of (elide program) = name.Elide
name_of (check program) = name.Check
name_of (make rows seed) = name.Make
name_of (run program settings) = name.Run
name_of (job rows seed settings) = name.Job

-- the command of a command line
abbrev pub name_in : List (List ℕ) → Option CommandName
name_in words = option_map name_of (asked_of words)

-- Each number lies in its option's range.
pub record AreInRange (settings : Settings) : Type 0 where
  pub workers : (1 ≤ settings.workers) × (settings.workers ≤ 64)
  pub moves : (1 ≤ settings.moves) × (settings.moves ≤ 262144)
  pub nodes : settings.nodes ≤ 262144
  pub grow : settings.grow ≤ 65536

-- A run's settings do, and a made file's rows.
abbrev pub KeepsRanges : Asked → Type 0
KeepsRanges (make rows seed) = rows ≤ 1000000
KeepsRanges (run program settings) = AreInRange settings
KeepsRanges (job rows seed settings) = (rows ≤ 1000000) × AreInRange settings
KeepsRanges _ = Unit {0}

-- The words are this command with lawful words behind it.
pub record IsLine (words : List (List ℕ)) (command : CommandName) (behind : List (List ℕ)) : Type 0 where
  pub lawful : is_some (arguments_in command behind) ≡ true
  pub asks : asked_of words ≡ option_map (asked_by command) (arguments_in command behind)
