-- What the words of a command line ask for: a command over a program's file, on one thread, which defines what is answered; or a made file.
use Rattle.std.specs.Prelude.{ℕ, Bool, true, false, List, Option, Some, None, if◌then◌else◌, option_map, option_and_then}
use Rattle.spd_command.specs.declared.command_name.CommandName.{CommandName}
use Rattle.spd_command.specs.declared.command_name.CommandName.TheVariants as name
use Rattle.spd_command.specs.declared.settings.Settings.{Settings}
use Rattle.spd_command.specs.Asked.{Asked, elide, check, make, run, job, asked_of}
use Rattle.spd_top.specs.declared.words.SerialCommand.{SerialCommand}
use Rattle.spd_top.specs.declared.words.SerialCommand.TheVariants.{Elide, Check}
use Rattle.spd_top.specs.Told.{Bytes}
use Rattle.spd_top.specs.BuiltIn.{job_name}

pub data Request : Type 0 where
  -- a command over the program of a file; where its regions and moves are to be told, with the moves of a table
  over : (command : SerialCommand) (program : Bytes) (counts : Option ℕ) → Request
  -- a file of so many rows that is made from a seed
  made_file : (rows seed : ℕ) → Request

-- where a run's regions and moves are to be told, the moves of a table
abbrev pub counts_for : Settings → Option ℕ
counts_for settings = if settings.counts then Some settings.moves else None

-- A run asks for what its program's serial elision gives: of its settings, only what is to be told of its moves is part of it.
abbrev pub request_in : Asked → Request
request_in (elide program) = over Elide program None
request_in (check program) = over Check program None
request_in (make rows seed) = made_file rows seed
request_in (run program settings) = over Elide program (counts_for settings)
request_in (job rows seed settings) = over Elide job_name (counts_for settings)

-- what words ask for; nothing where they are refused
abbrev pub request_of : List Bytes → Option Request
request_of words = option_map request_in (asked_of words)

-- the same where there are no workers, and words that ask for some are refused
abbrev pub still_in : Asked → Option Request
still_in (run program settings) = None
still_in (job rows seed settings) = None
still_in asked = Some (request_in asked)

abbrev pub still_request_of : List Bytes → Option Request
still_request_of words = option_and_then still_in (asked_of words)

-- A command of this name runs on workers.
abbrev pub needs_workers : CommandName → Bool
needs_workers name.Run = true
needs_workers name.Job = true
needs_workers _ = false

-- ---- its parts

abbrev pub command_asked : Option Request → Option SerialCommand
command_asked (Some (over command program counts)) = Some command
command_asked _ = None

abbrev pub program_asked : Option Request → Option Bytes
program_asked (Some (over command program counts)) = Some program
program_asked _ = None

abbrev pub counts_asked : Option Request → Option ℕ
counts_asked (Some (over command program counts)) = counts
counts_asked _ = None

-- ---- what is not part of it

-- the settings of a run, of a file's program or the built-in one
abbrev pub settings_of : Asked → Option Settings
settings_of (run program settings) = Some settings
settings_of (job rows seed settings) = Some settings
settings_of _ = None

abbrev pub settings_asked : List Bytes → Option Settings
settings_asked words = option_and_then settings_of (asked_of words)

-- The command is one over a file that words name.
abbrev pub NamesFile : Option Asked → Type 0
NamesFile (Some (elide program)) = Unit {0}
NamesFile (Some (check program)) = Unit {0}
NamesFile (Some (run program settings)) = Unit {0}
NamesFile _ = ⊥

-- It is the built-in program's.
abbrev pub IsJob : Option Asked → Type 0
IsJob (Some (job rows seed settings)) = Unit {0}
IsJob _ = ⊥
