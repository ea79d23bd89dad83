-- The jobs of a program's main, and what a log says of those that workers ran.
use Rattle.std.specs.Prelude.{◌≡◌, ◌≢◌, ◌⊎◌, ℕ, ◌+◌, ◌%◌, ◌^◌, List, [], length, Option, Some}
use Rattle.spd_io.specs.Shelf.{FileTold}
use Rattle.spd_data.specs.declared.column.Column.{Column}
use Rattle.spd_words.specs.declared.scheme.Scheme.TheVariants.{Flat}
use Rattle.spd_words.specs.Plan.{planned}
use Rattle.spd_syntax.specs.declared.tree.Program.{Program}
use Rattle.spd_meaning.specs.Acts.{jobs_of}
use Rattle.spd_meaning.specs.Programs.{main_meaning}
use Rattle.spd_cols.specs.Loading.{declarations}
use Rattle.spd_level.specs.Columns.{columns_in}
use Rattle.spd_work.specs.Logs.{RunLogView}
use Rattle.spd_command.specs.declared.settings.Settings.{Settings}
use Rattle.spd_top.specs.declared.words.SerialCommand.TheVariants.{Elide}
use Rattle.spd_top.specs.Requests.{Request}
use Rattle.spd_top.specs.Built.{passes}
use Rattle.spd_top.specs.DataFiles.{columns_loaded, DataComesTo}
use Rattle.spd_top.specs.Told.{Bytes, moves_within}
use Rattle.spd_top.specs.Serving.{ReadsText}

-- The jobs of main over columns, each as the number of its moves without its own.
abbrev pub main_jobs : Program → List Column → List ℕ
main_jobs tree columns = jobs_of (main_meaning tree.items (columns_in tree.items columns)).given

-- Main came to its end: it fell through, or ended with a fault.
abbrev pub EndsRun : ℕ → Type 0
EndsRun status = (status ≡ 0) ⊎ (status ≡ 3)

-- A number of 64 bits rose by so much, modulo 2^64.
abbrev pub RoseBy : ℕ → ℕ → ℕ → Type 0
RoseBy amount old new = new % 2 ^ 64 ≡ (old + amount) % 2 ^ 64

-- The log was told of a region for each job and of the moves that they draw, by the moves of a table and its nodes, as the settings
-- of a run say them.
pub record LogsJobs (settings : Settings) (jobs : List ℕ) (old new : RunLogView) : Type 0 where
  pub regions : RoseBy (length jobs) old.regions new.regions
  pub moves : RoseBy (moves_within settings.moves jobs) old.moves new.moves
  pub plan : jobs ≢ [] → new.plan ≡ Some (planned Flat settings.moves settings.nodes)
  pub none : jobs ≡ [] → new ≡ old

-- The log was told of the jobs of the program that is asked for.
pub record LogsRun (settings : Settings) (request : Option Request) (file : Bytes → FileTold) (old new : RunLogView) : Type 0 where
  pub name : Bytes
  pub tree : Program
  pub reads : ReadsText request file Elide name (passes tree)
  pub columns : List Column
  pub loaded : DataComesTo file (declarations tree.items) (columns_loaded columns)
  pub jobs : LogsJobs settings (main_jobs tree columns) old new
