-- What is known before a program runs, or of the answer that came in its place.
use Rattle.std.specs.Prelude.{◌≡◌, ℕ, ◌≤◌, List, length, Option, Some}
use Rattle.spd_io.specs.Shelf.{MayBe, ShelfState, KeepsFiles, ShelfKeepsFaults, ChangesNoOther}
use Rattle.spd_io.specs.Sink.{SinkState}
use Rattle.spd_data.specs.declared.column.Column.{Column}
use Rattle.spd_syntax.specs.Limits.{max_text}
use Rattle.spd_syntax.specs.declared.tree.Program.{Program}
use Rattle.spd_cols.specs.Loading.{declarations}
use Rattle.spd_top.specs.declared.words.SerialCommand.{SerialCommand}
use Rattle.spd_top.specs.declared.words.SerialCommand.TheVariants.{Elide}
use Rattle.spd_top.specs.Requests.{over}
use Rattle.spd_top.specs.Built.{passes, ComesTo}
use Rattle.spd_top.specs.DataFiles.{columns_loaded, DataComesTo}
use Rattle.spd_top.specs.Told.{Bytes}
use Rattle.spd_top.specs.Jobs.{EndsRun}
use Rattle.spd_top.specs.Serving.{ReadsText, IsUnread, ChangesNoUntouched, Answer}

-- The file of this name was read, and no other, and this is its program.
pub record HasProgram (name : Bytes) (tree : Program) (shelf shelf' : ShelfState) : Type 0 where
  pub text : Bytes
  pub may : MayBe (shelf.file name) text
  pub within : length text ≤ max_text
  pub comes : ComesTo text (passes tree)
  pub files : KeepsFiles shelf shelf'
  pub counts : ShelfKeepsFaults shelf shelf'
  pub others : ChangesNoOther shelf shelf' name

-- So were its data files, and these are its columns.
pub record HasColumns (counts : Option ℕ) (name : Bytes) (tree : Program) (columns : List Column) (shelf shelf' : ShelfState) : Type 0 where
  pub reads : ReadsText (Some (over Elide name counts)) shelf.file Elide name (passes tree)
  pub loaded : DataComesTo shelf.file (declarations tree.items) (columns_loaded columns)
  pub others : ChangesNoUntouched (Some (over Elide name counts)) shelf shelf'

-- A command over this file was answered, with nothing put to `out`.
pub record AnswersEarly (counts : Option ℕ) (command : SerialCommand) (name : Bytes) (shelf shelf' : ShelfState) (err err' : SinkState) (result : ℕ) : Type 0 where
  pub answer : (out : SinkState) → Answer (Some (over command name counts)) shelf shelf' out out err err' result
  pub others : ChangesNoUntouched (Some (over command name counts)) shelf shelf'
  pub not_ended : EndsRun result → ⊥
  pub read_cause : result ≡ 4 → (file : Bytes) × IsUnread (Some (over command name counts)) shelf shelf' file
