-- Jobs by their program's own names.
use Rattle.std.specs.Prelude.{◌≡◌, ℕ, ℤ, List, length}
use Rattle.spd_words.specs.Total.{Total, nothing}
use Rattle.spd_meaning.specs.Values.{ColumnView}
use Rattle.spd_meaning.specs.Names.{Name}
use Rattle.spd_meaning.specs.Programs.{Callable, callables_of}
use Rattle.spd_meaning.specs.Blocks.{SourceBlock}
use Rattle.spd_meaning.specs.Jobs.{block_result, call_result}
use Rattle.spd_meaning.specs.Standing.{StandWell}
use Rattle.spd_code.specs.Resolved.{spaces_of, code_of}
use Rattle.spd_code.specs.Coded.{item_at}
use Rattle.spd_code.specs.Alike.{IsItem, IsCode}
use Rattle.spd_level.specs.Columns.{Fits}
use Rattle.spd_words.specs.declared.finish_kind.FinishKind.{FinishKind}
use Rattle.spd_words.specs.declared.finish_kind.FinishKind.TheVariants as kind
use Rattle.spd_data.specs.declared.column.Column.{Column}
use Rattle.spd_syntax.specs.declared.tree.Item.{Item}
use Rattle.spd_code.specs.declared.stmt.CodeBlock.{CodeBlock}
use Rattle.spd_code.specs.declared.tree.CodeItem.{CodeItem}
use Rattle.spd_code.specs.declared.tree.CodeTree.{CodeTree}
use Rattle.spd_machine.specs.declared.job.JobBody.{JobBody}
use Rattle.spd_machine.specs.declared.job.JobBody.TheVariants as job

-- A code is that of a program, whose functions' statements stand where they may: so it is where the checks accept the program. Its columns fit it.
pub record IsCheckedProgram (items : List Item) (code : CodeTree) (columns : List Column) : Type 0 where
  pub is_code : IsCode items code
  pub fits : Fits items columns
  pub stands : StandWell (callables_of items).functions

-- a block of the program, or one of its functions
pub data SourceJob : Type 0 where
  OfBlock : (block : SourceBlock) → SourceJob
  OfFunction : (function : Callable) → SourceJob

-- The code of a source block, with a value for each name that is visible there.
pub record RunsSourceBlock (items : List Item) (block : CodeBlock) (vars : List ℤ) (source : SourceBlock) : Type 0 where
  pub next : ℕ
  pub is : block ≡ code_of (spaces_of items) source.names next source.stmts
  pub values : length vars ≡ length source.names

-- The code of a function, for a sum.
pub record RunsSourceFunction (items : List Item) (code : CodeTree) (of : FinishKind) (item : CodeItem) (function : Callable) : Type 0 where
  pub sum : of ≡ kind.Sum
  pub number : ℕ
  pub there : item ≡ item_at code.functions number
  pub is : IsItem (spaces_of items) function item

-- It is this job of the program.
abbrev pub IsSourceJob : List Item → CodeTree → FinishKind → JobBody → SourceJob → Type 0
IsSourceJob items code of (job.Block block left vars) (OfBlock source) = RunsSourceBlock items block.now vars.items source
IsSourceJob items code of (job.Call item left args) (OfFunction function) = RunsSourceFunction items code of item.now function
IsSourceJob items code of _ _ = ⊥

-- what it has by the meaning of the program
abbrev pub source_result : List Item → (Name → ColumnView) → FinishKind → JobBody → SourceJob → Total
source_result items column of (job.Block block left vars) (OfBlock source) = block_result items column left of source vars.items
source_result items column of (job.Call item left args) (OfFunction function) = call_result items column left function args.items
source_result items column of _ _ = nothing of
