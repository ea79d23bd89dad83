-- Jobs of a program: which are lawful, and what each has.
use Rattle.std.specs.Prelude.{◌≡◌, ℕ, ℤ, pos, min, true, List, length, Some, Result, Ok, Err, slice_get}
use Rattle.spd_words.specs.Gift.{no_fault}
use Rattle.spd_words.specs.Total.{Total, settle}
use Rattle.spd_words.specs.declared.finish_kind.FinishKind.{FinishKind}
use Rattle.spd_words.specs.declared.finish_kind.FinishKind.TheVariants as kind
use Rattle.spd_syntax.specs.declared.tree.Item.{Item}
use Rattle.spd_meaning.specs.Eval.{job_total}
use Rattle.spd_meaning.specs.Values.{ColumnView}
use Rattle.spd_meaning.specs.Names.{Name, enter}
use Rattle.spd_meaning.specs.Meaning.{block_meaning}
use Rattle.spd_meaning.specs.Programs.{Callable, callables_of, callable_returned, around_with}
use Rattle.spd_meaning.specs.Blocks.{SourceBlock, blocks_of}

-- the block of an async or finish statement, of this number, with a value for each name that is visible there
pub record IsLawfulBlock (items : List Item) (number : ℕ) (vars : List ℤ) (block : SourceBlock) : Type 0 where
  pub there : slice_get (blocks_of items) number ≡ Some block
  pub part : block.is_part ≡ true
  pub values : length vars ≡ length block.names

-- the function of this number, with a value for each of its parameters, for a sum
pub record IsLawfulCall (items : List Item) (of : FinishKind) (number : ℕ) (args : List ℤ) (function : Callable) : Type 0 where
  pub sum : of ≡ kind.Sum
  pub there : slice_get (callables_of items).functions number ≡ Some function
  pub values : length args ≡ length function.params

-- the result of a job that is a block, where so many more calls may be opened
abbrev pub block_result : List Item → (Name → ColumnView) → ℕ → FinishKind → SourceBlock → List ℤ → Total
block_result items column left kind block vars =
    job_total kind (block_meaning (around_with (callables_of items) column left) block.stmts (enter block.names vars))

-- a value that comes back is the one offer, and a fault the one code
abbrev pub total_back : Result ℤ ℕ → Total
total_back (Ok value) = record { gift = value; fault = no_fault }
total_back (Err code) = record { gift = pos 0; fault = min code no_fault }

-- the result of a job that is a call, in whose function so many more calls may be opened
abbrev pub call_result : List Item → (Name → ColumnView) → ℕ → Callable → List ℤ → Total
call_result items column left function args =
    settle (total_back (callable_returned (around_with (callables_of items) column left) function args).value)
