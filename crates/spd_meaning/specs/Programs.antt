-- What a program means: calls of its functions and tasks, 256 deep, and its main.
use Rattle.std.specs.Prelude.{ℕ, zero, suc, Bool, true, false, List, [], ◌∷◌, if◌then◌else◌, ℤ}
use Rattle.std.specs.List.{flat_map}
use Rattle.std.specs.Str.{bytes_eq}
use Rattle.spd_syntax.specs.declared.tree.Stmt.{Stmt}
use Rattle.spd_syntax.specs.declared.tree.ItemKind.TheVariants as i
use Rattle.spd_syntax.specs.declared.tree.Item.{Item}
use Rattle.spd_meaning.specs.Eval.{Eval, Returned, returned}
use Rattle.spd_meaning.specs.Values.{ColumnView, Callees, Around, no_more}
use Rattle.spd_meaning.specs.Names.{Name, Names, Entry, enter}
use Rattle.spd_meaning.specs.Meaning.{block_meaning}

-- ---- what a program declares, each in the order of its text

-- a function or a task
pub record Callable : Type 0 where
  pub name : Name
  pub params : Names
  pub body : List Stmt

pub record Callables : Type 0 where
  pub functions : List Callable
  pub tasks : List Callable

abbrev pub function_in : i.the_data → List Callable
function_in (i.Function name params body) = record { name = name; params = params; body = body } ∷ []
function_in _ = []

abbrev pub task_in : i.the_data → List Callable
task_in (i.Task name params body) = record { name = name; params = params; body = body } ∷ []
task_in _ = []

abbrev pub main_in : i.the_data → List Stmt
main_in (i.Main body) = body
main_in _ = []

-- columns and lines items are one space of names
abbrev pub column_in : i.the_data → Names
column_in (i.IntColumn name file field) = name ∷ []
column_in (i.TextColumn name file field) = name ∷ []
column_in (i.Lines name file) = name ∷ []
column_in _ = []

abbrev pub callables_of : List Item → Callables
callables_of items = record {
  functions = flat_map (λ item. function_in item.what) items;
  tasks = flat_map (λ item. task_in item.what) items;
}

abbrev pub columns_of : List Item → Names
columns_of items = flat_map (λ item. column_in item.what) items

abbrev pub is_main : i.the_data → Bool
is_main (i.Main body) = true
is_main _ = false

abbrev pub main_of : List Item → List Stmt
main_of items = flat_map (λ item. main_in item.what) items

-- ---- calls

-- the first of a name, or one that does nothing
abbrev pub callable_named : List Callable → Name → Callable
callable_named [] name = record { name = name; params = []; body = [] }
callable_named (c ∷ cs) name = if bytes_eq c.name name then c else callable_named cs name

abbrev pub callable_returned : Around Name → Callable → List ℤ → Returned
callable_returned inner c args = returned (block_meaning inner c.body (enter c.params args))

-- what calls give where so many more may be opened
unfoldable pub calls_with : Callables → (Name → ColumnView) → ℕ → Callees Name
calls_with cs column zero = no_more
calls_with cs column (suc left) =
    let inner : Around Name = record { column = column; calls = calls_with cs column left } in
    record {
      function = λ name args line. callable_returned inner (callable_named cs.functions name) args;
      task = λ name args line. callable_returned inner (callable_named cs.tasks name) args;
    }

abbrev pub around_with : Callables → (Name → ColumnView) → ℕ → Around Name
around_with cs column left = record { column = column; calls = calls_with cs column left }

-- ---- main

-- How many calls may be open at once.
abbrev pub most_calls : ℕ
most_calls = 256

abbrev pub main_meaning : List Item → (Name → ColumnView) → Eval Entry
main_meaning items column = block_meaning (around_with (callables_of items) column most_calls) (main_of items) []
