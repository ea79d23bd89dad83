-- What the items of a program declare.
use Rattle.std.specs.Prelude.{ℕ, Bool, false, ◌||◌, ◌&&◌, if◌then◌else◌, List, [], ◌∷◌, length, Option, None, Some}
use Rattle.std.specs.Option.{option_or}
use Rattle.std.specs.List.{list_any}
use Rattle.std.specs.Str.{bytes_eq}
use Rattle.spd_syntax.specs.declared.tree.ItemKind.TheVariants as i
use Rattle.spd_syntax.specs.declared.tree.Item.{Item}
use Rattle.spd_check.specs.declared.declared.Entries.{Entries}
use Rattle.spd_check.specs.declared.declared.Entries.TheVariants.{Ints, Texts}
use Rattle.spd_meaning.specs.Names.{Name}
use Rattle.spd_meaning.specs.Programs.{is_main}

-- ---- looking up: the first item of a name

-- something, where two names are equal
abbrev pub where_named : {A : Type 0} → Name → Name → A → Option A
where_named other name what = if bytes_eq other name then Some what else None

abbrev pub first_that : {A : Type 0} → (i.the_data → Option A) → List Item → Option A
first_that tell [] = None
first_that tell (item ∷ items) = option_or (tell item.what) (first_that tell items)

-- the entries of a column or lines item of this name
abbrev pub entries_in : Name → i.the_data → Option Entries
entries_in name (i.IntColumn other file field) = where_named other name Ints
entries_in name (i.TextColumn other file field) = where_named other name Texts
entries_in name (i.Lines other file) = where_named other name Texts
entries_in name _ = None

-- how many parameters a function of this name has
abbrev pub function_arity_in : Name → i.the_data → Option ℕ
function_arity_in name (i.Function other params body) = where_named other name (length params)
function_arity_in name _ = None

abbrev pub task_arity_in : Name → i.the_data → Option ℕ
task_arity_in name (i.Task other params body) = where_named other name (length params)
task_arity_in name _ = None

abbrev pub entries_of : List Item → Name → Option Entries
entries_of items name = first_that (entries_in name) items

abbrev pub function_arity : List Item → Name → Option ℕ
function_arity items name = first_that (function_arity_in name) items

abbrev pub task_arity : List Item → Name → Option ℕ
task_arity items name = first_that (task_arity_in name) items

-- ---- what is declared once

-- the name of a column or lines item
abbrev pub column_name : i.the_data → Option Name
column_name (i.IntColumn name file field) = Some name
column_name (i.TextColumn name file field) = Some name
column_name (i.Lines name file) = Some name
column_name _ = None

-- the name of a function or a task
abbrev pub callable_name : i.the_data → Option Name
callable_name (i.Function name params body) = Some name
callable_name (i.Task name params body) = Some name
callable_name _ = None

abbrev pub is_named : Option Name → Name → Bool
is_named None name = false
is_named (Some other) name = bytes_eq other name

abbrev pub same_named : Option Name → Option Name → Bool
same_named other None = false
same_named other (Some name) = is_named other name

-- Two columns of a name, two functions or tasks of a name, or two mains.
abbrev pub declares_again : i.the_data → i.the_data → Bool
declares_again other item =
    same_named (column_name other) (column_name item) || (same_named (callable_name other) (callable_name item) || (is_main other && is_main item))

abbrev pub is_declared : List Item → Item → Bool
is_declared others item = list_any (λ other. declares_again other.what item.what) others

abbrev pub has_main : List Item → Bool
has_main items = list_any (λ item. is_main item.what) items
