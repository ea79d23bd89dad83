-- The columns that expressions read: each by its number, and by its name.
use Rattle.std.specs.Prelude.{◌≡◌, ℕ, Bool, true, false, if◌then◌else◌, List, [], ◌∷◌, map, length, slice_get, pos, Option, Some, None}
use Rattle.std.specs.List.{flat_map}
use Rattle.std.specs.Str.{bytes_eq}
use Rattle.spd_data.specs.declared.column.Column.{Column}
use Rattle.spd_data.specs.declared.column.Column.TheVariants as of
use Rattle.spd_syntax.specs.declared.tree.ItemKind.TheVariants as i
use Rattle.spd_syntax.specs.declared.tree.Item.{Item}
use Rattle.spd_meaning.specs.Values.{ColumnView, Around, nth, no_more}
use Rattle.spd_meaning.specs.Names.{Name, Names}
use Rattle.spd_meaning.specs.Programs.{columns_of}
use Rattle.spd_code.specs.declared.tree.CodeTree.{CodeTree}
use Rattle.spd_code.specs.Coded.{Context}

-- what is read of a column
abbrev pub column_view : Column → ColumnView
column_view (of.Ints values) = record { length = pos (length values); number = nth values; text = λ i. None }
column_view (of.Texts texts) = record { length = pos (length texts); number = λ i. None; text = nth texts }

-- A column that isn't there has no entries.
abbrev pub no_column : ColumnView
no_column = record { length = pos 0; number = λ i. None; text = λ i. None }

abbrev pub view_of_some : Option Column → ColumnView
view_of_some (Some column) = column_view column
view_of_some None = no_column

-- the column of a number
abbrev pub column_at : List Column → ℕ → ColumnView
column_at columns number = view_of_some (slice_get columns number)

-- the column of a name, where these names stand for the columns in their order
abbrev pub column_named : Names → List Column → Name → ColumnView
column_named [] columns name = no_column
column_named (other ∷ names) [] name = no_column
column_named (other ∷ names) (column ∷ columns) name = if bytes_eq other name then column_view column else column_named names columns name

-- ---- the columns of a program

-- by the names that it declares
abbrev pub columns_in : List Item → List Column → Name → ColumnView
columns_in items columns = column_named (columns_of items) columns

abbrev pub is_of_numbers : Column → Bool
is_of_numbers (of.Ints values) = true
is_of_numbers (of.Texts texts) = false

-- whether what an item declares is a column of numbers, for each that it declares
abbrev pub declares_numbers : i.the_data → List Bool
declares_numbers (i.IntColumn name file field) = true ∷ []
declares_numbers (i.TextColumn name file field) = false ∷ []
declares_numbers (i.Lines name file) = false ∷ []
declares_numbers _ = []

-- as many columns as are declared, in their order and of their kinds
abbrev pub Fits : List Item → List Column → Type 0
Fits items columns = map is_of_numbers columns ≡ flat_map (λ item. declares_numbers item.what) items

-- ---- codes over columns

-- a code over columns
abbrev pub context_of : CodeTree → List Column → Context
context_of code columns = record { code = code; column = column_at columns }

-- what stands around expressions, which open no call
abbrev pub around_columns : List Column → Around ℕ
around_columns columns = record { column = column_at columns; calls = no_more }
