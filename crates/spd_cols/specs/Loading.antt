-- The columns that a program declares, loaded from a shelf.
use Rattle.std.specs.Prelude.{◌≡◌, ◌≢◌, ℕ, ◌+◌, ℤ, nat_le, if◌then◌else◌, List, [], ◌∷◌, ◌++◌, flat_map, take, length, Option, None, Some, IfSome, is_some, option_and_then, slice_get, Result, Ok, Err}
use Rattle.std.specs.List.{All}
use Rattle.spd_data.specs.declared.column.Column.{Column}
use Rattle.spd_data.specs.declared.column.Column.TheVariants as column
use Rattle.spd_io.specs.Shelf.{FailedAt, FileTold, MayBe, ShelfState}
use Rattle.spd_syntax.specs.declared.tree.Item.{Item}
use Rattle.spd_syntax.specs.declared.tree.ItemKind.TheVariants as i
use Rattle.spd_cols.specs.Columns.{int_column_of, text_column_of, lines_column_of, refused_at}
use Rattle.spd_cols.specs.declared.fault.DataFault.{DataFault}
use Rattle.spd_cols.specs.declared.fault.DataKind.{DataKind}
use Rattle.spd_cols.specs.declared.fault.DataKind.TheVariants as kind
use Rattle.spd_cols.specs.declared.fault.LoadFault.{LoadFault}
use Rattle.spd_cols.specs.declared.fault.LoadFault.TheVariants as load

-- the most bytes of a file of data
abbrev pub most_bytes : ℕ
most_bytes = 67108864

-- ---- declarations

-- the file of a column or lines item
abbrev pub file_in : i.the_data → Option (List ℕ)
file_in (i.IntColumn name file field) = Some file
file_in (i.TextColumn name file field) = Some file
file_in (i.Lines name file) = Some file
file_in _ = None

abbrev pub ints_of : Result (List ℤ) DataFault → Result Column DataFault
ints_of (Ok entries) = Ok (column.Ints entries)
ints_of (Err fault) = Err fault

abbrev pub texts_of : Result (List (List ℕ)) DataFault → Result Column DataFault
texts_of (Ok entries) = Ok (column.Texts entries)
texts_of (Err fault) = Err fault

-- the column of an item over the bytes of its file, or what the file is refused for
abbrev pub read_column : i.the_data → List ℕ → Result Column DataFault
read_column (i.IntColumn name file field) bytes = ints_of (int_column_of bytes field)
read_column (i.TextColumn name file field) bytes = texts_of (text_column_of bytes field)
read_column (i.Lines name file) bytes = texts_of (lines_column_of bytes)
read_column _ bytes = refused_at 0 kind.NoField

-- the same, of a file that may be too long
abbrev pub column_of_file : i.the_data → List ℕ → Result Column DataFault
column_of_file what bytes = if nat_le (length bytes) most_bytes then read_column what bytes else refused_at 0 kind.TooLong

-- the item, where it declares a column
abbrev pub declared_in : i.the_data → List i.the_data
declared_in what = if is_some (file_in what) then what ∷ [] else []

-- the column and lines items of a program, in their order
abbrev pub declarations : List Item → List i.the_data
declarations items = flat_map (λ item. declared_in item.what) items

-- ---- loading

-- The item's file may be these bytes, by what a shelf tells of it.
abbrev pub MayHold : (List ℕ → FileTold) → i.the_data → List ℕ → Type 0
MayHold told what bytes = IfSome (file_in what) (λ file. MayBe (told file) bytes)

-- This is the column of an item, over a file that the shelf may hold.
abbrev pub IsColumnOf : (List ℕ → FileTold) → i.the_data → Column → Type 0
IsColumnOf told what column = (bytes : List ℕ) × MayHold told what bytes × (column_of_file what bytes ≡ Ok column)

-- These are the columns of these items.
abbrev pub AreLoaded : (List ℕ → FileTold) → List i.the_data → List Column → Type 0
AreLoaded told [] [] = Unit {0}
AreLoaded told (what ∷ items) (column ∷ columns) = IsColumnOf told what column × AreLoaded told items columns
AreLoaded told _ _ = ⊥

-- A file that the shelf may hold of the item is refused so.
abbrev pub IsRefusal : (List ℕ → FileTold) → i.the_data → DataFault → Type 0
IsRefusal told what fault = (bytes : List ℕ) × MayHold told what bytes × (column_of_file what bytes ≡ Err fault)

-- Reading the item's file failed: its count rose.
abbrev pub FileFailed : ShelfState → ShelfState → i.the_data → Type 0
FileFailed old new what = IfSome (file_in what) (λ file. FailedAt old new file)

-- The columns of the items before a number are loaded, and this item is the next.
pub record IsNextItem (told : List ℕ → FileTold) (items : List i.the_data) (number : ℕ) (what : i.the_data) : Type 0 where
  pub before : List i.the_data
  pub behind : List i.the_data
  pub columns : List Column
  pub items_are : items ≡ before ++ what ∷ behind
  pub number_is : length before ≡ number
  pub loaded : AreLoaded told before columns

-- what was loaded of these items, or why that ended
abbrev pub IsLoad : ShelfState → ShelfState → List i.the_data → Result (List Column) LoadFault → Type 0
IsLoad old new items (Ok columns) = AreLoaded old.file items columns
IsLoad old new items (Err (load.Failed column)) = (what : i.the_data) × IsNextItem old.file items column what × FileFailed old new what
IsLoad old new items (Err (load.Refused column fault)) =
    (what : i.the_data) × IsNextItem old.file items column what × IsRefusal old.file what fault
IsLoad old new items (Err load.NoMemory) = Unit {0}

-- the items up to the one that ended it
abbrev pub reached : List i.the_data → Result (List Column) LoadFault → List i.the_data
reached items (Err (load.Failed column)) = take (column + 1) items
reached items (Err (load.Refused column fault)) = take (column + 1) items
reached items _ = items

-- the name is no item's file
abbrev pub IsNoFileOf : List ℕ → List i.the_data → Type 0
IsNoFileOf name items = All (λ what. file_in what ≢ Some name) items

-- ---- one item

-- the fault of a column whose file is refused so
abbrev pub refusal_of : ℕ → DataFault → LoadFault
refusal_of column fault = by_kind fault.kind
  where
    by_kind : DataKind → LoadFault
    by_kind kind.NoMemory = load.NoMemory
    by_kind _ = load.Refused column fault

-- what an item adds to the columns before it, or why it adds none
abbrev pub IsItemLoad : ShelfState → ShelfState → i.the_data → List Column → List Column → Result (Unit {0}) LoadFault → Type 0
IsItemLoad old new what before after (Ok _) =
    (columns : List Column) × (after ≡ before ++ columns) × AreLoaded old.file (declared_in what) columns
IsItemLoad old new what before after (Err (load.Failed column)) =
    (column ≡ length before) × (declared_in what ≡ what ∷ []) × FileFailed old new what
IsItemLoad old new what before after (Err (load.Refused column fault)) =
    (column ≡ length before) × (declared_in what ≡ what ∷ []) × IsRefusal old.file what fault
IsItemLoad old new what before after (Err load.NoMemory) = Unit {0}

-- the file of the column of a number
abbrev pub file_of_column : List Item → ℕ → Option (List ℕ)
file_of_column items column = option_and_then file_in (slice_get (declarations items) column)
