-- What the data files of a program come to, by what a shelf tells of files.
use Rattle.std.specs.Prelude.{◌≡◌, ◌≢◌, ℕ, List, [], ◌∷◌, Some}
use Rattle.spd_io.specs.Shelf.{FileTold, Untold, Missing}
use Rattle.spd_data.specs.declared.column.Column.{Column}
use Rattle.spd_syntax.specs.declared.tree.ItemKind.TheVariants as i
use Rattle.spd_cols.specs.declared.fault.DataFault.{DataFault}
use Rattle.spd_cols.specs.Loading.{file_in, AreLoaded, IsNextItem, IsRefusal}

-- what data files may come to
pub data DataOutcome : Type 0 where
  columns_loaded : List Column → DataOutcome
  -- This file can't be read.
  file_unread : List ℕ → DataOutcome
  file_refused : List ℕ → DataFault → DataOutcome

-- Of these items, which declare columns, those before this one are loaded, and this is its file.
pub record StopsAt (told : List ℕ → FileTold) (items : List i.the_data) (what : i.the_data) (file : List ℕ) : Type 0 where
  pub number : ℕ
  pub next : IsNextItem told items number what
  pub named : file_in what ≡ Some file

-- Data files come to their columns, or to what is wrong with the first one that has none.
abbrev pub DataComesTo : (List ℕ → FileTold) → List i.the_data → DataOutcome → Type 0
DataComesTo told items (columns_loaded columns) = AreLoaded told items columns
DataComesTo told items (file_unread file) = (what : i.the_data) × StopsAt told items what file × (told file ≡ Missing)
DataComesTo told items (file_refused file fault) = (what : i.the_data) × StopsAt told items what file × IsRefusal told what fault

-- It is told what each item's file is.
abbrev pub AreTold : (List ℕ → FileTold) → List i.the_data → Type 0
AreTold told [] = Unit {0}
AreTold told (what ∷ items) = ((file : List ℕ) → file_in what ≡ Some file → told file ≢ Untold) × AreTold told items
