-- The file of a column, item by item.
use Rattle.std.proofs.Common.{◌≡◌, ◌≢◌, ◌<◌, ℕ, zero, suc, ◌+◌, ◌-◌, List, [], ◌∷◌, ◌++◌, length, Option, None, Some, refl, sym, ap, ◌∙◌, subst, arith}
use Rattle.std.specs.Prelude.{option_and_then, slice_get, is_some, if◌then◌else◌}
use Rattle.spd_syntax.specs.declared.tree.Item.{Item}
use Rattle.spd_syntax.specs.declared.tree.ItemKind.TheVariants as i
use Rattle.spd_io.specs.Shelf.{FileTold}
use Rattle.spd_cols.specs.Loading.{file_in, declarations, declared_in, file_of_column, IsNextItem}

abbrev pub file_at : List i.the_data → ℕ → Option (List ℕ)
file_at items column = option_and_then file_in (slice_get items column)

-- an item without a file counts for nothing
pub no_file : (item : Item) (items : List Item) (column : ℕ) → file_in item.what ≡ None → file_of_column (item ∷ items) column ≡ file_of_column items column
no_file item items column none = rw none refl

-- an item with a file is the first column
pub first_file : (item : Item) (items : List Item) (file : List ℕ) → file_in item.what ≡ Some file → file_of_column (item ∷ items) 0 ≡ Some file
first_file item items file is = rw is is

pub next_file : (item : Item) (items : List Item) (file : List ℕ) (column : ℕ) → file_in item.what ≡ Some file → file_of_column (item ∷ items) (suc column) ≡ file_of_column items column
next_file item items file column is = rw is refl

-- the item at the end of some others has their number
at_end : (before behind : List i.the_data) (what : i.the_data) → slice_get (before ++ what ∷ behind) (length before) ≡ Some what
at_end [] behind what = refl
at_end (x ∷ before) behind what = at_end before behind what

-- The file of the item at which loading stops is that of the column of its number.
pub next_is_named : (told : List ℕ → FileTold) (items : List Item) (number : ℕ) (what : i.the_data) → IsNextItem told (declarations items) number what
    → file_of_column items number ≡ file_in what
next_is_named told items number what next =
    ap (option_and_then file_in) (ap (λ l. slice_get l number) next.items_are ∙ ap (slice_get (next.before ++ what ∷ next.behind)) (sym next.number_is)
    ∙ at_end next.before next.behind what)
