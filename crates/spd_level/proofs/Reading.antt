-- A column by its name is the one of its number.
use Rattle.std.proofs.Common.{◌≡◌, suc, ◌+◌, ◌≤◌, List, [], ◌∷◌, length, length-append, flat_map, refl, sym, ◌∙◌, ap, arith, Bool, true, false, if◌then◌else◌}
use Rattle.std.proofs.lemmas.List.{length-map}
use Rattle.std.specs.Str.{bytes_eq}
use Rattle.spd_data.specs.declared.column.Column.{Column}
use Rattle.spd_syntax.specs.declared.tree.ItemKind.TheVariants as i
use Rattle.spd_syntax.specs.declared.tree.Item.{Item}
use Rattle.spd_meaning.specs.Names.{Name, Names}
use Rattle.spd_meaning.specs.Programs.{column_in, columns_of}
use Rattle.spd_code.specs.declared.tree.CodeTree.{CodeTree}
use Rattle.spd_code.specs.Places.{place_of}
use Rattle.spd_code.specs.Alike.{AreColumns}
use Rattle.spd_level.specs.Columns.{column_view, column_at, column_named, columns_in, is_of_numbers, declares_numbers, Fits, context_of}

column_by_name : (names : Names) (columns : List Column) (name : Name) → length columns ≤ length names →
    column_at columns (place_of names name) ≡ column_named names columns name
column_by_name [] [] name h = refl
column_by_name [] (column ∷ columns) name h = absurd (omega arith)
column_by_name (other ∷ names) [] name h = refl
column_by_name (other ∷ names) (column ∷ columns) name h = by_first (bytes_eq other name) (column_by_name names columns name (omega arith))
  where
    by_first : (same : Bool) → column_at columns (place_of names name) ≡ column_named names columns name
        → column_at (column ∷ columns) (if same then 0 else suc (place_of names name))
        ≡ (if same then column_view column else column_named names columns name)
    by_first true e = refl
    by_first false e = e

as_many_in : (kind : i.the_data) → length (declares_numbers kind) ≡ length (column_in kind)
as_many_in (i.IntColumn name file field) = refl
as_many_in (i.TextColumn name file field) = refl
as_many_in (i.Lines name file) = refl
as_many_in (i.Function name params body) = refl
as_many_in (i.Task name params body) = refl
as_many_in (i.Main body) = refl

as_many : (items : List Item) → length (flat_map (λ (item : Item). declares_numbers item.what) items) ≡ length (columns_of items)
as_many [] = refl
as_many (item ∷ items) =
    let d = declares_numbers item.what in
    let c = column_in item.what in
    length-append d (flat_map (λ (item : Item). declares_numbers item.what) items)
    ∙ ap (λ n. n + length (flat_map (λ (item : Item). declares_numbers item.what) items)) (as_many_in item.what)
    ∙ ap (λ n. length c + n) (as_many items) ∙ sym (length-append c (columns_of items))

-- Columns that fit a program are those by its names.
pub fitting : (items : List Item) (columns : List Column) (code : CodeTree) → Fits items columns →
    AreColumns items (columns_in items columns) (context_of code columns)
fitting items columns code fits name =
    let same : length columns ≡ length (columns_of items) = sym (length-map columns is_of_numbers) ∙ ap length fits ∙ as_many items in
    column_by_name (columns_of items) columns name (omega arith)
