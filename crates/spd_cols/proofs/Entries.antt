-- Entries so far, and what is left to read: together they are the column, or its first fault.
use Rattle.std.proofs.Common.{◌≡◌, ◌≢◌, ◌∙◌, sym, refl, ap, ℕ, ◌+◌, ◌≤◌, ◌<◌, List, [], ◌∷◌, ◌++◌, length, slice_get, Option, None, Some, Result, Ok, Err, append_assoc}
use Rattle.std.proofs.lemmas.Bool.{eq-eqb, ne_eqb, le-leb, lt-leb}
use Rattle.std.proofs.lemmas.List.{append-nil}
use Rattle.std.specs.Option.{ok_or}
use Rattle.csv.specs.Records.{fields_of}
use Rattle.spd_cols.specs.Columns.{Record, all_or_first, with_first, column_entries, entries_at, refused_at, map_numbered, most_entries, records_of, row_entry}
use Rattle.spd_cols.specs.Rows.{AreRowsAfter, AreRowsOf, IsAtRow, IsRaggedNext, records_left}
use Rattle.spd_cols.specs.declared.fault.DataFault.{DataFault}
use Rattle.spd_cols.specs.declared.fault.DataKind.TheVariants as kind
use Rattle.spd_cols.specs.declared.rows.Rows.{Rows}

-- entries with those behind them
abbrev pub joined : {A E : Type 0} → List A → Result (List A) E → Result (List A) E
joined entries (Ok more) = Ok (entries ++ more)
joined entries (Err e) = Err e

-- the entries of the records that are left, the next of which has this number
abbrev pub entries_left : {A : Type 0} → (List ℕ → Option A) → ℕ → Rows → Result (List A) DataFault
entries_left value row rows = all_or_first (map_numbered (row_entry value (length (fields_of rows.fields)) rows.place) row (records_left rows.reader))

-- the column is these entries with those of the records that are left
abbrev pub IsSoFar : {A : Type 0} → (List ℕ → Option A) → Result (List A) DataFault → List A → ℕ → Rows → Type 0
IsSoFar value column entries row rows = column ≡ joined entries (entries_left value row rows)

module _ {A : Type 0} (value : List ℕ → Option A) where
  nothing_joined : (more : Result (List A) DataFault) → joined [] more ≡ more
  nothing_joined (Ok more) = refl
  nothing_joined (Err e) = refl

  one_joined : (entries : List A) (entry : A) (more : Result (List A) DataFault) → joined entries (with_first entry more) ≡ joined (entries ++ entry ∷ []) more
  one_joined entries entry (Ok more) = ap Ok (sym (append_assoc entries (entry ∷ []) more))
  one_joined entries entry (Err e) = refl

  -- ---- the entry of one row

  row_ragged : (width place row : ℕ) (fields : Record) → length fields ≢ width → row_entry value width place row fields ≡ refused_at row kind.Ragged
  row_ragged width place row fields other = rw (ne_eqb (length fields) width other) refl

  row_too_many : (width place row : ℕ) (fields : Record) → length fields ≡ width → most_entries < row → row_entry value width place row fields ≡ refused_at row kind.TooMany
  row_too_many width place row fields wide many = rw (eq-eqb (length fields) width wide, lt-leb row most_entries many) refl

  row_given : (width place row : ℕ) (fields : Record) (cell : List ℕ) → length fields ≡ width → row ≤ most_entries → slice_get fields place ≡ Some cell
      → row_entry value width place row fields ≡ ok_or (value cell) (record { row = row; kind = kind.NotInt })
  row_given width place row fields cell wide few is = rw (eq-eqb (length fields) width wide, le-leb row most_entries few, is) refl

  -- ---- the column

  same_rows : (width width2 place place2 row : ℕ) (rows rows2 : List Record) → width ≡ width2 → place ≡ place2 → rows ≡ rows2
      → all_or_first (map_numbered (row_entry value width place) row rows) ≡ all_or_first (map_numbered (row_entry value width2 place2) row rows2)
  same_rows width width2 place place2 row rows rows2 a b c = rw (a, b, c) refl

  pub at_start : (file field : List ℕ) (rows : Rows) → AreRowsOf file field rows → IsSoFar value (column_entries value field (records_of file)) [] 1 rows
  at_start file field rows are =
      ap (λ place. entries_at value place (records_of file)) are.place
      ∙ same_rows _ _ rows.place rows.place 1 _ _ (ap (λ (z : Record). length z) (sym are.header)) refl (sym are.left)
      ∙ sym (nothing_joined _)

  pub at_end : (column : Result (List A) DataFault) (entries : List A) (row : ℕ) (rows : Rows) → IsSoFar value column entries row rows
      → records_left rows.reader ≡ [] → column ≡ Ok entries
  at_end column entries row rows so_far none =
      so_far ∙ ap (joined entries) (same_rows _ _ rows.place rows.place row _ _ refl refl none) ∙ ap Ok (append-nil entries)

  -- the first of the rows that are left, by what it gives
  by_row : (column : Result (List A) DataFault) (entries : List A) (width place row : ℕ) (fields : Record) (left : List Record) (given : Result A DataFault)
      → column ≡ joined entries (all_or_first (map_numbered (row_entry value width place) row (fields ∷ left))) → row_entry value width place row fields ≡ given
      → column ≡ joined entries (all_or_first (given ∷ map_numbered (row_entry value width place) (row + 1) left))
  by_row column entries width place row fields left given so_far is = so_far ∙ rw is refl

  some_same : (a b : ℕ) → ◌≡◌ {A = Option ℕ} (Some a) (Some b) → a ≡ b
  some_same a b e = cc

  pub at_ragged : (column : Result (List A) DataFault) (entries : List A) (row : ℕ) (rows : Rows) → IsSoFar value column entries row rows
      → IsAtRow rows → IsRaggedNext rows.reader → column ≡ refused_at row kind.Ragged
  at_ragged column entries row rows so_far at ragged =
      let width : ragged.0 ≡ length (fields_of rows.fields) = some_same _ _ (sym ragged.3 ∙ at.width) in
      by_row column entries (length (fields_of rows.fields)) rows.place row ragged.1 ragged.2 _
      (so_far ∙ ap (joined entries) (same_rows _ _ rows.place rows.place row _ _ refl refl ragged.4))
      (row_ragged _ rows.place row ragged.1 (rw (← width) ragged.5))

  -- what was so far, of the row at hand
  at_hand : (column : Result (List A) DataFault) (entries : List A) (row : ℕ) (old new : Rows) → IsSoFar value column entries row old → AreRowsAfter old new
      → column ≡ joined entries (all_or_first (map_numbered (row_entry value (length (fields_of new.fields)) new.place) row (fields_of new.fields ∷ records_left new.reader)))
  at_hand column entries row old new so_far after =
      so_far ∙ ap (joined entries) (same_rows _ _ old.place new.place row _ _ (sym after.width) (sym after.place) after.left)

  pub at_too_many : (column : Result (List A) DataFault) (entries : List A) (row : ℕ) (old new : Rows) → IsSoFar value column entries row old
      → AreRowsAfter old new → most_entries < row → column ≡ refused_at row kind.TooMany
  at_too_many column entries row old new so_far after many =
      by_row column entries _ _ row _ _ _ (at_hand column entries row old new so_far after) (row_too_many _ new.place row (fields_of new.fields) refl many)

  at_given : (column : Result (List A) DataFault) (entries : List A) (row : ℕ) (old new : Rows) (cell : List ℕ) (given : Option A) → IsSoFar value column entries row old
      → AreRowsAfter old new → row ≤ most_entries → slice_get (fields_of new.fields) new.place ≡ Some cell → value cell ≡ given
      → column ≡ joined entries (all_or_first (ok_or given (record { row = row; kind = kind.NotInt })
      ∷ map_numbered (row_entry value (length (fields_of new.fields)) new.place) (row + 1) (records_left new.reader)))
  at_given column entries row old new cell given so_far after few is value_is =
      by_row column entries _ _ row _ _ _ (at_hand column entries row old new so_far after)
      (row_given _ new.place row (fields_of new.fields) cell refl few is ∙ ap (λ o. ok_or o (record { row = row; kind = kind.NotInt })) value_is)

  pub at_refused : (column : Result (List A) DataFault) (entries : List A) (row : ℕ) (old new : Rows) (cell : List ℕ) → IsSoFar value column entries row old
      → AreRowsAfter old new → row ≤ most_entries → slice_get (fields_of new.fields) new.place ≡ Some cell → value cell ≡ None → column ≡ refused_at row kind.NotInt
  at_refused column entries row old new cell so_far after few is none = at_given column entries row old new cell None so_far after few is none

  pub at_entry : (column : Result (List A) DataFault) (entries : List A) (row : ℕ) (old new : Rows) (cell : List ℕ) (entry : A) → IsSoFar value column entries row old
      → AreRowsAfter old new → row ≤ most_entries → slice_get (fields_of new.fields) new.place ≡ Some cell → value cell ≡ Some entry
      → IsSoFar value column (entries ++ entry ∷ []) (row + 1) new
  at_entry column entries row old new cell entry so_far after few is some =
      at_given column entries row old new cell (Some entry) so_far after few is some ∙ one_joined entries entry _
