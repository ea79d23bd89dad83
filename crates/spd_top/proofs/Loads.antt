-- What data files come to: it was told before, columns that are loaded fit their program, and files that are told come to one thing.
use Rattle.std.proofs.Common.{◌≡◌, ◌≢◌, ◌∙◌, ℕ, ℤ, List, [], ◌∷◌, ◌++◌, length, map, flat_map, Some, Result, Ok, Err, Bool, true, false, if◌then◌else◌, refl, sym, ap, subst}
use Rattle.spd_io.specs.Shelf.{FileTold, Untold, Missing, Holds, MayBe, ShelfState, FailedAt, KeepsFiles, ShelfKeepsFaults}
use Rattle.spd_data.specs.declared.column.Column.{Column}
use Rattle.spd_data.specs.declared.column.Column.TheVariants as of
use Rattle.spd_syntax.specs.declared.tree.Item.{Item}
use Rattle.spd_syntax.specs.declared.tree.ItemKind.TheVariants as i
use Rattle.spd_cols.specs.declared.fault.DataFault.{DataFault}
use Rattle.spd_cols.specs.declared.fault.DataKind.TheVariants as kind
use Rattle.spd_cols.specs.Columns.{refused_at, int_column_of, text_column_of, lines_column_of}
use Rattle.std.specs.Prelude.{nat_le}
use Rattle.spd_cols.specs.Loading.{most_bytes, file_in, declared_in, declarations, ints_of, texts_of, MayHold, IsColumnOf, AreLoaded, IsRefusal, column_of_file}
use Rattle.spd_cols.proofs.LoadSteps.{loaded_before, rose_before}
use Rattle.spd_level.specs.Columns.{is_of_numbers, declares_numbers, Fits}
use Rattle.spd_top.specs.DataFiles.{DataOutcome, columns_loaded, file_unread, file_refused, StopsAt, DataComesTo, AreTold}

-- ---- what a shelf tells after a read, it told before

pub stops_before : (old now : ShelfState) → KeepsFiles old now → (items : List i.the_data) (what : i.the_data) (file : List ℕ) → StopsAt now.file items what file
    → StopsAt old.file items what file
stops_before old now keeps items what file s = record {
  number = s.number;
  next = record {
    before = s.next.before;
    behind = s.next.behind;
    columns = s.next.columns;
    items_are = s.next.items_are;
    number_is = s.next.number_is;
    loaded = loaded_before old now keeps s.next.before s.next.columns s.next.loaded;
  };
  named = s.named;
}

-- a count that rises later has risen
pub failed_since : (old now new : ShelfState) (name : List ℕ) → ShelfKeepsFaults old now → FailedAt now new name → FailedAt old new name
failed_since old now new name keeps failed = rose_before (old.faults name) (now.faults name) (new.faults name) (keeps name) failed

-- a file that is told and may be a text is that text
pub one_text : (file : FileTold) (text text' : List ℕ) → file ≢ Untold → MayBe file text → MayBe file text' → text ≡ text'
one_text Untold text text' told a b = absurd (told refl)
one_text Missing text text' told a b = absurd a
one_text (Holds held) text text' told a b = sym a ∙ b

-- ---- columns that are loaded fit

short_enough : (short : Bool) (r : Result Column DataFault) (column : Column) → (if short then r else refused_at 0 kind.TooLong) ≡ Ok column → r ≡ Ok column
short_enough true r column e = e
short_enough false r column e = let wrong : ◌≡◌ {A = Result Column DataFault} (refused_at 0 kind.TooLong) (Ok column) = e in absurd cc

of_ints : (r : Result (List ℤ) DataFault) (column : Column) → ints_of r ≡ Ok column → is_of_numbers column ≡ true
of_ints (Ok entries) column e = let same : ◌≡◌ {A = Result Column DataFault} (Ok (of.Ints entries)) (Ok column) = e in
    let is : of.Ints entries ≡ column = cc in ap is_of_numbers (sym is)
of_ints (Err fault) column e = let wrong : ◌≡◌ {A = Result Column DataFault} (Err fault) (Ok column) = e in absurd cc

of_texts : (r : Result (List (List ℕ)) DataFault) (column : Column) → texts_of r ≡ Ok column → is_of_numbers column ≡ false
of_texts (Ok entries) column e = let same : ◌≡◌ {A = Result Column DataFault} (Ok (of.Texts entries)) (Ok column) = e in
    let is : of.Texts entries ≡ column = cc in ap is_of_numbers (sym is)
of_texts (Err fault) column e = let wrong : ◌≡◌ {A = Result Column DataFault} (Err fault) (Ok column) = e in absurd cc

module _ (told : List ℕ → FileTold) where
  fits_with : (what : i.the_data) (rest : List i.the_data) (kinds : List Bool) → ((columns : List Column) → AreLoaded told rest columns → map is_of_numbers columns ≡ kinds)
      → (columns : List Column) → AreLoaded told (declared_in what ++ rest) columns → map is_of_numbers columns ≡ declares_numbers what ++ kinds
  fits_with (i.IntColumn name file field) rest kinds fits [] h = absurd h
  fits_with (i.IntColumn name file field) rest kinds fits (column ∷ columns) h =
      let is : is_of_numbers column ≡ true = of_ints (int_column_of h.0.0 field) column (short_enough (nat_le (length h.0.0) most_bytes) (ints_of (int_column_of h.0.0 field)) column h.0.2) in
      let more : map is_of_numbers columns ≡ kinds = fits columns h.1 in
      rw (is, more) refl
  fits_with (i.TextColumn name file field) rest kinds fits [] h = absurd h
  fits_with (i.TextColumn name file field) rest kinds fits (column ∷ columns) h =
      let is : is_of_numbers column ≡ false = of_texts (text_column_of h.0.0 field) column (short_enough (nat_le (length h.0.0) most_bytes) (texts_of (text_column_of h.0.0 field)) column h.0.2) in
      let more : map is_of_numbers columns ≡ kinds = fits columns h.1 in
      rw (is, more) refl
  fits_with (i.Lines name file) rest kinds fits [] h = absurd h
  fits_with (i.Lines name file) rest kinds fits (column ∷ columns) h =
      let is : is_of_numbers column ≡ false = of_texts (lines_column_of h.0.0) column (short_enough (nat_le (length h.0.0) most_bytes) (texts_of (lines_column_of h.0.0)) column h.0.2) in
      let more : map is_of_numbers columns ≡ kinds = fits columns h.1 in
      rw (is, more) refl
  fits_with (i.Function name params body) rest kinds fits columns h = fits columns h
  fits_with (i.Task name params body) rest kinds fits columns h = fits columns h
  fits_with (i.Main body) rest kinds fits columns h = fits columns h

  pub loaded_fit : (items : List Item) (columns : List Column) → AreLoaded told (declarations items) columns → Fits items columns
  loaded_fit [] [] h = refl
  loaded_fit [] (column ∷ columns) h = absurd h
  loaded_fit (item ∷ items) columns h =
      fits_with item.what (declarations items) (flat_map (λ (item : Item). declares_numbers item.what) items) (loaded_fit items) columns h

  -- ---- files that are told come to one thing

  has_file : (what : i.the_data) (column : Column) → IsColumnOf told what column → (file : List ℕ) × (file_in what ≡ Some file)
  has_file (i.IntColumn name file field) column h = (file, refl)
  has_file (i.TextColumn name file field) column h = (file, refl)
  has_file (i.Lines name file) column h = (file, refl)
  has_file (i.Function name params body) column h = absurd (no_column column (short_enough (nat_le (length h.0) most_bytes) (refused_at 0 kind.NoField) column h.2))
    where
      no_column : (column : Column) → ◌≡◌ {A = Result Column DataFault} (refused_at 0 kind.NoField) (Ok column) → ⊥
      no_column column e = cc
  has_file (i.Task name params body) column h = absurd (no_column column (short_enough (nat_le (length h.0) most_bytes) (refused_at 0 kind.NoField) column h.2))
    where
      no_column : (column : Column) → ◌≡◌ {A = Result Column DataFault} (refused_at 0 kind.NoField) (Ok column) → ⊥
      no_column column e = cc
  has_file (i.Main body) column h = absurd (no_column column (short_enough (nat_le (length h.0) most_bytes) (refused_at 0 kind.NoField) column h.2))
    where
      no_column : (column : Column) → ◌≡◌ {A = Result Column DataFault} (refused_at 0 kind.NoField) (Ok column) → ⊥
      no_column column e = cc

  abbrev Tells : i.the_data → Type 0
  Tells what = (file : List ℕ) → file_in what ≡ Some file → told file ≢ Untold

  same_bytes : (what : i.the_data) (file : List ℕ) → file_in what ≡ Some file → Tells what → (a b : List ℕ) → MayHold told what a → MayHold told what b → a ≡ b
  same_bytes what file is tells a b x y = one_text (told file) a b (tells file is) (rw is at x) (rw is at y)

  same_result : (what : i.the_data) (file : List ℕ) → file_in what ≡ Some file → Tells what → (a b : List ℕ) (r s : Result Column DataFault) → MayHold told what a → MayHold told what b
      → column_of_file what a ≡ r → column_of_file what b ≡ s → r ≡ s
  same_result what file is tells a b r s x y p q = sym p ∙ ap (column_of_file what) (same_bytes what file is tells a b x y) ∙ q

  one_column : (what : i.the_data) → Tells what → (a b : Column) → IsColumnOf told what a → IsColumnOf told what b → a ≡ b
  one_column what tells a b x y =
      let f = has_file what a x in
      let same : ◌≡◌ {A = Result Column DataFault} (Ok a) (Ok b) = same_result what f.0 f.1 tells x.0 y.0 (Ok a) (Ok b) x.1 y.1 x.2 y.2 in cc

  one_refusal : (what : i.the_data) (file : List ℕ) → file_in what ≡ Some file → Tells what → (a b : DataFault) → IsRefusal told what a → IsRefusal told what b → a ≡ b
  one_refusal what file is tells a b x y =
      let same : ◌≡◌ {A = Result Column DataFault} (Err a) (Err b) = same_result what file is tells x.0 y.0 (Err a) (Err b) x.1 y.1 x.2 y.2 in cc

  -- an item that has no column, since its file is refused or missing
  abbrev HasNone : i.the_data → Type 0
  HasNone what = (column : Column) → IsColumnOf told what column → ⊥

  none_refused : (what : i.the_data) (fault : DataFault) → Tells what → IsRefusal told what fault → HasNone what
  none_refused what fault tells r column h =
      let f = has_file what column h in
      let same : ◌≡◌ {A = Result Column DataFault} (Ok column) (Err fault) = same_result what f.0 f.1 tells h.0 r.0 (Ok column) (Err fault) h.1 r.1 h.2 r.2 in cc

  not_held : (what : i.the_data) (file bytes : List ℕ) → file_in what ≡ Some file → told file ≡ Missing → MayHold told what bytes → ⊥
  not_held what file bytes is missing may = let here : MayBe (told file) bytes = rw is at may in subst (λ t. MayBe t bytes) missing here

  none_missing : (what : i.the_data) (file : List ℕ) → file_in what ≡ Some file → told file ≡ Missing → HasNone what
  none_missing what file is missing column h = not_held what file h.0 is missing h.1

  -- two such items at which loading stops are one
  meet : (before before' behind behind' : List i.the_data) (what what' : i.the_data) (columns columns' : List Column) → before ++ what ∷ behind ≡ before' ++ what' ∷ behind'
      → AreLoaded told before columns → AreLoaded told before' columns' → HasNone what → HasNone what' → what ≡ what'
  meet [] [] behind behind' what what' columns columns' e a b none none' = let same : what ∷ behind ≡ what' ∷ behind' = e in cc
  meet [] (y ∷ before') behind behind' what what' columns [] e a b none none' = absurd b
  meet [] (y ∷ before') behind behind' what what' columns (column ∷ columns') e a b none none' =
      let same : what ∷ behind ≡ y ∷ (before' ++ what' ∷ behind') = e in
      let is : y ≡ what = cc in absurd (none column (subst (λ w. IsColumnOf told w column) is b.0))
  meet (x ∷ before) [] behind behind' what what' [] columns' e a b none none' = absurd a
  meet (x ∷ before) [] behind behind' what what' (column ∷ columns) columns' e a b none none' =
      let same : x ∷ (before ++ what ∷ behind) ≡ what' ∷ behind' = e in
      let is : x ≡ what' = cc in absurd (none' column (subst (λ w. IsColumnOf told w column) is a.0))
  meet (x ∷ before) (y ∷ before') behind behind' what what' [] columns' e a b none none' = absurd a
  meet (x ∷ before) (y ∷ before') behind behind' what what' (column ∷ columns) [] e a b none none' = absurd b
  meet (x ∷ before) (y ∷ before') behind behind' what what' (column ∷ columns) (column' ∷ columns') e a b none none' =
      let same : x ∷ (before ++ what ∷ behind) ≡ y ∷ (before' ++ what' ∷ behind') = e in
      let rest : before ++ what ∷ behind ≡ before' ++ what' ∷ behind' = cc in
      meet before before' behind behind' what what' columns columns' rest a.1 b.1 none none'

  loaded_at : (before behind : List i.the_data) (what : i.the_data) (columns : List Column) → AreLoaded told (before ++ what ∷ behind) columns
      → (column : Column) × IsColumnOf told what column
  loaded_at [] behind what [] h = absurd h
  loaded_at [] behind what (column ∷ columns) h = (column, h.0)
  loaded_at (x ∷ before) behind what [] h = absurd h
  loaded_at (x ∷ before) behind what (column ∷ columns) h = loaded_at before behind what columns h.1

  told_at : (before behind : List i.the_data) (what : i.the_data) → AreTold told (before ++ what ∷ behind) → Tells what
  told_at [] behind what h = h.0
  told_at (x ∷ before) behind what h = told_at before behind what h.1

  one_loaded : (items : List i.the_data) (a b : List Column) → AreTold told items → AreLoaded told items a → AreLoaded told items b → a ≡ b
  one_loaded [] [] [] tells x y = refl
  one_loaded [] [] (d ∷ b) tells x y = absurd y
  one_loaded [] (c ∷ a) b tells x y = absurd x
  one_loaded (what ∷ items) [] b tells x y = absurd x
  one_loaded (what ∷ items) (c ∷ a) [] tells x y = absurd y
  one_loaded (what ∷ items) (c ∷ a) (d ∷ b) tells x y =
      let first : c ≡ d = one_column what tells.0 c d x.0 y.0 in
      let rest : a ≡ b = one_loaded items a b tells.1 x.1 y.1 in cc

  module _ (items : List i.the_data) (tells : AreTold told items) where
    told_there : (what : i.the_data) (file : List ℕ) → StopsAt told items what file → Tells what
    told_there what file s = told_at s.next.before s.next.behind what (subst (AreTold told) s.next.items_are tells)

    not_all : (what : i.the_data) (file : List ℕ) (columns : List Column) → StopsAt told items what file → HasNone what → AreLoaded told items columns → ⊥
    not_all what file columns s none h =
        let found = loaded_at s.next.before s.next.behind what columns (subst (λ l. AreLoaded told l columns) s.next.items_are h) in none found.0 found.1

    same_item : (what what' : i.the_data) (file file' : List ℕ) → StopsAt told items what file → StopsAt told items what' file' → HasNone what → HasNone what' → what ≡ what'
    same_item what what' file file' s s' none none' =
        meet s.next.before s'.next.before s.next.behind s'.next.behind what what' s.next.columns s'.next.columns (sym s.next.items_are ∙ s'.next.items_are)
        s.next.loaded s'.next.loaded none none'

    same_file : (what what' : i.the_data) (file file' : List ℕ) → what ≡ what' → file_in what ≡ Some file → file_in what' ≡ Some file' → file ≡ file'
    same_file what what' file file' e p q = let same : Some file ≡ Some file' = sym p ∙ ap file_in e ∙ q in cc

    unread_none : (file : List ℕ) (x : DataComesTo told items (file_unread file)) → HasNone x.0
    unread_none file x = none_missing x.0 file x.1.named x.2

    refused_none : (file : List ℕ) (fault : DataFault) (x : DataComesTo told items (file_refused file fault)) → HasNone x.0
    refused_none file fault x = none_refused x.0 fault (told_there x.0 file x.1) x.2

    refused_not_unread : (file file' : List ℕ) (fault : DataFault) → DataComesTo told items (file_refused file fault) → DataComesTo told items (file_unread file') → ⊥
    refused_not_unread file file' fault x y =
        let same = same_item x.0 y.0 file file' x.1 y.1 (refused_none file fault x) (unread_none file' y) in
        not_held x.0 file' x.2.0 (ap file_in same ∙ y.1.named) y.2 x.2.1

    pub data_comes_to_one : (a b : DataOutcome) → DataComesTo told items a → DataComesTo told items b → a ≡ b
    data_comes_to_one (columns_loaded a) (columns_loaded b) x y = ap columns_loaded (one_loaded items a b tells x y)
    data_comes_to_one (columns_loaded a) (file_unread file) x y = absurd (not_all y.0 file a y.1 (unread_none file y) x)
    data_comes_to_one (columns_loaded a) (file_refused file fault) x y = absurd (not_all y.0 file a y.1 (refused_none file fault y) x)
    data_comes_to_one (file_unread file) (columns_loaded b) x y = absurd (not_all x.0 file b x.1 (unread_none file x) y)
    data_comes_to_one (file_unread file) (file_unread file') x y =
        ap file_unread (same_file x.0 y.0 file file' (same_item x.0 y.0 file file' x.1 y.1 (unread_none file x) (unread_none file' y)) x.1.named y.1.named)
    data_comes_to_one (file_unread file) (file_refused file' fault) x y = absurd (refused_not_unread file' file fault y x)
    data_comes_to_one (file_refused file fault) (columns_loaded b) x y = absurd (not_all x.0 file b x.1 (refused_none file fault x) y)
    data_comes_to_one (file_refused file fault) (file_unread file') x y = absurd (refused_not_unread file file' fault x y)
    data_comes_to_one (file_refused file fault) (file_refused file' fault') x y =
        let same : x.0 ≡ y.0 = same_item x.0 y.0 file file' x.1 y.1 (refused_none file fault x) (refused_none file' fault' y) in
        let files : file ≡ file' = same_file x.0 y.0 file file' same x.1.named y.1.named in
        let faults : fault ≡ fault' = one_refusal x.0 file x.1.named (told_there x.0 file x.1) fault fault' x.2 (subst (λ w. IsRefusal told w fault') (sym same) y.2) in
        cc
