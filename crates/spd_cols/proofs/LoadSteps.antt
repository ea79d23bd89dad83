-- Columns loaded one item after another.
use Rattle.std.proofs.Common.{◌≡◌, ◌≢◌, ◌∙◌, sym, refl, ap, ℕ, suc, ◌+◌, ◌≤◌, ◌<◌, replicate, List, [], ◌∷◌, ◌++◌, take, drop, length, get_or, Option, None, Some, IfSome, Ok, Err, append_assoc, length-append, add-one, arith}
use Rattle.std.specs.List.{All}
use Rattle.std.proofs.Math.Seq.{take-suc, take-append_seam, drop-append_seam}
use Rattle.std.proofs.lemmas.Bool.{lt-leb}
use Rattle.std.proofs.lemmas.Grind.{flat_map-append}
use Rattle.std.proofs.lemmas.List.{append-nil, length-replicate, take-append-drop}
use Rattle.std.proofs.lemmas.List.Elements.{All-take, All-drop}
use Rattle.spd_data.specs.declared.column.Column.{Column}
use Rattle.spd_io.specs.Count.{Rose}
use Rattle.spd_io.specs.Shelf.{FileTold, Untold, Missing, Holds, MayBe, MayExceed, StaysTold, ShelfState, FailedAt, KeepsFiles, ShelfKeepsFaults}
use Rattle.spd_syntax.specs.declared.tree.Item.{Item}
use Rattle.spd_syntax.specs.declared.tree.ItemKind.TheVariants as i
use Rattle.spd_cols.specs.Loading.{AreLoaded, FileFailed, IsItemLoad, IsLoad, IsNextItem, IsNoFileOf, IsRefusal, MayHold, declarations, declared_in, file_in, most_bytes, reached}
use Rattle.spd_cols.specs.declared.fault.DataFault.{DataFault}
use Rattle.spd_cols.specs.declared.fault.DataKind.TheVariants as kind
use Rattle.spd_cols.specs.declared.fault.LoadFault.{LoadFault}
use Rattle.spd_cols.specs.declared.fault.LoadFault.TheVariants as load

-- ---- a file that is too long

longer : (limit : ℕ) (told : FileTold) → MayExceed told limit → (bytes : List ℕ) × MayBe told bytes × (limit < length bytes)
longer limit Untold may = (replicate (limit + 1) 0, tt, omega (arith, length-replicate {A = ℕ} (limit + 1) 0))
longer limit Missing may = absurd may
longer limit (Holds held) may = (held, refl, may)

pub too_long : (told : List ℕ → FileTold) (what : i.the_data) (file : List ℕ) → file_in what ≡ Some file → MayExceed (told file) most_bytes
    → (declared_in what ≡ what ∷ []) × IsRefusal told what (record { row = 0; kind = kind.TooLong })
too_long told what file is may =
    let found = longer most_bytes (told file) may in
    (rw is refl, (found.0, rw is found.1, rw (lt-leb (length found.0) most_bytes found.2) refl))

-- ---- what was told before

stays_told : (before now : FileTold) (bytes : List ℕ) → StaysTold before now → MayBe now bytes → MayBe before bytes
stays_told Untold now bytes stays may = tt
stays_told Missing now bytes stays may = rw stays at may
stays_told (Holds held) now bytes stays may = rw stays at may

module _ (old now : ShelfState) (keeps : KeepsFiles old now) where
  may_before : (what : i.the_data) (bytes : List ℕ) → MayHold now.file what bytes → MayHold old.file what bytes
  may_before what bytes may = by_file (file_in what) may
    where
      by_file : (file : Option (List ℕ)) → IfSome file (λ name. MayBe (now.file name) bytes) → IfSome file (λ name. MayBe (old.file name) bytes)
      by_file (Some name) may = stays_told (old.file name) (now.file name) bytes (keeps name) may
      by_file None may = tt

  pub loaded_before : (items : List i.the_data) (columns : List Column) → AreLoaded now.file items columns → AreLoaded old.file items columns
  loaded_before [] [] are = tt
  loaded_before (what ∷ items) (column ∷ columns) are =
      ((are.0.0, may_before what are.0.0 are.0.1, are.0.2), loaded_before items columns are.1)
  loaded_before [] (column ∷ columns) are = absurd are
  loaded_before (what ∷ items) [] are = absurd are

  pub refused_before : (what : i.the_data) (fault : DataFault) → IsRefusal now.file what fault → IsRefusal old.file what fault
  refused_before what fault is = (is.0, may_before what is.0 is.1, is.2)

-- ---- counts

pub rose_before : (a b c : ℕ) → a ≤ b → Rose b c → Rose a c
rose_before a b c le rose = omega (arith, le, rose)

failed_before : (old now new : ShelfState) → ShelfKeepsFaults old now → (what : i.the_data) → FileFailed now new what → FileFailed old new what
failed_before old now new keeps what failed = by_file (file_in what) failed
  where
    by_file : (file : Option (List ℕ)) → IfSome file (λ name. FailedAt now new name) → IfSome file (λ name. FailedAt old new name)
    by_file (Some name) failed = rose_before (old.faults name) (now.faults name) (new.faults name) (keeps name) failed
    by_file None failed = tt

-- ---- items before, and behind

loaded_more : (told : List ℕ → FileTold) (items more : List i.the_data) (columns added : List Column) → AreLoaded told items columns → AreLoaded told more added
    → AreLoaded told (items ++ more) (columns ++ added)
loaded_more told [] more [] added are behind = behind
loaded_more told (what ∷ items) more (column ∷ columns) added are behind = (are.0, loaded_more told items more columns added are.1 behind)
loaded_more told [] more (column ∷ columns) added are behind = absurd are
loaded_more told (what ∷ items) more [] added are behind = absurd are

same_number : (told : List ℕ → FileTold) (items : List i.the_data) (columns : List Column) → AreLoaded told items columns → length items ≡ length columns
same_number told [] [] are = refl
same_number told (what ∷ items) (column ∷ columns) are = ap suc (same_number told items columns are.1)
same_number told [] (column ∷ columns) are = absurd are
same_number told (what ∷ items) [] are = absurd are

-- the declarations up to an item, and with it
pub with_item : (items : List Item) (index : ℕ) (item : Item) → index < length items → get_or items index item ≡ item
    → declarations (take (index + 1) items) ≡ declarations (take index items) ++ declared_in item.what
with_item items index item within is =
    let front : take (index + 1) items ≡ take index items ++ item ∷ [] =
    rw add-one (take-suc items index item within ∙ ap (λ (x : Item). take index items ++ x ∷ []) is) in
    ap declarations front
    ∙ flat_map-append (λ item. declared_in item.what) (take index items) (item ∷ [])
    ∙ ap (λ (more : List i.the_data). declarations (take index items) ++ more) (append-nil (declared_in item.what))

in_parts : (items : List Item) (index : ℕ) → declarations items ≡ declarations (take index items) ++ declarations (drop index items)
in_parts items index = ap declarations (sym (take-append-drop index items)) ∙ flat_map-append (λ item. declared_in item.what) (take index items) (drop index items)

-- all declarations, with those before an item, its own and those behind
pub around_item : (items : List Item) (index : ℕ) (item : Item) → index < length items → get_or items index item ≡ item
    → declarations items ≡ declarations (take index items) ++ (declared_in item.what ++ declarations (drop (index + 1) items))
around_item items index item within is =
    in_parts items (index + 1)
    ∙ ap (λ (front : List i.the_data). front ++ declarations (drop (index + 1) items)) (with_item items index item within is)
    ∙ append_assoc (declarations (take index items)) (declared_in item.what) (declarations (drop (index + 1) items))

-- ---- the columns so far

pub record AreSoFar (old now : ShelfState) (items : List i.the_data) (columns : List Column) : Type 0 where
  pub loaded : AreLoaded old.file items columns
  pub files : KeepsFiles old now
  pub counts : ShelfKeepsFaults old now
  pub others : (name : List ℕ) → IsNoFileOf name items → now.faults name ≡ old.faults name

stays_on : (a b c : FileTold) → StaysTold a b → StaysTold b c → StaysTold a c
stays_on Untold b c p q = tt
stays_on Missing b c p q = rw p at q
stays_on (Holds held) b c p q = rw p at q

all_parts : {X : Type 0} (P : X → Type 0) (xs ys : List X) → All P (xs ++ ys) → All P xs × All P ys
all_parts P xs ys all =
    (rw (take-append_seam xs ys) at (All-take P (length xs) (xs ++ ys) all), rw (drop-append_seam xs ys) at (All-drop P (length xs) (xs ++ ys) all))

keeps_on : (a b c : ShelfState) → KeepsFiles a b → KeepsFiles b c → KeepsFiles a c
keeps_on a b c p q name = stays_on (a.file name) (b.file name) (c.file name) (p name) (q name)

counts_on : (a b c : ShelfState) → ShelfKeepsFaults a b → ShelfKeepsFaults b c → ShelfKeepsFaults a c
counts_on a b c p q name = omega (arith, p name, q name)

pub nothing_yet : (old : ShelfState) → AreSoFar old old [] []
nothing_yet old = record { loaded = tt; files = λ name. stays_same (old.file name); counts = λ name. omega arith; others = λ name none. refl }
  where
    stays_same : (told : FileTold) → StaysTold told told
    stays_same Untold = tt
    stays_same Missing = refl
    stays_same (Holds held) = refl

pub one_more : (old now new : ShelfState) (items : List i.the_data) (columns after : List Column) (what : i.the_data) → AreSoFar old now items columns
    → IsItemLoad now new what columns after (Ok tt) → KeepsFiles now new → ShelfKeepsFaults now new
    → ((name : List ℕ) → IsNoFileOf name (declared_in what) → new.faults name ≡ now.faults name) → AreSoFar old new (items ++ declared_in what) after
one_more old now new items columns after what so_far is files counts others = record {
  loaded = rw is.1 (loaded_more old.file items (declared_in what) columns is.0 so_far.loaded (loaded_before old now so_far.files (declared_in what) is.0 is.2));
  files = keeps_on old now new so_far.files files;
  counts = counts_on old now new so_far.counts counts;
  others = λ name none. let parts = all_parts (λ w. file_in w ≢ Some name) items (declared_in what) none in
      others name parts.1 ∙ so_far.others name parts.0;
}

next_item : (old now : ShelfState) (all before behind : List i.the_data) (columns : List Column) (what : i.the_data) (number : ℕ) → AreSoFar old now before columns
    → all ≡ before ++ (declared_in what ++ behind) → declared_in what ≡ what ∷ [] → number ≡ length columns → IsNextItem old.file all number what
next_item old now all before behind columns what number so_far parts declared is = record {
  before = before;
  behind = behind;
  columns = columns;
  items_are = rw declared at parts;
  number_is = same_number old.file before columns so_far.loaded ∙ sym is;
  loaded = so_far.loaded;
}

pub ended : (old now new : ShelfState) (all before behind : List i.the_data) (columns after : List Column) (what : i.the_data) (fault : LoadFault)
    → AreSoFar old now before columns → all ≡ before ++ (declared_in what ++ behind) → IsItemLoad now new what columns after (Err fault) → IsLoad old new all (Err fault)
ended old now new all before behind columns after what (load.Failed column) so_far parts is =
    (what, next_item old now all before behind columns what column so_far parts is.1 is.0, failed_before old now new so_far.counts what is.2)
ended old now new all before behind columns after what (load.Refused column fault) so_far parts is =
    (what, next_item old now all before behind columns what column so_far parts is.1 is.0, refused_before old now so_far.files what fault is.2)
ended old now new all before behind columns after what load.NoMemory so_far parts is = tt

-- the items up to the one that ended it are those before it, and it
reached_by : (told : List ℕ → FileTold) (all before behind : List i.the_data) (columns : List Column) (what : i.the_data) (number : ℕ) → AreLoaded told before columns
    → all ≡ before ++ (declared_in what ++ behind) → declared_in what ≡ what ∷ [] → number ≡ length columns → take (number + 1) all ≡ before ++ declared_in what
reached_by told all before behind columns what number loaded parts declared is =
    let front : all ≡ (before ++ declared_in what) ++ behind = parts ∙ sym (append_assoc before (declared_in what) behind) in
    let one : length (declared_in what) ≡ 1 = rw declared refl in
    let size : number + 1 ≡ length (before ++ declared_in what) =
    omega (arith, length-append before (declared_in what), one, is, same_number told before columns loaded) in
    rw (size, front) (take-append_seam (before ++ declared_in what) behind)

pub ended_others : (old now new : ShelfState) (all before behind : List i.the_data) (columns after : List Column) (what : i.the_data) (fault : LoadFault)
    → AreSoFar old now before columns → all ≡ before ++ (declared_in what ++ behind) → IsItemLoad now new what columns after (Err fault)
    → ((name : List ℕ) → IsNoFileOf name (declared_in what) → new.faults name ≡ now.faults name)
    → (name : List ℕ) → IsNoFileOf name (reached all (Err fault)) → new.faults name ≡ old.faults name
ended_others old now new all before behind columns after what fault so_far parts is others name none =
    let both = all_parts (λ w. file_in w ≢ Some name) before (declared_in what) (in_both fault is none) in
    others name both.1 ∙ so_far.others name both.0
  where
    in_both : (fault : LoadFault) → IsItemLoad now new what columns after (Err fault) → IsNoFileOf name (reached all (Err fault)) → IsNoFileOf name (before ++ declared_in what)
    in_both (load.Failed column) is none = rw (reached_by old.file all before behind columns what column so_far.loaded parts is.1 is.0) at none
    in_both (load.Refused column fault) is none = rw (reached_by old.file all before behind columns what column so_far.loaded parts is.1 is.0) at none
    in_both load.NoMemory is none =
        let front : all ≡ (before ++ declared_in what) ++ behind = parts ∙ sym (append_assoc before (declared_in what) behind) in
        (all_parts (λ w. file_in w ≢ Some name) (before ++ declared_in what) behind (rw front at none)).0
