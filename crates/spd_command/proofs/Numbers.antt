-- The value that was found for an argument that takes numbers is one.
use Rattle.std.proofs.Common.{◌≡◌, ◌∙◌, ◌≤◌, ◌&&◌, ℕ, Bool, true, false, refl, sym, ap, ap₂, arith, List, [], ◌∷◌, length, Option, Some, None, find, cond, nat_le, is_some, option_map, true≢false}
use Rattle.std.specs.Str.{bytes_eq}
use Rattle.std.specs.Str.Parse.{digits_value}
use Rattle.std.specs.Option.{option_map_or}
use Rattle.std.proofs.lemmas.Slice.Eq.{bytes_eq-Decides}
use Rattle.std.proofs.lemmas.Bool.Decides.{nat_tests}
use Rattle.clap.specs.declared.parser.matches.ArgMatches.{ArgMatches}
use Rattle.clap.proofs.WalkLemmas.{both}
use Rattle.spd_command.specs.declared.argument.Argument.{Argument}
use Rattle.spd_command.specs.declared.argument.Argument.TheVariants.{Program, Rows, FileSeed, Workers, Moves, Nodes, Tree, Grow, Seed, Counts}
use Rattle.spd_command.specs.declared.argument.ValueKind.TheVariants.{Number}
use Rattle.spd_command.specs.Table.{argument_name, kind_of_value, stands_alone}
use Rattle.spd_command.specs.Values.{is_value, is_number}
use Rattle.spd_command.specs.Lines.{Passed, passes, value_in, are_values}
use Rattle.spd_command.specs.Found.{IsFound, MayBeNumber}
use Rattle.spd_command.specs.Asked.{number_or, settings_in, AreInRange}
use Rattle.spd_command.proofs.Decimals.{decimal_of}

-- ---- a name is that of one argument

abbrev all_arguments : List Argument
all_arguments = Program ∷ Rows ∷ FileSeed ∷ Workers ∷ Moves ∷ Nodes ∷ Tree ∷ Grow ∷ Seed ∷ Counts ∷ []

abbrev argument_called : List ℕ → Option Argument
argument_called name = find (λ a. bytes_eq (argument_name a) name) all_arguments

called : (a : Argument) → argument_called (argument_name a) ≡ Some a
called Program = refl
called Rows = refl
called FileSeed = refl
called Workers = refl
called Moves = refl
called Nodes = refl
called Tree = refl
called Grow = refl
called Seed = refl
called Counts = refl

pub same_argument : (a b : Argument) → argument_name a ≡ argument_name b → a ≡ b
same_argument a b e = ap (λ o. elim o [ None ↦ a | Some z ↦ z ]) (sym (called a) ∙ ap argument_called e ∙ called b)

-- ---- a value that is given

module _ (a : Argument) where
  value_here : (t : Bool) (p : Passed) (later : Option Passed) (word : List ℕ) → passes a p ≡ t → is_value (kind_of_value p.argument) p.value ≡ true
      → (option_map (λ (q : Passed). q.value) later ≡ Some word → is_value (kind_of_value a) word ≡ true)
      → option_map (λ (q : Passed). q.value) (cond t (Some p) later) ≡ Some word → is_value (kind_of_value a) word ≡ true
  value_here true p later word is value rec e =
      let own : p.argument ≡ a = same_argument p.argument a ((bytes_eq-Decides _ _).0 is) in
      ap₂ (λ (b : Argument) (w : List ℕ). is_value (kind_of_value b) w) (sym own) (ap (λ o. elim o [ None ↦ word | Some z ↦ z ]) (sym e)) ∙ value
  value_here false p later word is value rec e = rec e

  pub value_is : (all : List Passed) (word : List ℕ) → are_values all ≡ true → value_in a all ≡ Some word → is_value (kind_of_value a) word ≡ true
  value_is [] word values e = absurd (true≢false (sym (ap is_some e)))
  value_is (p ∷ all) word values e =
      let (here, later) = both (is_value (kind_of_value p.argument) p.value) _ values in
      value_here (passes a p) p (find (passes a) all) word refl here (value_is all word later) e

-- ---- the numbers of a command

module _ (all : List Passed) (values : are_values all ≡ true) (a : Argument) (least most : ℕ) (kind : kind_of_value a ≡ Number least most) where
  value_between : (word : List ℕ) → value_in a all ≡ Some word → (least ≤ digits_value 10 word) × (digits_value 10 word ≤ most)
  value_between word e =
      let d = decimal_of least most word (ap (λ k. is_value k word) (sym kind) ∙ value_is a all word values e) in (d.low, d.high)

  number_between : (standard : ℕ) → least ≤ standard → standard ≤ most → (least ≤ number_or standard a all) × (number_or standard a all ≤ most)
  number_between standard low high = by_value (value_in a all) refl
    where
      by_value : (found : Option (List ℕ)) → value_in a all ≡ found
          → (least ≤ option_map_or (digits_value 10) found standard) × (option_map_or (digits_value 10) found standard ≤ most)
      by_value None e = (low, high)
      by_value (Some word) e = value_between word e

pub settings_between : (all : List Passed) → are_values all ≡ true → AreInRange (settings_in all)
settings_between all values = record {
  workers = number_between all values Workers 1 64 refl 4 (omega arith) (omega arith);
  moves = number_between all values Moves 1 262144 refl 16384 (omega arith) (omega arith);
  nodes = (number_between all values Nodes 0 262144 refl 16384 (omega arith) (omega arith)).1;
  grow = (number_between all values Grow 0 65536 refl 32768 (omega arith) (omega arith)).1;
}

pub rows_between : (all : List Passed) → are_values all ≡ true → number_or 0 Rows all ≤ 1000000
rows_between all values = (number_between all values Rows 0 1000000 refl 0 (omega arith) (omega arith)).1

-- a number of some range is one of 32 bits
wider : (least most : ℕ) (word : List ℕ) → most ≤ 4294967295 → is_number least most word ≡ true → is_number 0 4294967295 word ≡ true
wider least most word fits e =
    let d = decimal_of least most word e in
    let few = d.few in
    let some = d.some in
    let high = d.high in
    let s : nat_le 1 (length word) ≡ true = grind (arith, nat_tests, some) in
    let f : nat_le (length word) 10 ≡ true = grind (arith, nat_tests, few) in
    let l : nat_le 0 (digits_value 10 word) ≡ true = grind (arith, nat_tests) in
    let h : nat_le (digits_value 10 word) 4294967295 ≡ true = grind (arith, nat_tests, high, fits) in
    ap₂ (λ a b. a && b) (ap₂ (λ a b. a && b) (ap₂ (λ a b. a && b) (ap₂ (λ a b. a && b) s f) d.digits) l) h

pub may_be_number : (found : ArgMatches) (a : Argument) (least most : ℕ) → kind_of_value a ≡ Number least most → most ≤ 4294967295
    → (all : List Passed) × IsFound found all → MayBeNumber found a
may_be_number found a least most kind fits (all, is) word e =
    wider least most word fits (ap (λ k. is_value k word) (sym kind) ∙ value_is a all word is.values (sym (is.words a (ap stands_alone kind)) ∙ e))
