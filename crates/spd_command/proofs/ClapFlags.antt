-- A flag that isn't given gets a row at the end of `clap`'s walk; nothing else does.
use Rattle.std.proofs.Common.{◌≡◌, ◌∙◌, ◌⊎◌, ⊎_elim, inl, inr, ℕ, Bool, true, false, cond, if◌then◌else◌, refl, sym, ap, subst, List, [], ◌∷◌, ◌++◌, Option, Some, None, option_map, find, option_and_then, is_some, slice_get, fold, codes, true≢false}
use Rattle.std.specs.Str.{bytes_eq}
use Rattle.std.specs.Option.{option_map_or}
use Rattle.std.proofs.lemmas.Slice.Eq.{bytes_eq-Decides}
use Rattle.clap.specs.Facts.{explicit_source}
use Rattle.clap.specs.Walk.{more_values, reading_by, Row, Rule, row_text, has_row, first_of, with_default, with_values, default_rows, is_empty}
use Rattle.clap.specs.Takes.{is_given}
use Rattle.clap.proofs.SimpleLemmas.{is_nil}
use Rattle.clap.specs.declared.parser.matches.ValueSource.TheVariants.{DefaultValue}
use Rattle.clap.specs.declared.builder.value_parser.Reading.TheVariants.{AsWritten}
use Rattle.spd_command.specs.declared.argument.Argument.{Argument}
use Rattle.spd_command.specs.declared.argument.ValueKind.{ValueKind}
use Rattle.spd_command.specs.declared.argument.ValueKind.TheVariants.{Name, Number, Scheme, Flag}
use Rattle.spd_command.specs.Table.{argument_name, kind_of_value, is_flag, stands_alone}
use Rattle.spd_command.specs.Values.{flag_value, is_value}
use Rattle.spd_command.specs.Lines.{Passed, passes, value_in, are_values}
use Rattle.spd_command.specs.Found.{IsFlagText}
use Rattle.spd_command.proofs.Numbers.{same_argument, value_is}
use Rattle.spd_command.proofs.ClapWalk.{option_built, built_as, built_is}
use Rattle.spd_command.proofs.ClapRows.{given_row, given_rows, first_is, at_end}

-- ---- one row more

abbrev pub row_called : Argument → List Row → Option Row
row_called a rows = find (λ (r : Row). bytes_eq r.id (argument_name a)) rows

abbrev or_last : {X : Type 0} → (X → Bool) → X → Option X → Option X
or_last test y None = cond (test y) (Some y) None
or_last test y (Some x) = Some x

module _ {X : Type 0} (test : X → Bool) where
  find_last : (xs : List X) (y : X) → find test (xs ++ y ∷ []) ≡ or_last test y (find test xs)
  find_last [] y = refl
  find_last (x ∷ xs) y = go (test x) (find_last xs y)
    where
      go : (t : Bool) → find test (xs ++ y ∷ []) ≡ or_last test y (find test xs)
          → cond t (Some x) (find test (xs ++ y ∷ [])) ≡ or_last test y (cond t (Some x) (find test xs))
      go true e = refl
      go false e = e

-- the row of a flag that isn't given
abbrev default_row : Argument → Row
default_row f = record { id = argument_name f; values = codes "false" ∷ []; count = None; source = Some DefaultValue; reading = AsWritten }

-- ---- rows that hold what was given

pub record HoldsGiven (all : List Passed) (rows : List Row) : Type 0 where
  pub others : (a : Argument) → is_flag a ≡ false → row_called a rows ≡ row_called a (given_rows all)
  pub flags : (a : Argument) → is_flag a ≡ true → IsFlagText (is_some (value_in a all)) (option_and_then row_text (row_called a rows))

-- a flag has another name than an argument with a value
apart_names : (f a : Argument) → is_flag f ≡ true → is_flag a ≡ false → bytes_eq (argument_name f) (argument_name a) ≡ false
apart_names f a flag valued = go (bytes_eq (argument_name f) (argument_name a)) refl
  where
    go : (t : Bool) → bytes_eq (argument_name f) (argument_name a) ≡ t → t ≡ false
    go false e = refl
    go true e = absurd (true≢false (sym flag ∙ ap is_flag (same_argument f a ((bytes_eq-Decides _ _).0 e)) ∙ valued))

-- a row of a flag changes nothing for the others
others_keep : (f a : Argument) (row : Option Row) → is_flag f ≡ true → is_flag a ≡ false
    → or_last (λ (r : Row). bytes_eq r.id (argument_name a)) (default_row f) row ≡ row
others_keep f a (Some r) flag valued = refl
others_keep f a None flag valued = ap (λ t. cond t (Some (default_row f)) None) (apart_names f a flag valued)

not_given : (given : Bool) (t : Bool) (f : Argument) → IsFlagText given None → IsFlagText given (option_and_then row_text (cond t (Some (default_row f)) None))
not_given true t f e = absurd (true≢false (ap is_some (sym e)))
not_given false true f e = inr refl
not_given false false f e = inl refl

flag_keeps : (f a : Argument) (given : Bool) (row : Option Row) → IsFlagText given (option_and_then row_text row)
    → IsFlagText given (option_and_then row_text (or_last (λ (r : Row). bytes_eq r.id (argument_name a)) (default_row f) row))
flag_keeps f a given (Some r) e = e
flag_keeps f a given None e = not_given given (bytes_eq (argument_name f) (argument_name a)) f e

one_more : (all : List Passed) (rows : List Row) (f : Argument) → is_flag f ≡ true → HoldsGiven all rows → HoldsGiven all (rows ++ default_row f ∷ [])
one_more all rows f flag holds = record {
  others = λ a valued.
      find_last (λ (r : Row). bytes_eq r.id (argument_name a)) rows (default_row f) ∙ others_keep f a (row_called a rows) flag valued ∙ holds.others a valued;
  flags = λ a alone.
      subst (λ row. IsFlagText (is_some (value_in a all)) (option_and_then row_text row))
      (sym (find_last (λ (r : Row). bytes_eq r.id (argument_name a)) rows (default_row f)))
      (flag_keeps f a (is_some (value_in a all)) (row_called a rows) (holds.flags a alone));
}

-- ---- the end of the walk

-- an argument without a default, or a flag
abbrev pub MayDefault : Rule → Type 0
MayDefault rule = (is_empty rule.defaults ≡ true) ⊎ ((f : Argument) × (is_flag f ≡ true) × (rule ≡ option_built f))

no_default : (rule : Rule) (rows : List Row) → is_empty rule.defaults ≡ true → with_default rows rule ≡ rows
no_default rule rows none =
    ap (λ values. if has_row rule.id rows then rows else default_rows rule.id (reading_by rule) values rows) (is_nil rule.defaults none)
    ∙ go (has_row rule.id rows)
  where
    go : (t : Bool) → (if t then rows else rows) ≡ rows
    go true = refl
    go false = refl

abbrev pub EachMay : List Rule → Type 0
EachMay [] = Unit {0}
EachMay (rule ∷ rules) = MayDefault rule × EachMay rules

module _ (all : List Passed) where
  flag_default : (f : Argument) (rows : List Row) → is_flag f ≡ true → HoldsGiven all rows → HoldsGiven all (with_default rows (built_as true f))
  flag_default f rows flag holds = go (has_row (argument_name f) rows) refl
    where
      go : (t : Bool) → has_row (argument_name f) rows ≡ t
          → HoldsGiven all (if t then rows else with_values (argument_name f) AsWritten DefaultValue (codes "false" ∷ []) rows)
      go true e = holds
      go false e =
          subst (HoldsGiven all) (sym (at_end (argument_name f) (more_values DefaultValue (codes "false" ∷ [])) (default_row f ∷ []) rows e))
          (one_more all rows f flag holds)

  default_holds : (rule : Rule) (rows : List Row) → MayDefault rule → HoldsGiven all rows → HoldsGiven all (with_default rows rule)
  default_holds rule rows may holds = ⊎_elim
      (λ none. subst (HoldsGiven all) (sym (no_default rule rows none)) holds)
      (λ flag. subst (λ z. HoldsGiven all (with_default rows z)) (sym (flag.2 ∙ built_is flag.0 true flag.1)) (flag_default flag.0 rows flag.1 holds))
      may

  pub defaults_hold : (rules : List Rule) (rows : List Row) → EachMay rules → HoldsGiven all rows → HoldsGiven all (fold with_default rows rules)
  defaults_hold [] rows may holds = holds
  defaults_hold (rule ∷ rules) rows may holds = defaults_hold rules (with_default rows rule) may.1 (default_holds rule rows may.0 holds)

-- ---- what was given holds itself

text_is : (a : Argument) (given : List Passed) → option_and_then row_text (row_called a (given_rows given)) ≡ value_in a given
text_is a [] = refl
text_is a (p ∷ given) = go (passes a p) (text_is a given)
  where
    go : (t : Bool) → option_and_then row_text (row_called a (given_rows given)) ≡ value_in a given
        → option_and_then row_text (cond t (Some (given_row p)) (row_called a (given_rows given)))
        ≡ option_map (λ (q : Passed). q.value) (cond t (Some p) (find (passes a) given))
    go true e = refl
    go false e = e

flag_text : (kind : ValueKind) (word : List ℕ) → stands_alone kind ≡ true → is_value kind word ≡ true → word ≡ flag_value
flag_text Name word alone value = absurd (true≢false (sym alone))
flag_text (Number least most) word alone value = absurd (true≢false (sym alone))
flag_text Scheme word alone value = absurd (true≢false (sym alone))
flag_text Flag word alone value = sym ((bytes_eq-Decides flag_value word).0 value)

pub given_holds : (all : List Passed) → are_values all ≡ true → HoldsGiven all (given_rows all)
given_holds all values = record {
  others = λ a valued. refl;
  flags = λ a alone. subst (IsFlagText (is_some (value_in a all))) (sym (text_is a all)) (by_value a alone (value_in a all) refl);
}
  where
    by_value : (a : Argument) → is_flag a ≡ true → (given : Option (List ℕ)) → value_in a all ≡ given → IsFlagText (is_some given) given
    by_value a alone None e = inl refl
    by_value a alone (Some word) e = ap Some (flag_text (kind_of_value a) word alone (value_is a all word values e))

-- ---- reading

pub first_read : (all : List Passed) (rows : List Row) (a : Argument) → HoldsGiven all rows → is_flag a ≡ false
    → first_of (argument_name a) rows ≡ value_in a all
first_read all rows a holds valued = ap (option_and_then (λ (r : Row). slice_get r.values 0)) (holds.others a valued) ∙ first_is a all

pub still_given : (all : List Passed) (rows : List Row) (a : Argument) → HoldsGiven all rows → is_flag a ≡ false
    → is_given (argument_name a) (given_rows all) ≡ true → is_given (argument_name a) rows ≡ true
still_given all rows a holds valued given =
    ap (λ (row : Option Row). option_map_or (λ (r : Row). explicit_source r.source) row false) (holds.others a valued) ∙ given
