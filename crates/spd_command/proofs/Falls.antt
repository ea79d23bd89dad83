-- Words that fit fall into operands, in order, and options, with their values or alone, in any place.
use Rattle.std.proofs.Common.{◌≡◌, ◌∙◌, ℕ, Bool, true, false, refl, sym, ap, subst, List, [], ◌∷◌, Option, Some, None, true≢false}
use Rattle.clap.proofs.WalkLemmas.{both}
use Rattle.spd_command.specs.declared.argument.Argument.{Argument}
use Rattle.spd_command.specs.Table.{option_called, is_flag, kind_of_value}
use Rattle.spd_command.specs.Values.{is_value, flag_value}
use Rattle.spd_command.specs.Lines.{Passed, passed_by, passed_first}
use Rattle.spd_command.specs.Testing.{fits}
use Rattle.spd_command.proofs.Testing.{operand_step, value_step, flag_step, no_value, first_fits, flag_fits}

pub data Falls (options : List Argument) : List Argument → List (List ℕ) → List Passed → Type 0 where
  ended : Falls options [] [] []
  operand_next : (a : Argument) (operands : List Argument) (word : List ℕ) (words : List (List ℕ)) (all : List Passed) → option_called options word ≡ None
      → is_value (kind_of_value a) word ≡ true → Falls options operands words all → Falls options (a ∷ operands) (word ∷ words) (record { argument = a; value = word } ∷ all)
  flag_next : (a : Argument) (operands : List Argument) (word : List ℕ) (words : List (List ℕ)) (all : List Passed) → option_called options word ≡ Some a
      → is_flag a ≡ true → Falls options operands words all → Falls options operands (word ∷ words) (record { argument = a; value = flag_value } ∷ all)
  option_next : (a : Argument) (operands : List Argument) (word value : List ℕ) (words : List (List ℕ)) (all : List Passed) → option_called options word ≡ Some a
      → is_flag a ≡ false → is_value (kind_of_value a) value ≡ true → Falls options operands words all
      → Falls options operands (word ∷ value ∷ words) (record { argument = a; value = value } ∷ all)

-- what is given, where all fits
abbrev pub all_in : Option (List Passed) → List Passed
all_in None = []
all_in (Some all) = all

first_all : (argument : Argument) (value : List ℕ) (rest : Option (List Passed)) → fits rest ≡ true
    → all_in (passed_first argument value rest) ≡ record { argument = argument; value = value } ∷ all_in rest
first_all argument value None e = absurd (true≢false (sym e))
first_all argument value (Some rest) e = refl

module _ (options : List Argument) where
  abbrev FallsIfFit : List Argument → List (List ℕ) → Type 0
  FallsIfFit operands words = fits (passed_by operands options words) ≡ true → Falls options operands words (all_in (passed_by operands options words))

  operand_falls : (operands : List Argument) (word : List ℕ) (rest : List (List ℕ)) → option_called options word ≡ None
      → ((others : List Argument) → FallsIfFit others rest) → FallsIfFit operands (word ∷ rest)
  operand_falls [] word rest e rec f = absurd (true≢false (sym f ∙ ap fits (operand_step [] options word rest e)))
  operand_falls (a ∷ operands) word rest e rec f =
      let step = operand_step (a ∷ operands) options word rest e in
      let (value, fit) = both (is_value (kind_of_value a) word) _ (sym (first_fits a word (passed_by operands options rest)) ∙ sym (ap fits step) ∙ f) in
      subst (Falls options (a ∷ operands) (word ∷ rest)) (sym (ap all_in step ∙ first_all a word (passed_by operands options rest) fit))
      (operand_next a operands word rest _ e value (rec operands fit))

  flag_falls : (operands : List Argument) (word : List ℕ) (rest : List (List ℕ)) (a : Argument) → option_called options word ≡ Some a → is_flag a ≡ true
      → FallsIfFit operands rest → FallsIfFit operands (word ∷ rest)
  flag_falls operands word rest a e flag rec f =
      let step = flag_step operands options word rest a e flag in
      let fit = flag_fits operands options word rest a e flag ∙ f in
      subst (Falls options operands (word ∷ rest)) (sym (ap all_in step ∙ first_all a flag_value (passed_by operands options rest) fit))
      (flag_next a operands word rest _ e flag (rec fit))

  option_falls : (operands : List Argument) (word value : List ℕ) (rest : List (List ℕ)) (a : Argument) → option_called options word ≡ Some a
      → is_flag a ≡ false → FallsIfFit operands rest → FallsIfFit operands (word ∷ value ∷ rest)
  option_falls operands word value rest a e valued rec f =
      let step = value_step operands options word value rest a e valued in
      let (admitted, fit) = both (is_value (kind_of_value a) value) _ (sym (first_fits a value (passed_by operands options rest)) ∙ sym (ap fits step) ∙ f) in
      subst (Falls options operands (word ∷ value ∷ rest)) (sym (ap all_in step ∙ first_all a value (passed_by operands options rest) fit))
      (option_next a operands word value rest _ e valued admitted (rec fit))

  alone : (operands : List Argument) (word : List ℕ) (o : Option Argument) → option_called options word ≡ o → ((others : List Argument) → FallsIfFit others [])
      → FallsIfFit operands (word ∷ [])
  alone operands word None e rec = operand_falls operands word [] e rec
  alone operands word (Some a) e rec = by_kind (is_flag a) refl
    where
      by_kind : (t : Bool) → is_flag a ≡ t → FallsIfFit operands (word ∷ [])
      by_kind true flag = flag_falls operands word [] a e flag (rec operands)
      by_kind false valued = λ f. absurd (true≢false (sym f ∙ ap fits (no_value operands options word a e valued)))

  in_front : (operands : List Argument) (word value : List ℕ) (rest : List (List ℕ)) (o : Option Argument) → option_called options word ≡ o
      → ((others : List Argument) → FallsIfFit others (value ∷ rest)) → FallsIfFit operands rest → FallsIfFit operands (word ∷ value ∷ rest)
  in_front operands word value rest None e rec later = operand_falls operands word (value ∷ rest) e rec
  in_front operands word value rest (Some a) e rec later = by_kind (is_flag a) refl
    where
      by_kind : (t : Bool) → is_flag a ≡ t → FallsIfFit operands (word ∷ value ∷ rest)
      by_kind true flag = flag_falls operands word (value ∷ rest) a e flag (rec operands)
      by_kind false valued = option_falls operands word value rest a e valued later

  pub falls : (words : List (List ℕ)) (operands : List Argument) → FallsIfFit operands words
  unfolding passed_by
  falls [] [] = λ f. ended
  falls [] (a ∷ operands) = λ f. absurd (true≢false (sym f))
  falls (word ∷ []) operands = alone operands word (option_called options word) refl (λ others. falls [] others)
  falls (word ∷ value ∷ rest) operands = in_front operands word value rest (option_called options word) refl (λ others. falls (value ∷ rest) others) (falls rest operands)
