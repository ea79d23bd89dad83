-- What one word more does to the test.
use Rattle.std.proofs.Common.{◌≡◌, ◌∙◌, ◌&&◌, ◌-◌, ◌==◌, ◌≤◌, ℕ, Bool, true, false, refl, sym, ap, arith, List, [], ◌∷◌, length, take, drop, slice_index_or, Option, Some, None, nat_le, count_by, is_some, true≢false}
use Rattle.std.proofs.lemmas.List.{take_all}
use Rattle.std.proofs.lemmas.Bool.Decides.{nat_tests}
use Rattle.spd_command.specs.declared.argument.Argument.{Argument}
use Rattle.spd_command.specs.declared.argument.ValueKind.{ValueKind}
use Rattle.spd_command.specs.declared.argument.ValueKind.TheVariants.{Name, Number, Scheme, Flag}
use Rattle.spd_command.specs.Table.{option_called, is_option_word, is_flag, kind_of_value, stands_alone}
use Rattle.spd_command.specs.Values.{is_value, flag_value}
use Rattle.spd_command.specs.Lines.{Passed, passed_by, passed_first, operand_first}
use Rattle.spd_command.specs.Testing.{fits, fits_from, stand_once}

-- ---- one word

-- a word that is no option's is the next operand
pub operand_step : (operands options : List Argument) (word : List ℕ) (rest : List (List ℕ)) → option_called options word ≡ None
    → passed_by operands options (word ∷ rest) ≡ operand_first operands word (λ others. passed_by others options rest)
unfolding passed_by
operand_step [] options word [] e = rw (e, passed_by) refl
operand_step (operand ∷ operands) options word [] e = rw (e, passed_by) refl
operand_step [] options word (next ∷ rest) e = rw (e, passed_by) refl
operand_step (operand ∷ operands) options word (next ∷ rest) e = rw (e, passed_by) refl

-- behind an option's word stands its value, unless it is a flag
pub value_step : (operands options : List Argument) (word value : List ℕ) (rest : List (List ℕ)) (option : Argument) → option_called options word ≡ Some option
    → is_flag option ≡ false → passed_by operands options (word ∷ value ∷ rest) ≡ passed_first option value (passed_by operands options rest)
unfolding passed_by
value_step [] options word value rest option e valued = rw (e, valued, passed_by) refl
value_step (operand ∷ operands) options word value rest option e valued = rw (e, valued, passed_by) refl

pub no_value : (operands options : List Argument) (word : List ℕ) (option : Argument) → option_called options word ≡ Some option → is_flag option ≡ false
    → passed_by operands options (word ∷ []) ≡ None
unfolding passed_by
no_value [] options word option e valued = rw (e, valued, passed_by) refl
no_value (operand ∷ operands) options word option e valued = rw (e, valued, passed_by) refl

pub flag_step : (operands options : List Argument) (word : List ℕ) (rest : List (List ℕ)) (option : Argument) → option_called options word ≡ Some option
    → is_flag option ≡ true → passed_by operands options (word ∷ rest) ≡ passed_first option flag_value (passed_by operands options rest)
unfolding passed_by
flag_step [] options word [] option e flag = rw (e, flag, passed_by) refl
flag_step (operand ∷ operands) options word [] option e flag = rw (e, flag, passed_by) refl
flag_step [] options word (next ∷ rest) option e flag = rw (e, flag, passed_by) refl
flag_step (operand ∷ operands) options word (next ∷ rest) option e flag = rw (e, flag, passed_by) refl

pub option_step : (operands options : List Argument) (word : List ℕ) (rest : List (List ℕ)) (option : Argument) → option_called options word ≡ Some option
    → is_flag option ≡ false → fits_from (Some option) operands options rest ≡ fits (passed_by operands options (word ∷ rest))
option_step operands options word [] option e valued = sym (ap fits (no_value operands options word option e valued))
option_step operands options word (value ∷ rest) option e valued = sym (ap fits (value_step operands options word value rest option e valued))

and_false : (b : Bool) → (b && false) ≡ false
and_false true = refl
and_false false = refl

pub first_fits : (argument : Argument) (word : List ℕ) (rest : Option (List Passed)) → fits (passed_first argument word rest) ≡ (is_value (kind_of_value argument) word && fits rest)
first_fits argument word None = sym (and_false (is_value (kind_of_value argument) word))
first_fits argument word (Some rest) = refl

-- a flag has what stands for its value
flag_takes : (kind : ValueKind) → stands_alone kind ≡ true → is_value kind flag_value ≡ true
flag_takes Name e = absurd (true≢false (sym e))
flag_takes (Number least most) e = absurd (true≢false (sym e))
flag_takes Scheme e = absurd (true≢false (sym e))
flag_takes Flag e = refl

pub alone_kind : (kind : ValueKind) → (kind ≡ Flag → ⊥) → stands_alone kind ≡ false
alone_kind Name other = refl
alone_kind (Number least most) other = refl
alone_kind Scheme other = refl
alone_kind Flag other = absurd (other refl)

-- behind a flag's word nothing waits
pub flag_fits : (operands options : List Argument) (word : List ℕ) (rest : List (List ℕ)) (option : Argument) → option_called options word ≡ Some option
    → is_flag option ≡ true → fits (passed_by operands options rest) ≡ fits (passed_by operands options (word ∷ rest))
flag_fits operands options word rest option e flag =
    sym (ap fits (flag_step operands options word rest option e flag) ∙ first_fits option flag_value (passed_by operands options rest)
    ∙ ap (λ t. t && fits (passed_by operands options rest)) (flag_takes (kind_of_value option) flag))

no_operand : (options : List Argument) (word : List ℕ) (rest : List (List ℕ)) → option_called options word ≡ None → fits (passed_by [] options (word ∷ rest)) ≡ false
no_operand options word rest e = ap fits (operand_step [] options word rest e)

operand_fits : (operand : Argument) (operands options : List Argument) (word : List ℕ) (rest : List (List ℕ)) → option_called options word ≡ None
    → fits (passed_by (operand ∷ operands) options (word ∷ rest)) ≡ (is_value (kind_of_value operand) word && fits (passed_by operands options rest))
operand_fits operand operands options word rest e = ap fits (operand_step (operand ∷ operands) options word rest e) ∙ first_fits operand word (passed_by operands options rest)

-- the same of a slice that is taken apart
pub none_left : (operands options : List Argument) (word : List ℕ) (rest : List (List ℕ)) → length operands ≤ 0 → option_called options word ≡ None
    → false ≡ fits (passed_by operands options (word ∷ rest))
none_left [] options word rest none e = sym (no_operand options word rest e)
none_left (operand ∷ operands) options word rest none e = absurd (omega (arith, none))

pub behind_first : {X : Type 0} (x : X) (xs : List X) → take (length (x ∷ xs) - 1) xs ≡ xs
behind_first x xs = take_all _ xs (omega arith)

pub first_left : (operands options : List Argument) (word : List ℕ) (rest : List (List ℕ)) (d : Argument) → 1 ≤ length operands → option_called options word ≡ None
    → fits (passed_by operands options (word ∷ rest))
    ≡ (is_value (kind_of_value (slice_index_or operands 0 d)) word && fits (passed_by (take (length operands - 1) (drop 1 operands)) options rest))
first_left [] options word rest d some e = absurd (omega (arith, some))
first_left (operand ∷ operands) options word rest d some e =
    operand_fits operand operands options word rest e
    ∙ ap (λ (z : List Argument). is_value (kind_of_value operand) word && fits (passed_by z options rest)) (sym (behind_first operand operands))

pub once_first : (options : List Argument) (words : List (List ℕ)) (d : Argument) → 1 ≤ length options
    → stand_once options words ≡ (nat_le (count_by (is_option_word (slice_index_or options 0 d)) words) 1 && stand_once (take (length options - 1) (drop 1 options)) words)
once_first [] words d some = absurd (omega (arith, some))
once_first (option ∷ options) words d some =
    ap (λ (z : List Argument). nat_le (count_by (is_option_word option) words) 1 && stand_once z words) (sym (behind_first option options))

-- ---- the end of the words

pub none_after : (operands options : List Argument) → (length operands == 0) ≡ fits (passed_by operands options [])
unfolding passed_by
none_after [] options = refl
none_after (operand ∷ operands) options = let some : (length (operand ∷ operands) == 0) ≡ false = grind (arith, nat_tests) in some

pub end_fits : (waiting : Option Argument) (operands options : List Argument) (left : List (List ℕ)) → is_some waiting ≡ false → left ≡ []
    → (length operands == 0) ≡ fits_from waiting operands options left
end_fits None operands options left none e = none_after operands options ∙ ap (λ z. fits (passed_by operands options z)) (sym e)
end_fits (Some option) operands options left none e = absurd (true≢false none)
