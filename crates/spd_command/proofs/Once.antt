-- An option's word stands among lawful words as often as the option is given.
use Rattle.std.proofs.Common.{◌≡◌, ◌∙◌, ◌&&◌, ◌+◌, ℕ, Bool, true, false, not, cond, refl, sym, ap, ap₂, arith, List, [], ◌∷◌, Option, Some, None, nat_le, count_by, find, is_some, option_and_then, if◌then◌else◌, true≢false}
use Rattle.std.specs.List.{list_all}
use Rattle.std.specs.Str.{bytes_eq}
use Rattle.std.proofs.lemmas.Cmp.{nat_list_eq_equiv}
use Rattle.std.proofs.lemmas.List.Sums.{sum_by-cons}
use Rattle.std.proofs.lemmas.Slice.Eq.{bytes_eq-Decides}
use Rattle.clap.proofs.WalkLemmas.{both}
use Rattle.spd_command.specs.declared.argument.Argument.{Argument}
use Rattle.spd_command.specs.declared.command_name.CommandName.{CommandName}
use Rattle.spd_command.specs.declared.command_name.CommandName.TheVariants.{Elide, Check, Make, Run, Job}
use Rattle.spd_command.specs.Table.{argument_name, option_called, is_option_word, kind_of_value, operands_of, options_of}
use Rattle.spd_command.specs.Values.{flag_value}
use Rattle.spd_command.specs.Lines.{Passed, passed_by, passes, are_values, are_given_once, arguments_in}
use Rattle.spd_command.specs.Testing.{fits, stand_once}
use Rattle.spd_command.proofs.PlainWords.{plain_value, no_option_word}
use Rattle.spd_command.proofs.Falls.{Falls, ended, operand_next, flag_next, option_next, all_in, falls}

-- ---- what a word that names an option is

module _ {X : Type 0} (test : X → Bool) where
  inside : (a b : X) → Some a ≡ Some b → a ≡ b
  inside a b e = ap (λ o. elim o [ None ↦ a | Some z ↦ z ]) e

  found_here : (t : Bool) (x y : X) (later : Option X) → test y ≡ t → (later ≡ Some x → test x ≡ true) → cond t (Some y) later ≡ Some x → test x ≡ true
  found_here true x y later is rest e = ap test (sym (inside y x e)) ∙ is
  found_here false x y later is rest e = rest e

  pub found_passes : (xs : List X) (x : X) → find test xs ≡ Some x → test x ≡ true
  found_passes [] x e = absurd (true≢false (sym (ap is_some e)))
  found_passes (y ∷ ys) x e = found_here (test y) x y (find test ys) refl (λ rest. found_passes ys x rest) e

pub option_word : (options : List Argument) (word : List ℕ) (option : Argument) → option_called options word ≡ Some option → word ≡ 45 ∷ 45 ∷ argument_name option
option_word options word option e = sym ((bytes_eq-Decides _ _).0 (found_passes (λ o. is_option_word o word) options option e))

-- ---- how often

-- the option has another name than each of the operands
abbrev pub differs : List Argument → Argument → Bool
differs operands option = list_all (λ operand. not (bytes_eq (argument_name operand) (argument_name option))) operands

untrue : (b : Bool) → not b ≡ true → b ≡ false
untrue false e = refl
untrue true e = absurd (true≢false (sym e))

more : (option : Argument) (word : List ℕ) (words : List (List ℕ)) (p : Passed) (all : List Passed) → is_option_word option word ≡ passes option p
    → count_by (is_option_word option) words ≡ count_by (passes option) all → count_by (is_option_word option) (word ∷ words) ≡ count_by (passes option) (p ∷ all)
more option word words p all same rest =
    sum_by-cons (λ w. cond (is_option_word option w) 1 0) word words
    ∙ ap₂ (λ (t : Bool) (n : ℕ). cond t 1 0 + n) same rest
    ∙ sym (sum_by-cons (λ q. cond (passes option q) 1 0) p all)

skipped : (option : Argument) (word : List ℕ) (words : List (List ℕ)) → is_option_word option word ≡ false
    → count_by (is_option_word option) (word ∷ words) ≡ count_by (is_option_word option) words
skipped option word words other =
    sum_by-cons (λ w. cond (is_option_word option w) 1 0) word words
    ∙ ap (λ (t : Bool). cond t 1 0 + count_by (is_option_word option) words) other ∙ omega arith

-- the word of an option is that of another where they have one name
named_as : (option : Argument) (options : List Argument) (word : List ℕ) (a : Argument) → option_called options word ≡ Some a
    → is_option_word option word ≡ bytes_eq (argument_name a) (argument_name option)
named_as option options word a named =
    ap (is_option_word option) (option_word options word a named) ∙ nat_list_eq_equiv.symm (argument_name option) (argument_name a)

pub counts : (option : Argument) (options operands : List Argument) (words : List (List ℕ)) (all : List Passed) → Falls options operands words all
    → differs operands option ≡ true → count_by (is_option_word option) words ≡ count_by (passes option) all
counts option options _ _ _ ended d = refl
counts option options _ _ _ (operand_next a operands word words all none value rest) d =
    let (here, later) = both (not (bytes_eq (argument_name a) (argument_name option))) _ d in
    more option word words (record { argument = a; value = word }) all (no_option_word option word (plain_value (kind_of_value a) word value) ∙ sym (untrue _ here))
    (counts option options operands words all rest later)
counts option options _ _ _ (flag_next a operands word words all named flag rest) d =
    more option word words (record { argument = a; value = flag_value }) all (named_as option options word a named)
    (counts option options operands words all rest d)
counts option options _ _ _ (option_next a operands word value words all named valued admitted rest) d =
    more option word (value ∷ words) (record { argument = a; value = value }) all (named_as option options word a named)
    (skipped option value words (no_option_word option value (plain_value (kind_of_value a) value admitted)) ∙ counts option options operands words all rest d)

pub once : (some operands options : List Argument) (words : List (List ℕ)) → list_all (differs operands) some ≡ true → fits (passed_by operands options words) ≡ true
    → stand_once some words ≡ are_given_once some (all_in (passed_by operands options words))
once [] operands options words d f = refl
once (option ∷ some) operands options words d f =
    let (here, later) = both (differs operands option) _ d in
    ap₂ (λ (n : ℕ) (t : Bool). nat_le n 1 && t) (counts option options operands words _ (falls options words operands f) here) (once some operands options words later f)

-- ---- each command

pub named_apart : (command : CommandName) → list_all (differs (operands_of command)) (options_of command) ≡ true
named_apart Elide = refl
named_apart Check = refl
named_apart Make = refl
named_apart Run = refl
named_apart Job = refl

pub lawful_is : (command : CommandName) (words : List (List ℕ)) (all : Option (List Passed)) → passed_by (operands_of command) (options_of command) words ≡ all
    → is_some (arguments_in command words) ≡ (fits all && are_given_once (options_of command) (all_in all))
lawful_is command words None e = rw e refl
lawful_is command words (Some all) e = ap (λ o. is_some (option_and_then (λ some. if are_values some && are_given_once (options_of command) some then Some some else None) o)) e
    ∙ kept (are_values all && are_given_once (options_of command) all)
  where
    kept : (t : Bool) → is_some (if t then Some all else None) ≡ t
    kept true = refl
    kept false = refl

pub once_is : (command : CommandName) (words : List (List ℕ)) → true ≡ fits (passed_by (operands_of command) (options_of command) words)
    → stand_once (options_of command) words ≡ is_some (arguments_in command words)
once_is command words f =
    once (options_of command) (operands_of command) (options_of command) words (named_apart command) (sym f)
    ∙ sym (lawful_is command words _ refl ∙ ap (λ t. t && are_given_once (options_of command) (all_in (passed_by (operands_of command) (options_of command) words))) (sym f))
