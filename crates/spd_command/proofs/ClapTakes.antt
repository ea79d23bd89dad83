-- Each command's parser takes its lawful words, and reads what they give.
use Rattle.std.proofs.Common.{◌≡◌, ◌∙◌, ◌&&◌, ◌||◌, ◌+◌, ◌<◌, inl, inr, Bool, true, false, cond, refl, sym, ap, ap₂, subst, arith, List, [], ◌∷◌, length, Option, Some, None, find, fold, is_some, if◌then◌else◌, option_and_then, true≢false}
use Rattle.std.specs.List.{list_all}
use Rattle.std.proofs.lemmas.Cmp.{nat_list_eq_equiv}
use Rattle.clap.specs.Simple.{Shape, built, matches_of, is_simple}
use Rattle.clap.specs.Walk.{Held, Row, Rule, Text, Walk, arg_by_id, arg_by_long, settled, finished, with_default, nothing_held, walk}
use Rattle.clap.specs.Takes.{takes, settle_passes, level_passes, default_passes, is_valid, is_given, built_takes}
use Rattle.clap.proofs.TakesLemmas.{leaf_takes}
use Rattle.clap.proofs.WalkLemmas.{both}
use Rattle.spd_command.specs.declared.argument.Argument.{Argument}
use Rattle.spd_command.specs.declared.command_name.CommandName.{CommandName}
use Rattle.spd_command.specs.declared.command_name.CommandName.TheVariants.{Elide, Check, Make, Run, Job}
use Rattle.spd_command.specs.declared.argument.Argument.TheVariants.{Counts}
use Rattle.spd_command.specs.Table.{argument_name, is_flag, is_option_word, operands_of, options_of}
use Rattle.spd_command.specs.Values.{flag_value}
use Rattle.spd_command.specs.Lines.{Passed, passes, passed_by, arguments_in, are_values, are_given_once}
use Rattle.spd_command.specs.Matching.{app_for}
use Rattle.spd_command.specs.Testing.{fits}
use Rattle.spd_command.proofs.Falls.{Falls, ended, operand_next, flag_next, option_next, all_in, falls}
use Rattle.spd_command.proofs.Once.{named_apart, lawful_is}
use Rattle.spd_command.proofs.ClapWalk.{option_built}
use Rattle.spd_command.proofs.ClapRows.{given_rows, is_new, settled_is, settles, given_first}
use Rattle.spd_command.proofs.ClapFlags.{HoldsGiven, EachMay, defaults_hold, given_holds, still_given}
use Rattle.spd_command.proofs.Apart.{apart, all_differ, at_most}
use Rattle.spd_command.proofs.ClapReads.{AreOperands, AreOptions, Ends, reads}

abbrev shape : CommandName → Shape
shape command = (built (app_for command)).top

-- ---- the options of each command

abbrev Each : (Argument → Type 0) → List Argument → Type 0
Each P [] = Unit {0}
Each P (a ∷ rest) = P a × Each P rest

module _ (P : Argument → Type 0) (test : Argument → Bool) where
  each_here : (t : Bool) (a b : Argument) (later : Option Argument) → P b → (later ≡ Some a → P a) → cond t (Some b) later ≡ Some a → P a
  each_here true a b later here rec e = subst P (ap (λ o. elim o [ None ↦ a | Some z ↦ z ]) e) here
  each_here false a b later here rec e = rec e

  each_found : (options : List Argument) (a : Argument) → Each P options → find test options ≡ Some a → P a
  each_found [] a all e = absurd (true≢false (sym (ap is_some e)))
  each_found (b ∷ options) a all e = each_here (test b) a b (find test options) all.0 (each_found options a all.1) e

abbrev IsOption : List Rule → Argument → Type 0
IsOption rules a = (arg_by_long rules (argument_name a) ≡ Some (option_built a)) × (arg_by_id rules (argument_name a) ≡ Some (option_built a))

each_option : (command : CommandName) → Each (IsOption (shape command).rules) (options_of command)
each_option Elide = tt
each_option Check = tt
each_option Make = tt
each_option Run = ((refl, refl), ((refl, refl), ((refl, refl), ((refl, refl), ((refl, refl), ((refl, refl), ((refl, refl), tt)))))))
each_option Job = ((refl, refl), ((refl, refl), ((refl, refl), ((refl, refl), ((refl, refl), ((refl, refl), ((refl, refl), tt)))))))

options_are : (command : CommandName) → AreOptions (shape command).rules (options_of command)
options_are command a word named = each_found (IsOption (shape command).rules) (λ o. is_option_word o word) (options_of command) a (each_option command) named

-- ---- the rest of each command

operands_are : (command : CommandName) → AreOperands (shape command).rules 1 (operands_of command)
operands_are Elide = ((refl, refl), tt)
operands_are Check = ((refl, refl), tt)
operands_are Make = ((refl, refl), ((refl, refl), tt))
operands_are Run = ((refl, refl), tt)
operands_are Job = ((refl, refl), ((refl, refl), tt))

few_operands : (command : CommandName) → 1 + length (operands_of command) < 100
few_operands Elide = omega arith
few_operands Check = omega arith
few_operands Make = omega arith
few_operands Run = omega arith
few_operands Job = omega arith

own_names : (command : CommandName) → all_differ (operands_of command) ≡ true
own_names Elide = refl
own_names Check = refl
own_names Make = refl
own_names Run = refl
own_names Job = refl

pub simple : (command : CommandName) → is_simple (app_for command) ≡ true
simple Elide = refl
simple Check = refl
simple Make = refl
simple Run = refl
simple Job = refl

keeps_first : (command : CommandName) → (shape command).args_override_self ≡ false
keeps_first Elide = refl
keeps_first Check = refl
keeps_first Make = refl
keeps_first Run = refl
keeps_first Job = refl

defaults_pass : (command : CommandName) → list_all default_passes (shape command).rules ≡ true
defaults_pass Elide = refl
defaults_pass Check = refl
defaults_pass Make = refl
defaults_pass Run = refl
defaults_pass Job = refl

-- only a flag has a default
few_defaults : (command : CommandName) → EachMay (shape command).rules
few_defaults Elide = (inl refl, tt)
few_defaults Check = (inl refl, tt)
few_defaults Make = (inl refl, (inl refl, tt))
few_defaults Run = (inl refl, (inl refl, (inl refl, (inl refl, (inl refl, (inl refl, (inl refl, (inr (Counts, refl, refl), tt))))))))
few_defaults Job = (inl refl, (inl refl, (inl refl, (inl refl, (inl refl, (inl refl, (inl refl, (inl refl, (inr (Counts, refl, refl), tt)))))))))

have_values : (command : CommandName) → Each (λ a. is_flag a ≡ false) (operands_of command)
have_values Elide = (refl, tt)
have_values Check = (refl, tt)
have_values Make = (refl, (refl, tt))
have_values Run = (refl, tt)
have_values Job = (refl, (refl, tt))

-- each operand has a row
abbrev AllGiven : List Row → List Argument → Type 0
AllGiven rows operands = Each (λ a. is_given (argument_name a) rows ≡ true) operands

valid : (command : CommandName) (rows : List Row) → AllGiven rows (operands_of command) → is_valid (shape command) rows false ≡ true
valid Elide rows given = rw given.0 refl
valid Check rows given = rw given.0 refl
valid Make rows given = rw given.0 (rw given.1.0 refl)
valid Run rows given = rw given.0 refl
valid Job rows given = rw given.0 (rw given.1.0 refl)

or_true : (t : Bool) → (t || true) ≡ true
or_true true = refl
or_true false = refl

more_given : (operands : List Argument) (p : Passed) (all : List Passed) → AllGiven (given_rows all) operands → AllGiven (given_rows (p ∷ all)) operands
more_given [] p all given = tt
more_given (a ∷ operands) p all given =
    (given_first a p all ∙ ap (λ t. passes a p || t) given.0 ∙ or_true (passes a p), more_given operands p all given.1)

all_given : (options operands : List Argument) (words : List Text) (all : List Passed) → Falls options operands words all → AllGiven (given_rows all) operands
all_given options _ _ _ ended = tt
all_given options _ _ _ (operand_next a operands word words all none value rest) =
    let p : Passed = record { argument = a; value = word } in (
      given_first a p all ∙ ap (λ t. t || is_given (argument_name a) (given_rows all)) (nat_list_eq_equiv.refl (argument_name a)),
      more_given operands p all (all_given options operands words all rest),
    )
all_given options operands _ _ (flag_next a _ word words all named flag rest) =
    more_given operands (record { argument = a; value = flag_value }) all (all_given options operands words all rest)
all_given options operands _ _ (option_next a _ word value words all named valued admitted rest) =
    more_given operands (record { argument = a; value = value }) all (all_given options operands words all rest)

-- the operands that were given are given still at the end of the walk
end_given : (operands : List Argument) (all : List Passed) (rows : List Row) → Each (λ a. is_flag a ≡ false) operands → HoldsGiven all rows
    → AllGiven (given_rows all) operands → AllGiven rows operands
end_given [] all rows valued holds given = tt
end_given (a ∷ operands) all rows valued holds given =
    (still_given all rows a holds valued.0 given.0, end_given operands all rows valued.1 holds given.1)

-- ---- lawful words

abbrev given_by : CommandName → List Text → Option (List Passed)
given_by command words = passed_by (operands_of command) (options_of command) words

lawful : (command : CommandName) (words : List Text) → is_some (arguments_in command words) ≡ true
    → (fits (given_by command words) ≡ true) × (are_given_once (options_of command) (all_in (given_by command words)) ≡ true)
lawful command words e = both _ _ (sym (lawful_is command words _ refl) ∙ e)

pub arguments_are : (command : CommandName) (words : List Text) → is_some (arguments_in command words) ≡ true
    → arguments_in command words ≡ Some (all_in (given_by command words))
arguments_are command words e = go (given_by command words) e
  where
    kept : (t : Bool) (all : List Passed) → is_some (if t then Some all else None) ≡ true → (if t then Some all else None) ≡ Some all
    kept true all e = refl
    kept false all e = absurd (true≢false (sym e))

    go : (given : Option (List Passed))
        → is_some (option_and_then (λ all. if are_values all && are_given_once (options_of command) all then Some all else None) given) ≡ true
        → option_and_then (λ all. if are_values all && are_given_once (options_of command) all then Some all else None) given ≡ Some (all_in given)
    go None e = absurd (true≢false (sym e))
    go (Some all) e = kept (are_values all && are_given_once (options_of command) all) all e

values_fit : (given : Option (List Passed)) → fits given ≡ true → are_values (all_in given) ≡ true
values_fit None e = absurd (true≢false (sym e))
values_fit (Some all) e = e

all_new : (operands : List Argument) → list_all (λ a. is_new a []) operands ≡ true
all_new [] = refl
all_new (a ∷ operands) = all_new operands

module _ (command : CommandName) (words : List Text) (e : is_some (arguments_in command words) ≡ true) where
  fall : Falls (options_of command) (operands_of command) words (all_in (given_by command words))
  fall = falls (options_of command) words (operands_of command) (lawful command words e).0

  ends : Ends (shape command) (keeps_first command) (options_of command) (options_are command) [] None 1 words (all_in (given_by command words))
  ends = reads (shape command) (keeps_first command) (options_of command) (options_are command) (operands_of command) words (all_in (given_by command words)) fall
      [] None 1 (few_operands command) (operands_are command) tt
      (apart (options_of command) (operands_of command) words _ fall (own_names command) (named_apart command) [] (all_new (operands_of command))
      (at_most (options_of command) (all_in (given_by command words)) (lawful command words e).1))

  -- what is held behind the last word
  held_are : (settled (shape command).rules (walk (shape command).rules [] nothing_held words).held).rows ≡ given_rows (all_in (given_by command words))
  held_are =
      ap (λ (w : Walk). (settled (shape command).rules w.held).rows) ends.walk_is
      ∙ ap (λ (h : Held). h.rows) (settled_is (shape command).rules ends.done_then ends.last_then ends.may)
      ∙ ap given_rows ends.total

  values : are_values (all_in (given_by command words)) ≡ true
  values = values_fit (given_by command words) (lawful command words e).0

  rows_hold : HoldsGiven (all_in (given_by command words)) (finished (shape command).rules (walk (shape command).rules [] nothing_held words).held)
  rows_hold =
      subst (λ rows. HoldsGiven (all_in (given_by command words)) (fold with_default rows (shape command).rules)) (sym held_are)
      (defaults_hold (all_in (given_by command words)) (shape command).rules (given_rows (all_in (given_by command words))) (few_defaults command)
      (given_holds (all_in (given_by command words)) values))

  level : level_passes (shape command) [] nothing_held words false ≡ true
  level =
      ap₂ (λ s t. s && t) ends.passes
      (ap₂ (λ s t. s && t)
      (ap₂ (λ again (w : Walk). settle_passes (shape command).rules again w.held) (keeps_first command) ends.walk_is ∙ settles (shape command).rules ends.done_then ends.last_then ends.may)
      (ap₂ (λ s t. s && t) (defaults_pass command)
      (valid command (finished (shape command).rules (walk (shape command).rules [] nothing_held words).held)
      (end_given (operands_of command) (all_in (given_by command words)) _ (have_values command) rows_hold
      (all_given (options_of command) (operands_of command) words _ fall)))))

-- ---- the parser as it is built

alone : (command : CommandName) → (built (app_for command)).subs ≡ []
alone Elide = refl
alone Check = refl
alone Make = refl
alone Run = refl
alone Job = refl

takes_by_level : (command : CommandName) (words : List Text) → built_takes (built (app_for command)) nothing_held words ≡ true → takes (app_for command) words ≡ true
takes_by_level Elide words e = e
takes_by_level Check words e = e
takes_by_level Make words e = e
takes_by_level Run words e = e
takes_by_level Job words e = e

matches_by_rows : (command : CommandName) (words : List Text)
    → matches_of (app_for command) words ≡ finished (shape command).rules (walk (shape command).rules [] nothing_held words).held
matches_by_rows Elide words = refl
matches_by_rows Check words = refl
matches_by_rows Make words = refl
matches_by_rows Run words = refl
matches_by_rows Job words = refl

pub takes_words : (command : CommandName) (words : List Text) → is_some (arguments_in command words) ≡ true → takes (app_for command) words ≡ true
takes_words command words e = takes_by_level command words (leaf_takes (built (app_for command)) nothing_held words (alone command) (level command words e))

pub matches_hold : (command : CommandName) (words : List Text) → is_some (arguments_in command words) ≡ true
    → HoldsGiven (all_in (given_by command words)) (matches_of (app_for command) words)
matches_hold command words e = subst (HoldsGiven (all_in (given_by command words))) (sym (matches_by_rows command words)) (rows_hold command words e)

pub values_are : (command : CommandName) (words : List Text) → is_some (arguments_in command words) ≡ true → are_values (all_in (given_by command words)) ≡ true
values_are command words e = values command words e
