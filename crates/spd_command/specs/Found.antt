-- What `clap` found, by the arguments that were given.
use Rattle.std.specs.Prelude.{◌≡◌, ◌⊎◌, ℕ, Bool, List, Option, Some, None, codes, is_some, true, false}
use Rattle.clap.specs.Words.{found_of, first_of, one_of, rows_of}
use Rattle.clap.specs.declared.parser.matches.ArgMatches.{ArgMatches}
use Rattle.spd_command.specs.declared.argument.Argument.{Argument}
use Rattle.spd_command.specs.Table.{argument_name, is_flag}
use Rattle.spd_command.specs.Values.{flag_value, is_number}
use Rattle.spd_command.specs.Lines.{Passed, value_in, are_values}

-- the value that was found for an argument
abbrev pub word_found : ArgMatches → Argument → Option (List ℕ)
word_found found argument = first_of (argument_name argument) (rows_of (found_of found))

-- the text that a flag is read from
abbrev pub flag_found : ArgMatches → Argument → Option (List ℕ)
flag_found found argument = one_of (argument_name argument) (rows_of (found_of found))

-- the text of a flag that is given, or isn't
abbrev pub IsFlagText : Bool → Option (List ℕ) → Type 0
IsFlagText true text = text ≡ Some flag_value
IsFlagText false text = (text ≡ None) ⊎ (text ≡ Some (codes "false"))

-- The values that were found are those of arguments that were given lawfully, and a flag's text is `true` where it was given.
pub record IsFound (found : ArgMatches) (all : List Passed) : Type 0 where
  pub words : (argument : Argument) → is_flag argument ≡ false → word_found found argument ≡ value_in argument all
  pub flags : (argument : Argument) → is_flag argument ≡ true → IsFlagText (is_some (value_in argument all)) (flag_found found argument)
  pub values : are_values all ≡ true

-- All that was given was found.
abbrev pub Reads : ArgMatches → Option (List Passed) → Type 0
Reads found given = (all : List Passed) × (given ≡ Some all) × IsFound found all

-- A value that was found is the decimal digits of 32 bits.
abbrev pub MayBeNumber : ArgMatches → Argument → Type 0
MayBeNumber found argument = (word : List ℕ) → word_found found argument ≡ Some word → is_number 0 4294967295 word ≡ true
