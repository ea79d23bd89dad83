-- Which words may stand behind a command, and the arguments that they give.
use Rattle.std.specs.Prelude.{ℕ, Bool, ◌&&◌, nat_le, if◌then◌else◌, List, [], ◌∷◌, Option, Some, None, find, count_by}
use Rattle.std.specs.Prelude.{option_map, option_and_then}
use Rattle.std.specs.List.{list_all}
use Rattle.std.specs.Str.{bytes_eq}
use Rattle.spd_command.specs.declared.argument.Argument.{Argument}
use Rattle.spd_command.specs.declared.command_name.CommandName.{CommandName}
use Rattle.spd_command.specs.Table.{argument_name, kind_of_value, is_flag, operands_of, options_of, option_called}
use Rattle.spd_command.specs.Values.{is_value, flag_value}

-- an argument with the word that is its value
pub record Passed : Type 0 where
  pub argument : Argument
  pub value : List ℕ

abbrev pub passed_first : Argument → List ℕ → Option (List Passed) → Option (List Passed)
passed_first argument value = option_map (λ rest. record { argument = argument; value = value } ∷ rest)

-- the word is the next operand
abbrev pub operand_first : List Argument → List ℕ → (List Argument → Option (List Passed)) → Option (List Passed)
operand_first [] word rest = None
operand_first (operand ∷ operands) word rest = passed_first operand word (rest operands)

-- The arguments that words give, in their order: behind a word that names an option stands its value, whatever that is, unless
-- it is a flag, and every other word is the next operand. Nothing where an operand or a value is missing, or a word is one too many.
unfoldable pub passed_by : List Argument → List Argument → List (List ℕ) → Option (List Passed)
passed_by [] options [] = Some []
passed_by (operand ∷ operands) options [] = None
passed_by operands options (word ∷ []) = elim (option_called options word) [
  | None ↦ operand_first operands word (λ others. passed_by others options [])
  | Some option ↦ if is_flag option then passed_first option flag_value (passed_by operands options []) else None
]
passed_by operands options (word ∷ value ∷ words) = elim (option_called options word) [
  | None ↦ operand_first operands word (λ others. passed_by others options (value ∷ words))
  | Some option ↦ if is_flag option then passed_first option flag_value (passed_by operands options (value ∷ words))
      else passed_first option value (passed_by operands options words)
]

abbrev pub passes : Argument → Passed → Bool
passes argument p = bytes_eq (argument_name p.argument) (argument_name argument)

-- Each value is one that its argument takes.
abbrev pub are_values : List Passed → Bool
are_values = list_all (λ p. is_value (kind_of_value p.argument) p.value)

-- Each option is given at most once.
abbrev pub are_given_once : List Argument → List Passed → Bool
are_given_once options all = list_all (λ option. nat_le (count_by (passes option) all) 1) options

-- the arguments that the words behind a command give, where they are lawful there
abbrev pub arguments_in : CommandName → List (List ℕ) → Option (List Passed)
arguments_in command words = option_and_then (λ all. if are_values all && are_given_once (options_of command) all then Some all else None)
    (passed_by (operands_of command) (options_of command) words)

-- the value that is given to an argument
abbrev pub value_in : Argument → List Passed → Option (List ℕ)
value_in argument all = option_map (λ p. p.value) (find (passes argument) all)
