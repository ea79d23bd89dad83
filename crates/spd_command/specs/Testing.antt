-- The test on the words behind a command, from any of them on.
use Rattle.std.specs.Prelude.{ℕ, Bool, false, nat_le, List, [], ◌∷◌, Option, Some, None, count_by}
use Rattle.std.specs.List.{list_all}
use Rattle.spd_command.specs.declared.argument.Argument.{Argument}
use Rattle.spd_command.specs.declared.lawful.Next.{Next}
use Rattle.spd_command.specs.Table.{is_option_word}
use Rattle.spd_command.specs.Lines.{Passed, passed_by, passed_first, are_values}

abbrev pub fits : Option (List Passed) → Bool
fits None = false
fits (Some all) = are_values all

-- where an option may wait for its value
abbrev pub fits_from : Option Argument → List Argument → List Argument → List (List ℕ) → Bool
fits_from None operands options words = fits (passed_by operands options words)
fits_from (Some option) operands options [] = false
fits_from (Some option) operands options (value ∷ words) = fits (passed_first option value (passed_by operands options words))

abbrev pub fits_behind : Option Next → List Argument → List (List ℕ) → Bool
fits_behind None options words = false
fits_behind (Some next) options words = fits_from next.waiting next.operands.now options words

-- The word of each of the options stands among these at most once.
abbrev pub stand_once : List Argument → List (List ℕ) → Bool
stand_once options words = list_all (λ option. nat_le (count_by (is_option_word option) words) 1) options
