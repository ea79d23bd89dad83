-- Which words are values.
use Rattle.std.specs.Prelude.{ℕ, Bool, false, not, ◌==◌, ◌&&◌, ◌||◌, nat_le, List, [], ◌∷◌, length, codes}
use Rattle.std.specs.Prelude.{if◌then◌else◌}
use Rattle.std.specs.List.{list_all}
use Rattle.std.specs.Str.{bytes_eq}
use Rattle.std.specs.Str.Parse.{digits_value}
use Rattle.spd_words.specs.declared.scheme.Scheme.{Scheme}
use Rattle.spd_words.specs.declared.scheme.Scheme.TheVariants as scheme
use Rattle.spd_command.specs.declared.argument.ValueKind.{ValueKind}
use Rattle.spd_command.specs.declared.argument.ValueKind.TheVariants.{Name, Number, Scheme as OfScheme, Flag}

-- It has a byte, and doesn't begin with `-`.
abbrev pub is_name : List ℕ → Bool
is_name [] = false
is_name (b ∷ bs) = not (b == 45)

abbrev pub is_decimal : List ℕ → Bool
is_decimal word = list_all (λ b. nat_le 48 b && nat_le b 57) word

-- one to ten digits whose value lies between the two
abbrev pub is_number : ℕ → ℕ → List ℕ → Bool
is_number least most word = nat_le 1 (length word) && nat_le (length word) 10 && is_decimal word
    && nat_le least (digits_value 10 word) && nat_le (digits_value 10 word) most

abbrev pub is_scheme : List ℕ → Bool
is_scheme word = bytes_eq (codes "flat") word || bytes_eq (codes "level") word || bytes_eq (codes "grow") word

-- what stands for the value of an option that has none
abbrev pub flag_value : List ℕ
flag_value = codes "true"

-- a word that an argument of this kind takes as its value
abbrev pub is_value : ValueKind → List ℕ → Bool
is_value Name word = is_name word
is_value (Number least most) word = is_number least most word
is_value OfScheme word = is_scheme word
is_value Flag word = bytes_eq flag_value word

-- the scheme that a word names
abbrev pub scheme_called : List ℕ → Scheme
scheme_called word = if bytes_eq (codes "flat") word then scheme.Flat else if bytes_eq (codes "level") word then scheme.Level else scheme.Grow
