-- The numbers that cells stand for.
use Rattle.std.specs.Prelude.{ℕ, ◌-◌, ◌^◌, ℤ, pos, neg_ℤ, ◌==◌, ◌&&◌, nat_le, if◌then◌else◌, List, [], ◌∷◌, Option, None, Some, option_map}
use Rattle.std.specs.List.{list_all}
use Rattle.std.specs.Char.{is_ascii_digit}
use Rattle.spd_syntax.specs.Symbols.{value_of}

-- what one or more digits stand for, if it is at most some number
abbrev pub magnitude : ℕ → List ℕ → Option ℕ
magnitude most [] = None
magnitude most (b ∷ z) = if list_all is_ascii_digit (b ∷ z) && nat_le (value_of (b ∷ z)) most then Some (value_of (b ∷ z)) else None

-- what a cell stands for: digits, with at most one `-` (45) before them, of a number from -2^63 to 2^63 - 1
abbrev pub int_of : List ℕ → Option ℤ
int_of [] = None
int_of (b ∷ z) = if b == 45 then option_map (λ n. neg_ℤ (pos n)) (magnitude (2 ^ 63) z) else option_map pos (magnitude (2 ^ 63 - 1) (b ∷ z))
