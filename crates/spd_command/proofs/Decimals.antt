-- A word of digits is a numeral, without a sign.
use Rattle.std.proofs.Common.{◌≡◌, ◌^◌, ◌<◌, ◌≤◌, ◌&&◌, ℕ, Bool, true, false, nat_le, refl, sym, subst, arith, List, [], ◌∷◌, length}
use Rattle.std.proofs.lemmas.Bool.Decides.{nat_tests}
use Rattle.std.proofs.lemmas.Str.{digit_value_digit}
use Rattle.std.proofs.lemmas.Str.Parse.{without_leading_plus_none}
use Rattle.std.specs.Str.Parse.{AllDigits, IsNumeral, without_leading_plus, digits_value}
use Rattle.std.specs.Char.{digit_value}
use Rattle.clap.proofs.WalkLemmas.{both}
use Rattle.spd_command.specs.Values.{is_decimal, is_number}

in_range : (b : ℕ) → (nat_le 48 b && nat_le b 57) ≡ true → (48 ≤ b) × (b ≤ 57)
in_range b e =
    let (low, high) = both (nat_le 48 b) (nat_le b 57) e in
    (grind (arith, nat_tests, low), grind (arith, nat_tests, high))

digit : (b : ℕ) → (nat_le 48 b && nat_le b 57) ≡ true → digit_value b < 10
digit b e = let (low, high) = in_range b e in let at = digit_value_digit b (low, high) in omega (arith, at, low, high)

pub all_digits : (word : List ℕ) → is_decimal word ≡ true → AllDigits 10 word
all_digits [] e = tt
all_digits (b ∷ word) e = let (here, rest) = both (nat_le 48 b && nat_le b 57) _ e in (digit b here, all_digits word rest)

-- no sign stands before digits
pub unsigned : (word : List ℕ) → is_decimal word ≡ true → without_leading_plus word ≡ word
unsigned [] e = without_leading_plus_none [] (λ h. let bad : 0 ≡ 43 = h in absurd (omega (arith, bad)))
unsigned (b ∷ word) e = let (here, rest) = both (nat_le 48 b && nat_le b 57) _ e in let (low, high) = in_range b here in without_leading_plus_none (b ∷ word) (λ h. let is : b ≡ 43 = h in absurd (omega (arith, is, low)))

pub record Decimal (least most : ℕ) (word : List ℕ) : Type 0 where
  pub some : 1 ≤ length word
  pub few : length word ≤ 10
  pub digits : is_decimal word ≡ true
  pub low : least ≤ digits_value 10 word
  pub high : digits_value 10 word ≤ most

pub decimal_of : (least most : ℕ) (word : List ℕ) → is_number least most word ≡ true → Decimal least most word
decimal_of least most word e =
    let (abcd, high) = both (nat_le 1 (length word) && nat_le (length word) 10 && is_decimal word && nat_le least (digits_value 10 word)) _ e in
    let (abc, low) = both (nat_le 1 (length word) && nat_le (length word) 10 && is_decimal word) _ abcd in
    let (ab, digits) = both (nat_le 1 (length word) && nat_le (length word) 10) _ abc in
    let (some, few) = both (nat_le 1 (length word)) _ ab in
    record {
      some = grind (arith, nat_tests, some);
      few = grind (arith, nat_tests, few);
      digits = digits;
      low = grind (arith, nat_tests, low);
      high = grind (arith, nat_tests, high);
    }

-- `parse` reads it, at 32 bits
pub numeral : (least most : ℕ) (word : List ℕ) → most < 2 ^ 32 → is_number least most word ≡ true
    → IsNumeral 10 (without_leading_plus word) × (digits_value 10 (without_leading_plus word) < 2 ^ 32)
numeral least most word fits e =
    let d = decimal_of least most word e in
    subst (λ w. IsNumeral 10 w × (digits_value 10 w < 2 ^ 32)) (sym (unsigned word d.digits))
    ((omega (arith, d.some), all_digits word d.digits), omega (arith, d.high, fits))

pub untrue : (b : Bool) → (b ≡ true → ⊥) → false ≡ b
untrue false n = refl
untrue true n = absurd (n refl)
