-- A value begins with no hyphen, so it is no option's word.
use Rattle.std.proofs.Common.{◌≡◌, ◌∙◌, ◌==◌, ◌&&◌, ◌||◌, ◌≤◌, ℕ, Bool, true, false, not, refl, sym, ap, arith, List, [], ◌∷◌, length, codes, nat_eq, nat_le, true≢false}
use Rattle.std.specs.Str.{bytes_eq}
use Rattle.std.proofs.lemmas.Bool.Decides.{nat_tests}
use Rattle.std.proofs.lemmas.Slice.Eq.{bytes_eq-Decides}
use Rattle.clap.proofs.WalkLemmas.{both}
use Rattle.spd_command.specs.declared.argument.Argument.{Argument}
use Rattle.spd_command.specs.declared.argument.ValueKind.{ValueKind}
use Rattle.spd_command.specs.declared.argument.ValueKind.TheVariants.{Name, Number, Scheme, Flag}
use Rattle.spd_command.specs.Table.{argument_name, is_option_word}
use Rattle.spd_command.specs.Values.{is_name, is_scheme, is_value, is_decimal, flag_value}
use Rattle.spd_command.proofs.Decimals.{decimal_of}

-- a first byte that isn't a hyphen
abbrev pub Plain : List ℕ → Type 0
Plain word = (b : ℕ) × (bs : List ℕ) × (word ≡ b ∷ bs) × ((b == 45) ≡ false)

plain_name : (word : List ℕ) → is_name word ≡ true → Plain word
plain_name [] e = absurd (true≢false (sym e))
plain_name (b ∷ bs) e = (b, bs, refl, go (b == 45) e)
  where
    go : (t : Bool) → not t ≡ true → t ≡ false
    go false e = refl
    go true e = absurd (true≢false (sym e))

plain_digits : (word : List ℕ) → 1 ≤ length word → is_decimal word ≡ true → Plain word
plain_digits [] some e = absurd (omega (arith, some))
plain_digits (b ∷ bs) some e =
    let (here, rest) = both (nat_le 48 b && nat_le b 57) _ e in
    let (low, high) = both (nat_le 48 b) (nat_le b 57) here in
    (b, bs, refl, grind (arith, nat_tests, low))

either : (a b : Bool) (P : Type 0) → (a || b) ≡ true → (a ≡ true → P) → (b ≡ true → P) → P
either true b P e f g = f refl
either false b P e f g = g e

plain_scheme : (word : List ℕ) → is_scheme word ≡ true → Plain word
plain_scheme word e =
    either (bytes_eq (codes "flat") word || bytes_eq (codes "level") word) (bytes_eq (codes "grow") word) _ e
    (λ e. either (bytes_eq (codes "flat") word) (bytes_eq (codes "level") word) _ e
    (λ e. (102, codes "lat", sym ((bytes_eq-Decides _ _).0 e), refl))
    (λ e. (108, codes "evel", sym ((bytes_eq-Decides _ _).0 e), refl)))
    (λ e. (103, codes "row", sym ((bytes_eq-Decides _ _).0 e), refl))

pub plain_value : (kind : ValueKind) (word : List ℕ) → is_value kind word ≡ true → Plain word
plain_value Name word e = plain_name word e
plain_value (Number least most) word e = let d = decimal_of least most word e in plain_digits word d.some d.digits
plain_value Scheme word e = plain_scheme word e
plain_value Flag word e = (116, codes "rue", sym ((bytes_eq-Decides flag_value word).0 e), refl)

pub no_option_word : (option : Argument) (word : List ℕ) → Plain word → is_option_word option word ≡ false
no_option_word option word (b, bs, is, plain) =
    let first : nat_eq 45 b ≡ false = grind (arith, nat_tests, plain) in
    ap (is_option_word option) is ∙ ap (λ t. t && bytes_eq (45 ∷ argument_name option) bs) first
