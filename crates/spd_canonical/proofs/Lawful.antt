-- The canonical numbers and strings are lawful, and stand for what they were made of.
use Rattle.std.proofs.Common.{◌≡◌, ℕ, ◌+◌, ◌<◌, ◌^◌, ◌==◌, ◌&&◌, ◌||◌, Bool, true, false, cond, List, [], ◌∷◌, ◌++◌, length, flat_map, Ok, Err, refl, ◌∙◌, ap, arith}
use Rattle.std.proofs.lemmas.Bool.{eqb-true}
use Rattle.std.proofs.lemmas.Fmt.{digits_decimal, digits_value-decimal, decimal_nonempty}
use Rattle.std.proofs.lemmas.Str.Parse.{IsNumeralModel, numerals_by_fold, tells_all_ascii_digits}
use Rattle.std.specs.Fmt.{decimal}
use Rattle.std.specs.Str.{all_ascii_digits}
use Rattle.std.specs.List.{list_all}
use Rattle.std.specs.Char.{is_ascii_digit}
use Rattle.spd_syntax.specs.declared.lexing.LexKind.TheVariants.{OpenString, BadEscape, BadByte}
use Rattle.spd_syntax.specs.Tokens.{string_end, is_printable}
use Rattle.spd_syntax.specs.Symbols.{value_from, value_of, unquoted, unquoted_from, IsNumeral, IsQuoted}
use Rattle.spd_canonical.specs.Canonical.{escaped, quoted_text}

-- ---- numbers

numerals : IsNumeralModel (λ ds. all_ascii_digits ds ≡ true) (value_from 0)
numerals = numerals_by_fold (λ ds. all_ascii_digits ds ≡ true) tells_all_ascii_digits value_from (record { empty = λ n. refl; more = λ n c cs k. refl })

digits_alike : (ds : List ℕ) → list_all is_ascii_digit ds ≡ all_ascii_digits ds
digits_alike [] = refl
digits_alike (d ∷ ds) = ap (λ (b : Bool). is_ascii_digit d && b) (digits_alike ds)

pub value_decimal : (n : ℕ) → n < 2 ^ 64 → value_of (decimal n) ≡ n
value_decimal n small = digits_value-decimal numerals n small

numeral : (ds : List ℕ) → 0 < length ds → list_all is_ascii_digit ds ≡ true → IsNumeral ds
numeral [] some h = absurd (omega (arith, some))
numeral (d ∷ ds) some h = h

pub decimal_lawful : (n : ℕ) → n < 2 ^ 64 → IsNumeral (decimal n)
decimal_lawful n small = numeral (decimal n) (decimal_nonempty n small) (digits_alike (decimal n) ∙ digits_decimal numerals n small)

-- ---- strings

unescaped : (z : List ℕ) → unquoted_from false (flat_map escaped z ++ 34 ∷ []) ≡ z
unescaped [] = refl
unescaped (c ∷ z) = by_tests (c == 34) (c == 92) refl refl (unescaped z)
  where
    by_tests : (d f : Bool) → (c == 34) ≡ d → (c == 92) ≡ f → unquoted_from false (flat_map escaped z ++ 34 ∷ []) ≡ z
        → unquoted_from false ((cond (d || f) (92 ∷ c ∷ []) (c ∷ []) ++ flat_map escaped z) ++ 34 ∷ []) ≡ c ∷ z
    by_tests true f e g h = ap (λ (y : List ℕ). c ∷ y) h
    by_tests false true e g h = ap (λ (y : List ℕ). c ∷ y) h
    by_tests false false e g h = rw (e, g) (ap (λ (y : List ℕ). c ∷ y) h)

-- A string that is written so is read again.
pub unquoted_quoted : (z : List ℕ) → unquoted (quoted_text z) ≡ z
unfolding quoted_text
unquoted_quoted z = unescaped z

and_both : (a b : Bool) → a ≡ true → b ≡ true → (a && b) ≡ true
and_both true true e g = refl
and_both true false e g = g
and_both false b e g = absurd cc

and_parts : (a b : Bool) → (a && b) ≡ true → (a ≡ true) × (b ≡ true)
and_parts true b e = (refl, e)
and_parts false b e = absurd cc

ended : (z : List ℕ) (at : ℕ) → list_all is_printable z ≡ true → string_end false at (flat_map escaped z ++ 34 ∷ [])
    ≡ Ok (at + length (flat_map escaped z ++ 34 ∷ []))
ended [] at h = refl
ended (c ∷ z) at h = by_tests (c == 34) (c == 92) (c == 10) refl refl refl (and_parts (is_printable c) (list_all is_printable z) h).0
    (λ to. ended z to (and_parts (is_printable c) (list_all is_printable z) h).1)
  where
    by_tests : (d f n : Bool) → (c == 34) ≡ d → (c == 92) ≡ f → (c == 10) ≡ n → is_printable c ≡ true
        → ((to : ℕ) → string_end false to (flat_map escaped z ++ 34 ∷ []) ≡ Ok (to + length (flat_map escaped z ++ 34 ∷ [])))
        → string_end false at ((cond (d || f) (92 ∷ c ∷ []) (c ∷ []) ++ flat_map escaped z) ++ 34 ∷ [])
        ≡ Ok (at + length ((cond (d || f) (92 ∷ c ∷ []) (c ∷ []) ++ flat_map escaped z) ++ 34 ∷ []))
    by_tests d f true e g k p go = let ten : c ≡ 10 = eqb-true c 10 k in let no : is_printable c ≡ false = rw ten refl in absurd cc
    by_tests true f false e g k p go = rw (k, e) (go (at + 1 + 1) ∙ ap (λ (i : ℕ). Ok i) (omega arith))
    by_tests false true false e g k p go = rw (k, e, g) (go (at + 1 + 1) ∙ ap (λ (i : ℕ). Ok i) (omega arith))
    by_tests false false false e g k p go = rw (k, e, g, p) (go (at + 1) ∙ ap (λ (i : ℕ). Ok i) (omega arith))

printable_read : (e : Bool) (at n : ℕ) (z : List ℕ) → string_end e at z ≡ Ok n → list_all is_printable (unquoted_from e z) ≡ true
printable_read e at n [] h = refl
printable_read true at n (b ∷ z) h = by_tests (b == 10) (b == 34) (b == 92) refl refl refl h (λ g. printable_read false (at + 1) n z g)
  where
    by_tests : (s d f : Bool) → (b == 10) ≡ s → (b == 34) ≡ d → (b == 92) ≡ f
        → cond s (Err OpenString) (cond (d || f) (string_end false (at + 1) z) (Err BadEscape)) ≡ Ok n
        → (string_end false (at + 1) z ≡ Ok n → list_all is_printable (unquoted_from false z) ≡ true)
        → (is_printable b && list_all is_printable (unquoted_from false z)) ≡ true
    by_tests true d f es ed ef h go = absurd cc
    by_tests false true f es ed ef h go = let is : b ≡ 34 = eqb-true b 34 ed in rw is (go h)
    by_tests false false true es ed ef h go = let is : b ≡ 92 = eqb-true b 92 ef in rw is (go h)
    by_tests false false false es ed ef h go = absurd cc
printable_read false at n (b ∷ z) h = by_tests (b == 10) (b == 34) (b == 92) (is_printable b) refl refl refl refl h
    (λ g. printable_read false (at + 1) n z g) (λ g. printable_read true (at + 1) n z g)
  where
    by_tests : (s d f p : Bool) → (b == 10) ≡ s → (b == 34) ≡ d → (b == 92) ≡ f → is_printable b ≡ p
        → cond s (Err OpenString) (cond d (Ok (at + 1)) (cond f (string_end true (at + 1) z) (cond p (string_end false (at + 1) z) (Err BadByte)))) ≡ Ok n
        → (string_end false (at + 1) z ≡ Ok n → list_all is_printable (unquoted_from false z) ≡ true)
        → (string_end true (at + 1) z ≡ Ok n → list_all is_printable (unquoted_from true z) ≡ true)
        → list_all is_printable (cond d [] (cond f (unquoted_from true z) (b ∷ unquoted_from false z))) ≡ true
    by_tests true d f p es ed ef ep h go escape = absurd cc
    by_tests false true f p es ed ef ep h go escape = refl
    by_tests false false true p es ed ef ep h go escape = escape h
    by_tests false false false true es ed ef ep h go escape = and_both (is_printable b) (list_all is_printable (unquoted_from false z)) ep (go h)
    by_tests false false false false es ed ef ep h go escape = absurd cc

pub quoted_again : (z : List ℕ) → IsQuoted z → IsQuoted (quoted_text (unquoted z))
unfolding quoted_text
quoted_again [] h = (refl, refl)
quoted_again (b ∷ z) h = (refl, ended (unquoted_from false z) 1 (printable_read false 1 (length (b ∷ z)) z h.1) ∙ ap (λ (i : ℕ). Ok i) (omega arith))
