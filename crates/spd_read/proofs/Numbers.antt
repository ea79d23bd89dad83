-- Numbers by their digits.
use Rattle.std.proofs.Common.{◌≡◌, ℕ, ◌+◌, ◌-◌, ◌*◌, ◌≤◌, ◌<◌, List, [], ◌∷◌, false, leb, drop, get_or, length, arith, add-one, drop-cons, refl, sym, ◌∙◌}
use Rattle.std.proofs.lemmas.Bool.{lt-leb}
use Rattle.spd_syntax.specs.Symbols.{value_from, greatest_literal}

-- More digits make no smaller number.
pub value_from-grows : (n : ℕ) (z : List ℕ) → n ≤ value_from n z
value_from-grows n [] = omega arith
value_from-grows n (b ∷ z) = omega (arith, value_from-grows (n * 10 + (b - 48)) z)

-- the value so far with one more digit
pub value_from-drop : (n : ℕ) (z : List ℕ) (at : ℕ) → at < length z → value_from n (drop at z) ≡ value_from (n * 10 + (get_or z at 0 - 48)) (drop (at + 1) z)
value_from-drop n z at h = rw (add-one, drop-cons z at 0 h) refl

-- A number that is too great already is too great with more digits.
pub too_great : (n : ℕ) (z : List ℕ) (at v : ℕ) → at < length z → greatest_literal < n * 10 + (get_or z at 0 - 48) → value_from n (drop at z) ≡ v
    → leb v greatest_literal ≡ false
too_great n z at v h large e =
    let more : value_from (n * 10 + (get_or z at 0 - 48)) (drop (at + 1) z) ≡ v = sym (value_from-drop n z at h) ∙ e in
    lt-leb v greatest_literal (omega (arith, more, large, value_from-grows (n * 10 + (get_or z at 0 - 48)) (drop (at + 1) z)))
