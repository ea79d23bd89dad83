-- Digits that stand for too great a number.
use Rattle.std.proofs.Common.{◌≡◌, ◌∙◌, sym, refl, ℕ, ◌+◌, ◌-◌, ◌*◌, ◌≤◌, ◌<◌, Bool, true, false, ◌&&◌, if◌then◌else◌, List, [], ◌∷◌, drop, get_or, length, Option, None, arith, add-one, drop-cons}
use Rattle.std.proofs.lemmas.Bool.{lt-leb}
use Rattle.spd_syntax.specs.Symbols.{value_from}
use Rattle.spd_cols.specs.Values.{magnitude}

-- more digits make no smaller number
value_from-grows : (n : ℕ) (z : List ℕ) → n ≤ value_from n z
value_from-grows n [] = omega arith
value_from-grows n (b ∷ z) = omega (arith, value_from-grows (n * 10 + (b - 48)) z)

none_unless_both : (a b : Bool) (value : Option ℕ) → b ≡ false → (if a && b then value else None) ≡ None
none_unless_both true b value e = rw e refl
none_unless_both false b value e = refl

none_above : (most : ℕ) (z : List ℕ) → most < value_from 0 z → magnitude most z ≡ None
none_above most [] above = refl
none_above most (b ∷ z) above = none_unless_both _ _ _ (lt-leb (value_from 0 (b ∷ z)) most above)

-- a number that is too great already, with one more digit
pub too_great : (most n : ℕ) (z : List ℕ) (at : ℕ) → at < length z → most < n * 10 + (get_or z at 0 - 48)
    → value_from n (drop at z) ≡ value_from 0 z → magnitude most z ≡ None
too_great most n z at h above is =
    let more : value_from (n * 10 + (get_or z at 0 - 48)) (drop (at + 1) z) ≡ value_from 0 z = sym (rw (add-one, drop-cons z at 0 h) refl) ∙ is in
    none_above most z (omega (arith, more, above, value_from-grows (n * 10 + (get_or z at 0 - 48)) (drop (at + 1) z)))
