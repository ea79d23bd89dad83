-- What words stand for: a gift of their kind, with more after each offer.
use Rattle.std.proofs.Common.{◌≡◌, ◌≢◌, ℕ, ◌+◌, ◌<◌, refl, sym, ap, ◌∙◌, arith, ℤ, pos, ◌%◌, ◌^◌}
use Rattle.std.specs.Int.{w64, cast_signed}
use Rattle.std.specs.Prelude.{FitsSigned}
use Rattle.std.proofs.lemmas.Int.{ints, clamps, wrapping_add_onto}
use Rattle.spd_words.specs.declared.finish_kind.FinishKind.{FinishKind}
use Rattle.spd_words.specs.declared.finish_kind.FinishKind.TheVariants.{Plain, Sum, Least, Greatest}
use Rattle.spd_words.specs.Gift.{join, identity}
use Rattle.spd_words.proofs.Joins.{join_assoc}
use Rattle.spd_debts.specs.Payments.{added_word, raised_word}
use Rattle.spd_debts.specs.Worth.{gift_of}

-- a gift that stands in a word is one of its kind
pub gift_lawful : (k : FinishKind) (w : ℕ) → w < 2 ^ 64 → join k (gift_of k w) (identity k) ≡ gift_of k w
gift_lawful Plain w h = refl
gift_lawful Sum w h = sym (wrapping_add_onto w64 w (pos 0) h (search arith)) ∙ ap (cast_signed w64) (let e : (w + 0) % 2 ^ 64 ≡ w = omega arith in e)
gift_lawful Least w h = omega (arith, ints, clamps)
gift_lawful Greatest w h = omega (arith, ints, clamps)

-- a word to which a value is put: by `add_sum`, and by `raise_best`, which is given the value as its word would count it
pub gift_added : (w : ℕ) (x : ℤ) → w < 2 ^ 64 → FitsSigned w64 x → gift_of Sum (added_word x w) ≡ join Sum (gift_of Sum w) x
gift_added w x h g = wrapping_add_onto w64 w x h g

pub gift_raised : (k : FinishKind) (w y : ℕ) → k ≢ Sum → gift_of k (raised_word y w) ≡ join k (gift_of k w) (gift_of k y)
gift_raised Plain w y n = refl
gift_raised Sum w y n = absurd (n refl)
gift_raised Least w y n = omega (arith, ints, clamps)
gift_raised Greatest w y n = omega (arith, ints, clamps)

-- the word counts x more, and x is owed less
pub takes_over : (k : FinishKind) (w n : ℕ) (x left owes : ℤ) → gift_of k n ≡ join k (gift_of k w) x → owes ≡ join k x left
    → join k (gift_of k n) left ≡ join k (gift_of k w) owes
takes_over k w n x left owes counts parts = ap (λ y. join k y left) counts ∙ join_assoc k (gift_of k w) x left ∙ ap (join k (gift_of k w)) (sym parts)

-- at the start nothing is there
pub gift_first : (k : FinishKind) → gift_of k 0 ≡ identity k
gift_first Plain = refl
gift_first Sum = refl
gift_first Least = refl
gift_first Greatest = refl
