use Rattle.std.proofs.Common.{arith, ◌≡◌, ◌<◌, ◌-◌, ◌∙◌, ap, refl, ℕ, zero, suc, List, length, get_or, Some}
use Rattle.std.proofs.lemmas.Option.{slice_get-get_or}
use Rattle.spd_data.specs.Pieces.{BeginsAt}
use Rattle.spd_data.proofs.texts.begin_of.Goals as goal

behind : (ends : List ℕ) (number : ℕ) → (number ≡ 0 → ⊥) → number < length ends → BeginsAt 0 ends number (get_or ends (number - 1) 0)
behind ends zero some within = absurd (some refl)
behind ends (suc number) some within =
    slice_get-get_or ends number 0 (omega (arith, within)) ∙ ap (λ n. Some (get_or ends n 0)) (omega arith)

pub returns-then-number-eq0 : goal.returns-then-number-eq0
returns-then-number-eq0 c = rw c.if-number-eq0.true refl

pub returns : goal.returns
returns c = behind c.args.ends.now c.args.number c.if-number-eq0.false c.requires
