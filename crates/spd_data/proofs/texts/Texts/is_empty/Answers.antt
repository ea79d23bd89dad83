use Rattle.std.proofs.Common.{arith, Bool, ◌==◌, ◌≡◌, ◌∙◌, ◌↔◌, ℕ, List, [], ◌∷◌, ap, length, IsTrue}
use Rattle.spd_data.proofs.Pieces.{none_without}
use Rattle.spd_data.proofs.texts.Texts.is_empty.Goals as goal

without : (b : Bool) (xs : List ℕ) → b ≡ (length xs == 0) → IsTrue b ↔ (xs ≡ [])
without b [] e = grind arith
without b (x ∷ xs) e = grind arith

pub returns : goal.returns
returns c =
    let own = without _ c.self.inside.ends.items (c.is_empty.ensures ∙ ap (λ (xs : List ℕ). length xs == 0) c.as_slice.ensures.value) in
    let none = none_without c.self.inside.bytes.items 0 c.self.inside.ends.items in
    rw (← c.self.view_is) (λ is. none.0 (own.0 is), λ is. own.1 (none.1 is))
