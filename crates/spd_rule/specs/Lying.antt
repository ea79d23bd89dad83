-- What lies in a slot.
use Rattle.std.specs.Prelude.{◌≡◌, ◌⊎◌, ℕ, List}
use mathlib.Core.Option.{some}
use mathlib.Core.Option as maybe
use lib.ListN.{get_elem?}

-- It lies in the slot i, which is at home or among those that a share holds.
abbrev pub LiesIn : {S : Type 0} → ℕ → S → List (maybe.Option S) → List (ℕ × S) → Type 0
LiesIn i y homes held = (get_elem? homes i ≡ some (some y)) ⊎ ((j : ℕ) × (get_elem? held j ≡ some (i, y)))
