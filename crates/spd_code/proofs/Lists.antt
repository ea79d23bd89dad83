-- Maps over maps, and truths of two.
use Rattle.std.proofs.Common.{◌≡◌, List, [], ◌∷◌, refl, ap, true, false}
use Rattle.std.specs.Prelude.{map, Bool, ◌&&◌}

pub map_map : {A B C : Type 0} (f : A → B) (g : B → C) (xs : List A) → map g (map f xs) ≡ map (λ x. g (f x)) xs
map_map f g [] = refl
map_map f g (x ∷ xs) = ap (λ r. g (f x) ∷ r) (map_map f g xs)

pub true_both : (a b : Bool) → (a && b) ≡ true → (a ≡ true) × (b ≡ true)
true_both true b h = (refl, h)
true_both false b h = absurd (cc)

pub both_true : (a b : Bool) → a ≡ true → b ≡ true → (a && b) ≡ true
both_true true b h g = g
both_true false b h g = absurd (cc)
