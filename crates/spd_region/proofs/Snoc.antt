-- The last element of a list.
use Rattle.std.proofs.Common.{◌≡◌, List, [], ◌∷◌, ◌++◌, reverse, refl, sym, ◌∙◌, ap}
use Rattle.std.proofs.lemmas.List.{reverse-append, reverse-reverse}

-- lists that are one longer are equal by their fronts and their last elements
pub snoc_injective : {A : Type 0} (xs ys : List A) (x y : A) → xs ++ x ∷ [] ≡ ys ++ y ∷ [] → (xs ≡ ys) × (x ≡ y)
snoc_injective xs ys x y e =
    let r : x ∷ reverse xs ≡ y ∷ reverse ys =
    sym (reverse-append xs (x ∷ [])) ∙ ap reverse e ∙ reverse-append ys (y ∷ []) in
    let h : reverse xs ≡ reverse ys = cc in
    (sym (reverse-reverse xs) ∙ ap reverse h ∙ reverse-reverse ys, cc)

-- a list that isn't empty has a last element
pub last_of : {A : Type 0} (x : A) (xs : List A) → (ys : List A) × (y : A) × (x ∷ xs ≡ ys ++ y ∷ [])
last_of x [] = ([], x, refl)
last_of x (z ∷ zs) = let h = last_of z zs in (x ∷ h.0, h.1, ap (λ l. x ∷ l) h.2)
