-- Arguments that are gathered one after another.
use Rattle.std.proofs.Common.{◌≡◌, ℕ, ◌+◌, suc, List, [], ◌∷◌, ◌++◌, take, get_or, slice_get, Option, Some, None, IfSome, sym, ap, ◌∙◌, arith, take-suc}
use Rattle.std.proofs.lemmas.Option.{slice_get_within, get_or_from_slice_get}

-- Those before a number and the one of the number are those before the next.
pub with_next : (told : Option (List (List ℕ))) (all : List (List ℕ)) (number : ℕ) (argument : List ℕ) → IfSome told (λ t. all ≡ take number t)
    → IfSome told (λ t. Some argument ≡ slice_get t number) → IfSome told (λ t. all ++ argument ∷ [] ≡ take (number + 1) t)
with_next None all number argument before at = tt
with_next (Some t) all number argument before at =
    let next : number + 1 ≡ suc number = omega arith in
    let there : get_or t number argument ≡ argument = get_or_from_slice_get t number argument argument (sym at) in
    ap (λ (z : List (List ℕ)). z ++ argument ∷ []) before
    ∙ ap (λ (x : List ℕ). take number t ++ x ∷ []) (sym there)
    ∙ sym (ap (λ n. take n t) next ∙ take-suc t number argument (slice_get_within t number argument (sym at)))
