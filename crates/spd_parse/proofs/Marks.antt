-- A mark at the front of tokens.
use Rattle.std.proofs.Common.{◌≡◌, ℕ, Bool, true, false, List, [], ◌∷◌, Ok, Err, refl, ap, inl, inr, ◌⊎◌}
use Rattle.spd_syntax.specs.declared.token.Mark.{Mark}
use Rattle.spd_syntax.specs.declared.token.TokenKind.TheVariants as kind
use Rattle.spd_read.specs.declared.reading.StopKind.TheVariants.{Expected}
use Rattle.spd_syntax.specs.Tokens.{Symbol, name, number, lit, word, mark, Seen}
use Rattle.spd_syntax.specs.Symbols.{kind_of, same_kind}
use Rattle.spd_read.specs.Reading.{mark_at}
use Rattle.spd_syntax.proofs.KindSets.{same_kind-true, same_kind-same}

pub mark_here : (which : Mark) (l : ℕ) (r : List Seen) → mark_at which ((mark which, l) ∷ r) ≡ Ok (l, r)
mark_here which l r = rw (same_kind-same (kind.Mark which)) refl

is_mark : (which : Mark) (s : Symbol) → kind.Mark which ≡ kind_of s → s ≡ mark which
is_mark which (name t) e = absurd cc
is_mark which (number t) e = absurd cc
is_mark which (lit t) e = absurd cc
is_mark which (word other) e = absurd cc
is_mark which (mark other) e = cc

-- it stands there, or is expected there
pub mark_cases : (which : Mark) (ts : List Seen) → ((l : ℕ) × (r : List Seen) × (ts ≡ (mark which, l) ∷ r)) ⊎ (mark_at which ts ≡ Err (Expected, ts))
mark_cases which [] = inr refl
mark_cases which ((s, l) ∷ r) = by_test (same_kind (kind.Mark which) (kind_of s)) refl
  where
    by_test : (b : Bool) → same_kind (kind.Mark which) (kind_of s) ≡ b → ((l' : ℕ) × (r' : List Seen) × ((s, l) ∷ r ≡ (mark which, l') ∷ r'))
        ⊎ (mark_at which ((s, l) ∷ r) ≡ Err (Expected, (s, l) ∷ r))
    by_test true e = inl (l, r, ap (λ (x : Symbol). (x, l) ∷ r) (is_mark which s (same_kind-true (kind.Mark which) (kind_of s) e)))
    by_test false e = inr (rw e refl)
