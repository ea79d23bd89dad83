-- Pieces of one buffer: how many, one of them, and one more.
use Rattle.std.proofs.Common.{◌≡◌, ◌∙◌, sym, refl, ap, ap₂, ℕ, zero, suc, ◌+◌, ◌-◌, ◌≤◌, List, [], ◌∷◌, ◌++◌, length, take, drop, Option, Some, slice_get, arith}
use Rattle.std.proofs.Math.Seq.{drop-append_seam, take-length}
use Rattle.std.proofs.lemmas.List.{drop-append-le, length-drop, take-append-le}
use Rattle.spd_data.specs.Pieces.{pieces, AreEnds, BeginsAt}

some_same : (a b : ℕ) → ◌≡◌ {A = Option ℕ} (Some a) (Some b) → a ≡ b
some_same a b e = cc

pub length-pieces : (bytes : List ℕ) (start : ℕ) (ends : List ℕ) → length (pieces bytes start ends) ≡ length ends
length-pieces bytes start [] = refl
length-pieces bytes start (end ∷ ends) = ap suc (length-pieces bytes end ends)

pub none_without : (bytes : List ℕ) (start : ℕ) (ends : List ℕ) → (ends ≡ [] → pieces bytes start ends ≡ []) × (pieces bytes start ends ≡ [] → ends ≡ [])
none_without bytes start [] = (λ _. refl, λ _. refl)
none_without bytes start (end ∷ ends) = (λ is. grind arith, λ is. grind arith)

-- the piece of a number, from where it begins to where it ends
pub piece_of : (bytes : List ℕ) (first : ℕ) (ends : List ℕ) (number start end : ℕ) → slice_get ends number ≡ Some end → BeginsAt first ends number start
    → slice_get (pieces bytes first ends) number ≡ Some (take (end - start) (drop start bytes))
piece_of bytes first [] number start end e b = grind arith
piece_of bytes first (x ∷ ends) zero start end e b = ap Some (rw (some_same _ _ e, b) refl)
piece_of bytes first (x ∷ ends) (suc zero) start end e b = piece_of bytes x ends zero start end e (sym (some_same _ _ b))
piece_of bytes first (x ∷ ends) (suc (suc number)) start end e b = piece_of bytes x ends (suc number) start end e b

pub first_within : (first : ℕ) (ends : List ℕ) (last : ℕ) → AreEnds first ends last → first ≤ last
first_within first [] last are = omega (arith, are)
first_within first (x ∷ ends) last are = omega (arith, are.0, first_within x ends last are.1)

-- it lies within the bytes
pub piece_within : (first : ℕ) (ends : List ℕ) (last number start end : ℕ) → AreEnds first ends last → slice_get ends number ≡ Some end
    → BeginsAt first ends number start → (start ≤ end) × (end ≤ last)
piece_within first [] last number start end are e b = grind arith
piece_within first (x ∷ ends) last zero start end are e b = rw (b, ← some_same _ _ e) (are.0, first_within x ends last are.1)
piece_within first (x ∷ ends) last (suc zero) start end are e b = piece_within x ends last zero start end are.1 e (sym (some_same _ _ b))
piece_within first (x ∷ ends) last (suc (suc number)) start end are e b = piece_within x ends last (suc number) start end are.1 e b

-- one more end
pub ends_behind : (first : ℕ) (ends : List ℕ) (last end : ℕ) → AreEnds first ends last → last ≤ end → AreEnds first (ends ++ end ∷ []) end
ends_behind first [] last end are le = (omega (arith, are, le), refl)
ends_behind first (x ∷ ends) last end are le = (are.0, ends_behind x ends last end are.1 le)

-- one more piece
pub piece_behind : (bytes entry : List ℕ) (first : ℕ) (ends : List ℕ) (end : ℕ) → AreEnds first ends (length bytes) → end ≡ length bytes + length entry
    → pieces (bytes ++ entry) first (ends ++ end ∷ []) ≡ pieces bytes first ends ++ entry ∷ []
piece_behind bytes entry first [] end are is =
    ap (λ piece. piece ∷ []) (ap₂ (λ n (bs : List ℕ). take n bs) (omega (arith, are, is)) (rw are (drop-append_seam bytes entry)) ∙ take-length entry)
piece_behind bytes entry first (x ∷ ends) end are is =
    let to = first_within x ends (length bytes) are.1 in
    let same : drop first (bytes ++ entry) ≡ drop first bytes ++ entry = drop-append-le first bytes entry (omega (arith, are.0, to)) in
    ap₂ (λ (p : List ℕ) (ps : List (List ℕ)). p ∷ ps)
    (ap (λ (bs : List ℕ). take (x - first) bs) same
    ∙ take-append-le (x - first) (drop first bytes) entry (omega (arith, length-drop first bytes, to)))
    (piece_behind bytes entry x ends end are.1 is)
