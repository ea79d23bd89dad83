-- The pieces of a lines file, one after another.
use Rattle.std.proofs.Common.{◌≡◌, ◌≢◌, ◌⊎◌, inl, inr, sym, refl, ap, ℕ, zero, suc, ◌+◌, ◌≤◌, ◌<◌, ◌==◌, Bool, true, false, not, List, [], ◌∷◌, ◌++◌, map, take, length, get_or, Option, None, Some, length-append, arith}
use Rattle.std.proofs.Math.Nat.{eq-or-lt_of_le}
use Rattle.std.proofs.Math.ListN.{drop_of_length-le}
use Rattle.std.specs.List.{All, position_or_len, slice_split, before_first, after_first}
use Rattle.std.proofs.lemmas.Bool.{lt-leb, ne_eqb}
use Rattle.std.proofs.lemmas.List.{take_all}
use Rattle.std.proofs.lemmas.List.Elements.{All-from_get_or}
use Rattle.std.proofs.lemmas.List.Sums.{fails_before_first, position_or_len_is, prefix_len-le-length}
use Rattle.std.proofs.lemmas.List.Splits.{length-slice_split, slice_split_first, slice_split_none}
use Rattle.std.specs.Option.{unwrap_or}
use Rattle.memchr.specs.Find.{IsFirstByte, is_byte}
use Rattle.spd_cols.specs.declared.fault.DataKind.TheVariants as kind
use Rattle.spd_cols.specs.Columns.{entries_of_lines, refused_at, lines_column_of, most_entries, without_cr, without_empty_last}

-- ---- one CR at the end

pub cr_dropped : (bytes : List ℕ) (n : ℕ) → length bytes ≡ suc n → get_or bytes n 0 ≡ 13 → take n bytes ≡ without_cr bytes
cr_dropped [] n long is = absurd (omega (arith, long))
cr_dropped (b ∷ []) zero long is = rw is refl
cr_dropped (b ∷ []) (suc n) long is = absurd (omega (arith, long))
cr_dropped (b ∷ c ∷ bytes) zero long is = absurd (omega (arith, long))
cr_dropped (b ∷ c ∷ bytes) (suc n) long is = ap (λ (z : List ℕ). b ∷ z) (cr_dropped (c ∷ bytes) n (omega (arith, long)) is)

pub cr_kept : (bytes : List ℕ) (n : ℕ) → length bytes ≡ suc n → get_or bytes n 0 ≢ 13 → bytes ≡ without_cr bytes
cr_kept [] n long other = refl
cr_kept (b ∷ []) zero long other = rw (ne_eqb b 13 other) refl
cr_kept (b ∷ []) (suc n) long other = absurd (omega (arith, long))
cr_kept (b ∷ c ∷ bytes) zero long other = absurd (omega (arith, long))
cr_kept (b ∷ c ∷ bytes) (suc n) long other = ap (λ (z : List ℕ). b ∷ z) (cr_kept (c ∷ bytes) n (omega (arith, long)) other)

-- ---- the first piece

abbrev is_lf : ℕ → Bool
is_lf b = b == 10

not_true : (b : Bool) → (b ≡ true → ⊥) → b ≡ false
not_true true h = absurd (h refl)
not_true false h = refl

pub first_lf : (bytes : List ℕ) (found : Option ℕ) → IsFirstByte (is_byte 10) bytes found → unwrap_or found (length bytes) ≡ position_or_len (λ b. b == 10) bytes
first_lf bytes None none = sym (position_or_len_is is_lf bytes (length bytes) 0 (omega arith) (λ k h. not_true _ (none k (omega arith) h)) (λ h. absurd (omega (arith, h))))
first_lf bytes (Some k) found =
    sym (position_or_len_is is_lf bytes k 0 (omega (arith, found.0.high)) (λ j h. not_true _ (found.0.before j (omega arith) h)) (λ _. found.1))

more_behind : (piece : List ℕ) (pieces : List (List ℕ)) → 0 < length pieces → without_empty_last (piece ∷ pieces) ≡ piece ∷ without_empty_last pieces
more_behind piece [] some = absurd (omega (arith, some))
more_behind [] (p ∷ pieces) some = refl
more_behind (b ∷ piece) (p ∷ pieces) some = refl

last_kept : (piece : List ℕ) → piece ≢ [] → without_empty_last (piece ∷ []) ≡ piece ∷ []
last_kept [] some = absurd (some refl)
last_kept (b ∷ piece) some = refl

by_place : (bytes : List ℕ) → bytes ≢ [] → (position_or_len is_lf bytes ≡ length bytes) ⊎ (position_or_len is_lf bytes < length bytes)
    → without_empty_last (slice_split is_lf bytes) ≡ before_first is_lf bytes ∷ without_empty_last (slice_split is_lf (after_first is_lf bytes))
by_place bytes some (inl none) =
    let all : All (λ b. is_lf b ≡ false) bytes = All-from_get_or (λ b. is_lf b ≡ false) bytes 0 (λ k h. fails_before_first is_lf bytes k 0 (omega (arith, none, h))) in
    let before : before_first is_lf bytes ≡ bytes = take_all _ bytes (omega (arith, none)) in
    let after : after_first is_lf bytes ≡ [] = drop_of_length-le bytes (omega (arith, none)) in
    rw (slice_split_none is_lf bytes all, before, after) (last_kept bytes some)
by_place bytes some (inr within) =
    let behind = after_first is_lf bytes in
    rw (slice_split_first is_lf bytes 0 within) (more_behind (before_first is_lf bytes) (slice_split is_lf behind) (omega (arith, length-slice_split is_lf behind)))

pub first_entry : (bytes : List ℕ) → bytes ≢ []
    → entries_of_lines bytes ≡ without_cr (before_first (λ b. b == 10) bytes) ∷ entries_of_lines (after_first (λ b. b == 10) bytes)
first_entry bytes some = ap (λ (pieces : List (List ℕ)). map without_cr pieces) (by_place bytes some (eq-or-lt_of_le (prefix_len-le-length (λ b. not (is_lf b)) bytes)))

-- ---- too many

pub too_many_lines : (file rest : List ℕ) (entries : List (List ℕ)) → entries_of_lines file ≡ entries ++ entries_of_lines rest → rest ≢ []
    → most_entries ≤ length entries → lines_column_of file ≡ refused_at (most_entries + 1) kind.TooMany
too_many_lines file rest entries so_far some many =
    let more : 0 < length (entries_of_lines rest) = rw (first_entry rest some) (omega arith) in
    let all : length (entries_of_lines file) ≡ length entries + length (entries_of_lines rest) = rw so_far (length-append entries (entries_of_lines rest)) in
    rw (lt-leb (length (entries_of_lines file)) most_entries (omega (arith, many, more, all))) refl
