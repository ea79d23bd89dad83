-- Records of a text: each read takes bytes, so that all of them are read, and no count of turns shows in the list.
use Rattle.std.proofs.Common.{◌≡◌, ◌∙◌, sym, refl, ap, ℕ, zero, suc, ◌+◌, ◌≤◌, ◌<◌, Bool, true, false, true≢false, if◌then◌else◌, List, [], ◌∷◌, ◌++◌, length, add-one, Option, None, Some, arith}
use Rattle.csv.specs.Machine.{Read, step, next_record, ends_at_end, is_end, fields_after, field_after}
use Rattle.csv.specs.Reading.{records_from, records_next, default_config}
use Rattle.csv.specs.declared.parser.State.{State}
use Rattle.csv.specs.declared.parser.State.TheVariants as st

-- Where a byte ends a record, the end of the text would end none.
end_rests : (s : State) (c : ℕ) → is_end (step default_config s c).1 ≡ true → ends_at_end (step default_config s c).0 ≡ false
end_rests st.StartRecord c e = grind arith
end_rests st.StartField c e = grind arith
end_rests st.InField c e = grind arith
end_rests st.InQuoted c e = grind arith
end_rests st.AfterQuote c e = grind arith
end_rests st.InEscape c e = grind arith
end_rests st.InComment c e = grind arith
end_rests st.AfterCr c e = grind arith

-- what a read leaves
pub record Leaves (bytes : List ℕ) (p : Read) : Type 0 where
  pub within : length p.2 ≤ length bytes
  pub rests : ends_at_end p.1 ≡ false

some_same : (a b : Read) → ◌≡◌ {A = Option Read} (Some a) (Some b) → a ≡ b
some_same a b e = grind arith

no_read : (p : Read) → ◌≡◌ {A = Option Read} None (Some p) → ⊥
no_read p e = grind arith

-- a read that comes of one of two
of_two : {A : Type 0} (b : Bool) (first : Read) (more : Option Read) (p : Read) → (b ≡ true → first ≡ p → A) → (b ≡ false → more ≡ Some p → A)
    → (if b then Some first else more) ≡ Some p → A
of_two true first more p f g e = f refl (some_same first p e)
of_two false first more p f g e = g refl e

next_leaves : (s : State) (fields : List (List ℕ)) (field bytes : List ℕ) (p : Read) → next_record default_config s fields field bytes ≡ Some p → Leaves bytes p
unfolding next_record
next_leaves s fields field [] p e = of_two (ends_at_end s) (fields ++ (field ∷ []), st.StartRecord, []) None p
    (λ is same. rw (← same) (record { within = omega arith; rests = refl })) (λ is none. absurd (no_read p none)) e
next_leaves s fields field (c ∷ rest) p e =
    let at = step default_config s c in
    of_two (is_end at.1) (fields_after at.1 fields field, at.0, rest)
    (next_record default_config at.0 (fields_after at.1 fields field) (field_after at.1 c field) rest) p
    (λ is same. rw (← same) (record { within = omega arith; rests = end_rests s c is }))
    (λ is more. let behind = next_leaves at.0 (fields_after at.1 fields field) (field_after at.1 c field) rest p more in
    record { within = omega (arith, behind.within); rests = behind.rests })
    e

-- a read from between two records takes a byte
pub next_shorter : (s : State) (bytes : List ℕ) (p : Read) → ends_at_end s ≡ false → next_record default_config s [] [] bytes ≡ Some p
    → (length p.2 < length bytes) × (ends_at_end p.1 ≡ false)
unfolding next_record
next_shorter s [] p r e = of_two (ends_at_end s) ([] ++ ([] ∷ []), st.StartRecord, []) None p (λ is same. absurd (true≢false (sym is ∙ r))) (λ is none. absurd (no_read p none)) e
next_shorter s (c ∷ rest) p r e =
    let at = step default_config s c in
    of_two (is_end at.1) (fields_after at.1 [] [], at.0, rest) (next_record default_config at.0 (fields_after at.1 [] []) (field_after at.1 c []) rest) p
    (λ is same. rw (← same) (omega arith, end_rests s c is))
    (λ is more. let behind = next_leaves at.0 (fields_after at.1 [] []) (field_after at.1 c []) rest p more in (omega (arith, behind.within), behind.rests))
    e

-- what comes behind a record that was read
next_same : (n m : ℕ) (s : State) (bytes : List ℕ) → ends_at_end s ≡ false → length bytes ≤ n → length bytes ≤ m
    → ((s : State) (left : List ℕ) → ends_at_end s ≡ false → length left < n → length left < m → records_from default_config n s left ≡ records_from default_config m s left)
    → (o : Option Read) → next_record default_config s [] [] bytes ≡ o
    → records_next (records_from default_config n) o ≡ records_next (records_from default_config m) o
next_same n m s bytes r a b same None e = refl
next_same n m s bytes r a b same (Some p) e =
    let shorter = next_shorter s bytes p r e in
    ap (λ (rows : List (List (List ℕ))). p.0 ∷ rows) (same p.1 p.2 shorter.1 (omega (arith, shorter.0, a)) (omega (arith, shorter.0, b)))

-- the count of turns doesn't show, where it is above the number of bytes
pub same_records : (n m : ℕ) (s : State) (bytes : List ℕ) → ends_at_end s ≡ false → length bytes < n → length bytes < m
    → records_from default_config n s bytes ≡ records_from default_config m s bytes
unfolding records_from
same_records zero m s bytes r a b = absurd (omega (arith, a))
same_records (suc n) zero s bytes r a b = absurd (omega (arith, b))
same_records (suc n) (suc m) s bytes r a b =
    next_same n m s bytes r (omega (arith, a)) (omega (arith, b)) (same_records n m) (next_record default_config s [] [] bytes) refl

-- the records of bytes from a state, in full
pub records_none : (s : State) (bytes : List ℕ) → next_record default_config s [] [] bytes ≡ None → records_from default_config (length bytes + 1) s bytes ≡ []
unfolding records_from
records_none s bytes e = rw (add-one, e) refl

pub records_one : (s : State) (bytes : List ℕ) (p : Read) → ends_at_end s ≡ false → next_record default_config s [] [] bytes ≡ Some p
    → records_from default_config (length bytes + 1) s bytes ≡ p.0 ∷ records_from default_config (length p.2 + 1) p.1 p.2
unfolding records_from
records_one s bytes p r e =
    let shorter = next_shorter s bytes p r e in
    rw (add-one, e) (ap (λ (rows : List (List (List ℕ))). p.0 ∷ rows) (same_records (length bytes) (length p.2 + 1) p.1 p.2 shorter.1 shorter.0 (omega arith)))
