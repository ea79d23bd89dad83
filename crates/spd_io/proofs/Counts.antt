-- Counting the names whose reads failed.
use Rattle.std.proofs.Common.{◌≡◌, ◌≢◌, ℕ, ◌+◌, Bool, true, false, cond, Result, Ok, Err, List, [], ◌∷◌, ◌++◌, refl, sym, ◌∙◌, arith}
use Rattle.std.specs.Global.{Vec}
use Rattle.std.specs.Str.{bytes_eq}
use Rattle.std.proofs.lemmas.Slice.Eq.{bytes_eq-Decides}
use Rattle.std.proofs.lemmas.List.Sums.{sum_by-append}
use Rattle.spd_io.specs.Memory.{times_of, failed_after}
use Rattle.spd_io.specs.declared.shelf.ShelfFault.{ShelfFault}
use Rattle.spd_io.specs.declared.shelf.ShelfFault.TheVariants.{Failed, TooLong, NoMemory}

-- A name that joins is counted once more.
times_of-same : (failed : List (List ℕ)) (name : List ℕ) → times_of name (failed ++ name ∷ []) ≡ times_of name failed + 1
times_of-same failed name =
    let same : bytes_eq name name ≡ true = (bytes_eq-Decides name name).1 refl in
    sum_by-append (λ other. cond (bytes_eq other name) 1 0) failed (name ∷ []) ∙ rw same refl

-- The count of another name is as it was.
times_of-other : (failed : List (List ℕ)) (name other : List ℕ) → other ≢ name → times_of other (failed ++ name ∷ []) ≡ times_of other failed
times_of-other failed name other ne =
    let differ : bytes_eq name other ≡ false = not_true (bytes_eq name other) (λ h. ne (sym ((bytes_eq-Decides name other).0 h))) in
    sum_by-append (λ joined. cond (bytes_eq joined other) 1 0) failed (name ∷ []) ∙ rw differ (omega arith)
  where
    not_true : (b : Bool) → b ≢ true → b ≡ false
    not_true true h = absurd (h refl)
    not_true false h = refl

-- After a read that failed, its name is counted once more.
pub times_of-failed : (result : Result (Vec ℕ) ShelfFault) (failed : List (List ℕ)) (name : List ℕ) → result ≡ Err Failed
    → times_of name (failed_after result failed name) ≡ times_of name failed + 1
times_of-failed (Ok file) failed name e = absurd cc
times_of-failed (Err Failed) failed name e = times_of-same failed name
times_of-failed (Err TooLong) failed name e = absurd cc
times_of-failed (Err NoMemory) failed name e = absurd cc

-- After any read, the count of another name is as it was.
pub times_of-failed_other : (result : Result (Vec ℕ) ShelfFault) (failed : List (List ℕ)) (name other : List ℕ) → other ≢ name
    → times_of other (failed_after result failed name) ≡ times_of other failed
times_of-failed_other (Ok file) failed name other ne = refl
times_of-failed_other (Err Failed) failed name other ne = times_of-other failed name other ne
times_of-failed_other (Err TooLong) failed name other ne = refl
times_of-failed_other (Err NoMemory) failed name other ne = refl
