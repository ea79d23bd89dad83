-- The seats of all workers: of one more, of one less, and after a run.
use Rattle.std.proofs.Common.{arith, ◌≡◌, ◌+◌, ◌<◌, ℕ, suc, List, [], ◌∷◌, ◌++◌, length, slice_index_or, refl, ap}
use Rattle.spd_words.specs.declared.finish_kind.FinishKind.{FinishKind}
use Rattle.spd_rule.specs.Shares.{share_view}
use Rattle.spd_rule.specs.declared.field.Field.{Field}
use Rattle.spd_work.specs.Crew.{EachPair, HasWorked, all_seats, seats_held}
use Rattle.spd_work.specs.declared.worker.Worker.{Worker}

pub seats_append : {B Q : Type 0} (xs ys : List (Worker B Q)) → all_seats (xs ++ ys) ≡ all_seats xs + all_seats ys
seats_append [] ys = omega arith
seats_append (x ∷ xs) ys = let h = seats_append xs ys in omega arith

-- one worker less at the end
pub seats_pop : {B Q : Type 0} (xs ys : List (Worker B Q)) (w : Worker B Q) → xs ≡ ys ++ w ∷ [] →
    all_seats xs ≡ seats_held (share_view w.hands.share) + all_seats ys
seats_pop xs ys w e = let h = seats_append ys (w ∷ []) in let t = ap all_seats e in omega arith

seats_same : {B Q : Type 0} (xs ys : List (Worker B Q)) → length ys ≡ length xs →
    ((i : ℕ) (d : Worker B Q) → i < length xs →
    seats_held (share_view (slice_index_or ys i d).hands.share) ≡ seats_held (share_view (slice_index_or xs i d).hands.share)) →
    all_seats ys ≡ all_seats xs
seats_same [] [] l h = refl
seats_same [] (y ∷ ys) l h = absurd (omega arith)
seats_same (x ∷ xs) [] l h = absurd (omega arith)
seats_same (x ∷ xs) (y ∷ ys) l h =
    let first : seats_held (share_view y.hands.share) ≡ seats_held (share_view x.hands.share) = h 0 x (omega arith) in
    let others = seats_same xs ys (omega arith) (λ i d b. h (suc i) d (omega arith)) in
    omega arith

-- Workers keep their seats.
pub seats_worked : {B Q : Type 0} (room pushed : Q → ℕ) (f : Field B) (kind : FinishKind) (xs ys : List (Worker B Q)) →
    EachPair (HasWorked room pushed f kind) xs ys → all_seats ys ≡ all_seats xs
seats_worked room pushed f kind xs ys h =
    seats_same xs ys h.0 (λ i d b. let k = (h.1 i d b).stays in let seats = k.seats in let spare = k.spare in omega arith)
