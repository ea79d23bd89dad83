-- Workers of which some have worked: one alone, and then all.
use Rattle.std.proofs.Common.{◌<◌, ℕ, List, [], ◌∷◌, length, slice_index_or, slice_set, length-set, All, refl, arith}
use Prim.Native.Nat.{zero, suc}
use Rattle.spd_words.specs.declared.finish_kind.FinishKind.{FinishKind}
use Rattle.spd_rule.specs.declared.field.Field.{Field}
use Rattle.spd_work.specs.Crew.{EachPair, HasWorked}
use Rattle.spd_work.specs.Workers.{WorkerRests}
use Rattle.spd_work.specs.declared.worker.Worker.{Worker}

module _ {B Q : Type 0} (room pushed : Q → ℕ) (f : Field B) (kind : FinishKind) where
  -- A worker that rests has worked, if only a little.
  pub rests_worked : (w : Worker B Q) → WorkerRests room pushed f kind w → HasWorked room pushed f kind w w
  rests_worked w h = record { works = h; stays = record { whole = refl; seats = refl; spare = refl } }

  -- Those that have worked rest.
  pub worked_rest : (xs ys : List (Worker B Q)) → EachPair (HasWorked room pushed f kind) xs ys → All (WorkerRests room pushed f kind) ys
  worked_rest xs ys h i d l = let count = h.0 in (h.1 i d (omega arith)).works

  -- One of them has worked, and the others rest as they were.
  one_at : (xs : List (Worker B Q)) (k i : ℕ) (w d e : Worker B Q) → k < length xs → i < length xs → All (WorkerRests room pushed f kind) xs →
      HasWorked room pushed f kind (slice_index_or xs k e) w →
      HasWorked room pushed f kind (slice_index_or xs i d) (slice_index_or (slice_set xs k w) i d)
  one_at [] k i w d e a b h t = absurd (omega arith)
  one_at (x ∷ xs) zero zero w d e a b h t = t
  one_at (x ∷ xs) zero (suc i) w d e a b h t = rests_worked (slice_index_or xs i d) (h (suc i) d b)
  one_at (x ∷ xs) (suc k) zero w d e a b h t = rests_worked x (h 0 d b)
  one_at (x ∷ xs) (suc k) (suc i) w d e a b h t =
      one_at xs k i w d e (omega arith) (omega arith) (λ j c l. h (suc j) c (omega arith)) t

  pub one_worked : (xs : List (Worker B Q)) (k : ℕ) (w e : Worker B Q) → k < length xs → All (WorkerRests room pushed f kind) xs →
      HasWorked room pushed f kind (slice_index_or xs k e) w → EachPair (HasWorked room pushed f kind) xs (slice_set xs k w)
  one_worked xs k w e a h t = (length-set xs k w, λ i d b. one_at xs k i w d e a b h t)
