-- What is known of all workers of a region.
use Rattle.std.specs.Prelude.{◌≡◌, ◌+◌, ◌*◌, ◌<◌, ℕ, List, [], ◌∷◌, length, slice_index_or, All, Option, None, Some}
use Rattle.spd_words.specs.Plan.{PlanView}
use Rattle.spd_words.specs.declared.finish_kind.FinishKind.{FinishKind}
use Rattle.spd_state.specs.declared.promise.Whole.{Whole}
use Rattle.spd_state.specs.declared.view.View.{View}
use Rattle.spd_rule.specs.Shares.{IsOf, share_view}
use Rattle.spd_rule.specs.declared.field.Field.{Field}
use Rattle.spd_rule.specs.declared.field.Share.{Share}
use Rattle.spd_work.specs.Hands.{Sits}
use Rattle.spd_work.specs.Runs.{Rests, Stays}
use Rattle.spd_work.specs.Workers.{EndsWell, WorkerRests}
use Rattle.spd_work.specs.declared.worker.Worker.{Worker}

abbrev pub seats_held : View → ℕ
seats_held v = v.seats + v.spare

-- the seats and the spare seats of all
abbrev pub all_seats : {B Q : Type 0} → List (Worker B Q) → ℕ
all_seats [] = 0
all_seats (w ∷ ws) = seats_held (share_view w.hands.share) + all_seats ws

-- ---- how they get their shares and handles

-- The handle has room for each vertex of the plan, and nothing was pushed to it.
pub record IsUnused {Q : Type 0} (room pushed : Q → ℕ) (p : PlanView) (ready : Q) : Type 0 where
  pub rooms : room ready ≡ 2 * p.moves
  pub none : pushed ready ≡ 0

-- The view of the share that made the region, from which so many were split.
pub record HasMade (n : ℕ) (v : View) : Type 0 where
  pub made : Whole
  pub carries : v.whole ≡ Some made
  pub keeps : made.wild ≡ 0
  pub rests : Rests v
  pub seats : v.seats ≡ 1
  pub spare : v.spare + n ≡ 63
  pub ready : v.ready ≡ 1

-- A worker that has run nothing yet, and whose share carries this.
pub record MayBegin {B Q : Type 0} (room pushed : Q → ℕ) (f : Field B) (whole : Option Whole) (w : Worker B Q) : Type 0 where
  pub sits : Sits room pushed f w.hands
  pub rests : Rests (share_view w.hands.share)
  pub carries : (share_view w.hands.share).whole ≡ whole
  pub ended : w.ended ≡ None

-- These workers have shares that were split from the one that made the region.
pub record Placing {B Q : Type 0} (room pushed : Q → ℕ) (f : Field B) (s : Share B) (ws : List (Worker B Q)) : Type 0 where
  pub of : IsOf f s
  pub made : HasMade (length ws) (share_view s)
  pub begin : All (MayBegin room pushed f (share_view s).whole) ws
  pub total : all_seats ws ≡ length ws

-- All shares are the workers'.
pub record ArePlaced {B Q : Type 0} (room pushed : Q → ℕ) (f : Field B) (whole : Option Whole) (ws : List (Worker B Q)) : Type 0 where
  pub begin : All (MayBegin room pushed f whole) ws
  pub total : all_seats ws ≡ 64

-- ---- how they run and leave

-- A worker ran, and rests again.
pub record HasWorked {B Q : Type 0} (room pushed : Q → ℕ) (f : Field B) (kind : FinishKind) (before after : Worker B Q) : Type 0 where
  pub works : WorkerRests room pushed f kind after
  pub stays : Stays (share_view before.hands.share) (share_view after.hands.share)

-- Two lists of one length, of which each two entries at one place are in this relation.
abbrev pub EachPair : {A : Type 0} → (A → A → Type 0) → List A → List A → Type 0
EachPair {A} P xs ys = (length ys ≡ length xs) × ((i : ℕ) (d : A) → i < length xs → P (slice_index_or xs i d) (slice_index_or ys i d))

-- A worker that is over. What it collected is right for what was given to the make.
pub record HasLeft {B Q : Type 0} (f : Field B) (made : Whole) (w : Worker B Q) : Type 0 where
  pub of : IsOf f w.hands.share
  pub rests : Rests (share_view w.hands.share)
  pub carries : (share_view w.hands.share).whole ≡ Some made
  pub ends : EndsWell (share_view w.hands.share) w.ended
