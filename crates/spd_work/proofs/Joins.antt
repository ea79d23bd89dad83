-- Workers that are over, and what is left of their shares once one more is joined.
use Rattle.std.proofs.Common.{arith, ◌≡◌, ◌+◌, ℕ, List, [], ◌∷◌, ◌++◌, All, sym, ap, ◌∙◌, Option, None, Some}
use Rattle.std.proofs.lemmas.List.Elements.{All-pop}
use Rattle.spd_words.specs.Meaning.{Meaning}
use Rattle.spd_words.specs.declared.finish_kind.FinishKind.{FinishKind}
use Rattle.spd_state.specs.Promises.{whole_of}
use Rattle.spd_state.specs.Seats.{IsEmpty, first_of, joined_view}
use Rattle.spd_state.specs.declared.promise.Whole.{Whole}
use Rattle.spd_state.specs.declared.view.View.{View}
use Rattle.spd_rule.specs.Shares.{IsOf, share_view}
use Rattle.spd_rule.specs.declared.field.Field.{Field}
use Rattle.spd_book.specs.declared.collecting.Collected.{Collected}
use Rattle.spd_work.specs.Crew.{EachPair, HasLeft, HasWorked, MayBegin, all_seats, seats_held}
use Rattle.spd_work.specs.Runs.{Rests}
use Rattle.spd_work.specs.Workers.{EndsWell, WorkerRests}
use Rattle.spd_work.specs.declared.worker.Worker.{Worker}
use Rattle.spd_work.proofs.Makings.{kind_of_whole}
use Rattle.spd_work.proofs.Seatings.{seats_pop}

nothing_ended : (v : View) (e : Option Collected) → e ≡ None → EndsWell v e
nothing_ended v e none = record { done = λ c is. absurd (cc); gives = λ c is. absurd (cc) }

-- A worker that may begin rests, where its share carries the make of a body that means this.
begins_rests : {B Q : Type 0} (room pushed : Q → ℕ) (f : Field B) (kind : FinishKind) (m : Meaning) (o : Option Whole) → m.kind ≡ kind →
    o ≡ Some (whole_of m) → (w : Worker B Q) → MayBegin room pushed f o w → WorkerRests room pushed f kind w
begins_rests room pushed f kind m o k is w h = record {
  sits = h.sits;
  kinds = kind_of_whole (share_view w.hands.share) m kind k (h.carries ∙ is);
  rests = h.rests;
  ends = nothing_ended (share_view w.hands.share) w.ended h.ended;
}

pub all_rest : {B Q : Type 0} (room pushed : Q → ℕ) (f : Field B) (kind : FinishKind) (m : Meaning) (o : Option Whole) → m.kind ≡ kind →
    o ≡ Some (whole_of m) → (ws : List (Worker B Q)) → All (MayBegin room pushed f o) ws → All (WorkerRests room pushed f kind) ws
all_rest room pushed f kind m o k is ws h i d l = begins_rests room pushed f kind m o k is _ (h i d l)

-- and once they have worked, they are over
pub all_left : {B Q : Type 0} (room pushed : Q → ℕ) (f : Field B) (kind : FinishKind) (made : Whole) (o : Option Whole) → o ≡ Some made →
    (xs ys : List (Worker B Q)) → All (MayBegin room pushed f o) xs → EachPair (HasWorked room pushed f kind) xs ys → All (HasLeft f made) ys
all_left room pushed f kind made o is xs ys begin worked i d l =
    let count = worked.0 in
    let k = worked.1 i d (omega arith) in
    record {
      of = k.works.sits.of;
      rests = k.works.rests;
      carries = k.stays.whole ∙ (begin i d (omega arith)).carries ∙ is;
      ends = k.works.ends;
    }

-- ---- joining

pub rests_empty : (v : View) → Rests v → IsEmpty v
rests_empty v h = record {
  running = h.running;
  flight = h.nothing.flight;
  held = h.nothing.held;
  claimed = h.nothing.claimed;
  rooted = h.nothing.rooted;
  above = h.nothing.above;
  halves = h.nothing.halves;
  sprout = h.nothing.sprout;
  told = h.nothing.told;
  slots = h.slots;
}

-- what is left of all workers but the last
pub gather_begins : {B Q : Type 0} (f : Field B) (xs ys : List (Worker B Q)) (w : Worker B Q) → xs ≡ ys ++ w ∷ [] → (made : Whole) →
    All (HasLeft f made) xs → all_seats xs ≡ 64 →
    IsOf f w.hands.share × EndsWell (share_view w.hands.share) w.ended × (seats_held (share_view w.hands.share) + all_seats ys ≡ 64)
    × ((x : Whole) → All (HasLeft f x) xs → ((share_view w.hands.share).whole ≡ Some x) × All (HasLeft f x) ys)
gather_begins {B} {Q} f xs ys w e made all total =
    let two = All-pop (HasLeft {B = B} {Q = Q} f made) xs ys (Some w) e all in
    let h = seats_pop xs ys w e in
    (two.1.of, two.1.ends, omega arith, λ x every. let t = All-pop (HasLeft {B = B} {Q = Q} f x) xs ys (Some w) e every in (t.1.carries, t.0))

module _ (v u : View) (made : Whole) (ours : v.whole ≡ Some made) where
  pub joined_carries : (joined_view v u).whole ≡ v.whole
  joined_carries = ap (λ (o : Option Whole). first_of o u.whole) ours ∙ sym ours

  pub ends_ours : (e : Option Collected) → EndsWell v e → EndsWell (joined_view v u) e
  ends_ours e h = record {
    done = λ c is. let d = h.done c is in omega arith;
    gives = λ c is some w knows. h.gives c is some w (sym joined_carries ∙ knows.0, knows.1);
  }

  pub ends_theirs : (e : Option Collected) → u.whole ≡ Some made → EndsWell u e → EndsWell (joined_view v u) e
  ends_theirs e other h = record {
    done = λ c is. let d = h.done c is in omega arith;
    gives = λ c is some w knows. h.gives c is some w (other ∙ sym ours ∙ sym joined_carries ∙ knows.0, knows.1);
  }
