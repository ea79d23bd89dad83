-- One worker more, with a share that is split off; and the last one, with the share that made the region.
use Rattle.std.proofs.Common.{arith, ◌≡◌, ◌+◌, ◌*◌, ◌<◌, ◌≤◌, ℕ, List, [], ◌∷◌}
use Rattle.std.proofs.Common.{◌++◌, false, length, All, refl, sym, ap, ◌∙◌, subst, Option, None, Some}
use Rattle.std.proofs.lemmas.List.{length-append}
use Rattle.std.proofs.lemmas.List.Elements.{All-append, All-cons, All-nil}
use Rattle.spd_state.specs.Seats.{given_view, kept_view}
use Rattle.spd_state.specs.declared.promise.Whole.{Whole}
use Rattle.spd_state.specs.declared.view.View.{View}
use Rattle.spd_rule.specs.Shares.{IsOf, IsSame, field_plan, share_bodies, share_known, share_view}
use Rattle.spd_rule.specs.declared.field.Field.{Field}
use Rattle.spd_rule.specs.declared.field.Share.{Share}
use Rattle.spd_work.specs.Crew.{ArePlaced, HasMade, IsUnused, MayBegin, Placing, all_seats, seats_held}
use Rattle.spd_work.specs.Runs.{Rests}
use Rattle.spd_work.specs.declared.worker.Worker.{Worker}
use Rattle.spd_work.proofs.Seatings.{seats_append}

all_one : {A : Type 0} (P : A → Type 0) (x : A) → P x → All P (x ∷ [])
all_one P x p = All-cons P x [] p (All-nil P)

all_added : {A : Type 0} (P : A → Type 0) (xs ys : List A) (x : A) → ys ≡ xs ++ x ∷ [] → All P xs → P x → All P ys
all_added P xs ys x e h p = subst (All P) (sym e) (All-append P xs (x ∷ []) h (all_one P x p))

pub one_more : {A : Type 0} (xs ys : List A) (x : A) → ys ≡ xs ++ x ∷ [] → length ys ≡ length xs + 1
one_more xs ys x e = ap length e ∙ length-append xs (x ∷ [])

given_rests : (v : View) → Rests (given_view v)
given_rests v = record {
  running = refl;
  slots = refl;
  nothing = record { flight = refl; held = refl; claimed = refl; rooted = refl; above = refl; halves = refl; sprout = refl; told = refl };
  clear = record { collected = refl; well = refl };
}

kept_rests : (v : View) → Rests v → Rests (kept_view v)
kept_rests v h = record {
  running = h.running;
  slots = h.slots;
  nothing = record {
    flight = h.nothing.flight;
    held = h.nothing.held;
    claimed = h.nothing.claimed;
    rooted = h.nothing.rooted;
    above = h.nothing.above;
    halves = h.nothing.halves;
    sprout = h.nothing.sprout;
    told = h.nothing.told;
  };
  clear = record { collected = h.clear.collected; well = h.clear.well };
}

kept_made : (v : View) (n : ℕ) → n < 63 → HasMade n v → HasMade (n + 1) (kept_view v)
kept_made v n few h = record {
  made = h.made;
  carries = h.carries;
  keeps = h.keeps;
  rests = kept_rests v h.rests;
  seats = h.seats;
  spare = let e = h.spare in omega arith;
  ready = h.ready;
}

abbrev pub new_worker : {B Q : Type 0} → Share B → Q → ℕ → Worker B Q
new_worker s ready number = record { hands = record { share = s; ready = ready; spawned = false }; number = number; ended = None }

module _ {B Q : Type 0} (room pushed : Q → ℕ) (f : Field B) where
  may_begin : (s : Share B) (ready : Q) (number : ℕ) (made : Whole) → IsOf f s → (share_view s).whole ≡ Some made → made.wild ≡ 0 →
      Rests (share_view s) → room ready ≡ 2 * (field_plan f).moves → pushed ready ≤ (share_view s).ready →
      MayBegin room pushed f (share_view s).whole (new_worker s ready number)
  may_begin s ready number made of carries keeps rests rooms few = record {
    sits = record { of = of; made = made; carries = carries; keeps = keeps; rooms = rooms; few = few };
    rests = rests;
    carries = refl;
    ended = refl;
  }

  pub none_placed : (s : Share B) (ws : List (Worker B Q)) → ws ≡ [] → IsOf f s → HasMade 0 (share_view s) → Placing room pushed f s ws
  none_placed s ws none of made = subst (Placing room pushed f s) (sym none)
      (record { of = of; made = made; begin = All-nil (MayBegin room pushed f (share_view s).whole); total = refl })

  module _ (s : Share B) (ready : Q) (number : ℕ) (ws after : List (Worker B Q)) (h : Placing room pushed f s ws)
      (unused : IsUnused room pushed (field_plan f) ready) where
    -- one share more was split off
    pub places_more : (t other : Share B) → length ws < 63 → IsSame s t → IsOf f other →
        share_known t ≡ (kept_view (share_view s), share_bodies s) → share_known other ≡ (given_view (share_view s), []) →
        after ≡ ws ++ new_worker other ready number ∷ [] → Placing room pushed f t after
    places_more t other few same of kept given adds =
        let kept_is : share_view t ≡ kept_view (share_view s) = ap (λ k. k.0) kept in
        let given_is : share_view other ≡ given_view (share_view s) = ap (λ k. k.0) given in
        let made = h.made in
        let theirs : (share_view other).whole ≡ (share_view s).whole = ap (λ (v : View). v.whole) given_is in
        let ours : (share_view t).whole ≡ (share_view s).whole = ap (λ (v : View). v.whole) kept_is in
        let none = unused.none in
        let begins = may_begin other ready number made.made of (theirs ∙ made.carries) made.keeps
        (subst Rests (sym given_is) (given_rests (share_view s))) unused.rooms (omega arith) in
        let one : seats_held (share_view other) ≡ 1 = ap seats_held given_is in
        let sum = seats_append ws (new_worker other ready number ∷ []) in
        let sums : all_seats after ≡ all_seats (ws ++ new_worker other ready number ∷ []) = ap all_seats adds in
        let count = one_more ws after (new_worker other ready number) adds in
        let total = h.total in
        record {
          of = same.0 ∙ h.of;
          made = subst (λ (n : ℕ). HasMade n (share_view t)) (sym count)
              (subst (HasMade (length ws + 1)) (sym kept_is) (kept_made (share_view s) (length ws) few made));
          begin = subst (λ (o : Option Whole). All (MayBegin room pushed f o) after) (sym ours)
              (all_added (MayBegin room pushed f (share_view s).whole) ws after (new_worker other ready number) adds h.begin
              (subst (λ (o : Option Whole). MayBegin room pushed f o (new_worker other ready number)) theirs begins));
          total = omega arith;
        }

    -- the share that made the region is the last one
    pub places_all : (once : Q) → room once ≡ room ready → pushed once ≡ pushed ready + 1 → after ≡ ws ++ new_worker s once number ∷ [] →
        ArePlaced room pushed f (share_view s).whole after
    places_all once rooms more adds =
        let made = h.made in
        let none = unused.none in
        let one = made.ready in
        let seats = made.seats in
        let spare = made.spare in
        let total = h.total in
        let begins = may_begin s once number made.made h.of made.carries made.keeps made.rests (rooms ∙ unused.rooms) (omega arith) in
        let sum = seats_append ws (new_worker s once number ∷ []) in
        let sums : all_seats after ≡ all_seats (ws ++ new_worker s once number ∷ []) = ap all_seats adds in
        record {
          begin = all_added (MayBegin room pushed f (share_view s).whole) ws after (new_worker s once number) adds h.begin begins;
          total = omega arith;
        }
