-- What a start leaves: a vertex that is new, the end, or a share that rests still.
use Rattle.std.proofs.Common.{◌≡◌, ◌≢◌, ℕ, ◌==◌, ◌≤◌, refl, sym, ap, ◌∙◌, subst, arith, Option, None, Some, Bool, true, cond, inl, inr}
use Prim.Native.Nat.{zero, suc}
use Rattle.spd_words.specs.Meaning.{BodyView, Meaning}
use Rattle.spd_words.specs.Words.{Vertex, vertex_of}
use Rattle.spd_state.specs.Dag.{not_end}
use Rattle.spd_state.specs.Tree.{top_in}
use Rattle.spd_state.specs.Shown.{note_ready}
use Rattle.spd_state.specs.Steps.{stepped, start_run, start_view}
use Rattle.spd_state.specs.declared.promise.Whole.{Whole}
use Rattle.spd_state.specs.declared.view.View.{View}
use Rattle.spd_rule.specs.Kept.{FitsStart}
use Rattle.spd_rule.specs.Payments.{KnowsBooks}
use Rattle.spd_rule.specs.Shares.{IsSame, share_view}
use Rattle.spd_rule.specs.declared.field.Field.{Field}
use Rattle.spd_rule.specs.declared.field.Share.{Share}
use Rattle.spd_vertex.specs.Starting.{GivesFit, Starting}
use Rattle.spd_vertex.specs.declared.starting.Start.{Start}
use Rattle.spd_vertex.specs.declared.starting.Start.TheVariants.{Ours, End, Taken}
use Rattle.spd_work.specs.Runs.{HoldsNothing, Rests, RunsNew, RunsTheEnd, Stays, Lasts}
use Rattle.spd_work.specs.Hands.{Sits}
use Rattle.spd_work.specs.declared.hands.Hands.{Hands}
use Rattle.spd_work.specs.Starts.{RunsStarted}

right_of : (i : ℕ) → i ≢ 1 → not_end i ≡ 1
right_of zero n = refl
right_of (suc zero) n = absurd (n refl)
right_of (suc (suc i)) n = refl

same_number : (n : ℕ) → (n == n) ≡ true
same_number n = grind arith

-- ---- a body

module _ (v : View) (i : ℕ) (x : Vertex) (rests : Rests v) where
  nothing_in : (m : Option Meaning) → HoldsNothing (start_view i x m (note_ready i x v))
  nothing_in m = record {
    flight = rests.nothing.flight;
    held = rests.nothing.held;
    claimed = rests.nothing.claimed;
    rooted = rests.nothing.rooted;
    above = rests.nothing.above;
    halves = rests.nothing.halves;
    sprout = rests.nothing.sprout;
    told = rests.nothing.told;
  }

  pub started_new : (b : BodyView) (w : Whole) → i ≢ 1 → KnowsBooks v w → FitsStart v i b →
      RunsNew (start_view i x (Some b.means) (note_ready i x v)) (start_run i x) i b
  started_new b w other knows fits = record {
    on = record {
      running = refl;
      other = other;
      right = right_of i other;
      nothing = nothing_in (Some b.means);
      knows = ap (λ (t : Bool). cond t (Some x.finish) (top_in x.inc v.known)) (same_number x.inc);
    };
    number = refl;
    well = rests.clear.well;
    keeps = ap (λ (t : Bool). cond t 1 0) (fits.tame w knows);
    kind = refl;
    expects = refl;
    odd = fits.waits w knows;
    stage = fits.fit.goes;
    tame = fits.fit.tame (fits.tame w knows);
    owed = refl;
  }

  pub started_end : i ≡ 1 → RunsTheEnd (start_view i x None (note_ready i x v)) (start_run i x)
  started_end one = record {
    running = refl;
    end = one;
    nothing = nothing_in None;
    clear = record { collected = refl; well = rests.clear.well };
  }

  pub start_lasts : (m : Option Meaning) → Lasts v (start_view i x m (note_ready i x v))
  start_lasts m = record { stays = record { whole = refl; seats = refl; spare = refl }; done = refl }

-- ---- no body

pub steps_rest : (v : View) → Rests v → Rests (stepped v)
steps_rest v rests = record {
  running = rests.running;
  slots = rests.slots;
  nothing = record {
    flight = rests.nothing.flight;
    held = rests.nothing.held;
    claimed = rests.nothing.claimed;
    rooted = rests.nothing.rooted;
    above = rests.nothing.above;
    halves = rests.nothing.halves;
    sprout = rests.nothing.sprout;
    told = rests.nothing.told;
  };
  clear = record { collected = rests.clear.collected; well = rests.clear.well };
}

pub steps_last : (v : View) → Lasts v (stepped v)
steps_last v = record { stays = record { whole = refl; seats = refl; spare = refl }; done = refl }

note_rests : (v : View) (i : ℕ) (x : Vertex) → Rests v → Rests (note_ready i x v)
note_rests v i x rests = record {
  running = rests.running;
  slots = rests.slots;
  nothing = record {
    flight = rests.nothing.flight;
    held = rests.nothing.held;
    claimed = rests.nothing.claimed;
    rooted = rests.nothing.rooted;
    above = rests.nothing.above;
    halves = rests.nothing.halves;
    sprout = rests.nothing.sprout;
    told = rests.nothing.told;
  };
  clear = record { collected = rests.clear.collected; well = rests.clear.well };
}

noted_lasts : (v : View) (i : ℕ) (x : Vertex) → Lasts v (stepped (note_ready i x v))
noted_lasts v i x = record { stays = record { whole = refl; seats = refl; spare = refl }; done = refl }

-- ---- what the call says of its share

-- what a start leaves of a share that rested: what it runs, what it keeps, and no more vertices ready
pub record StartLeaves {B : Type 0} (view : B → BodyView) (i : ℕ) (v u : View) (answer : Start B) : Type 0 where
  pub runs : RunsStarted view i u answer
  pub lasts : Lasts v u
  pub ready : u.ready ≡ v.ready

module _ {B : Type 0} (view : B → BodyView) (i : ℕ) (v : View) (rests : Rests v) where
  leaves_same : (u u' : View) (answer : Start B) → u ≡ u' → StartLeaves view i v u' answer → StartLeaves view i v u answer
  leaves_same u u' answer e l = subst (λ (z : View). StartLeaves view i v z answer) (sym e) l

  leaves_new : (w : Whole) (u : View) (x : Vertex) (b : B) → i ≢ 1 → KnowsBooks v w → FitsStart v i (view b) →
      u ≡ start_view i x (Some (view b).means) (note_ready i x v) → StartLeaves view i v u (Ours b)
  leaves_new w u x b other knows fits e = leaves_same u _ (Ours b) e record {
    runs = (start_run i x, started_new v i x rests (view b) w other knows fits);
    lasts = start_lasts v i x rests (Some (view b).means);
    ready = refl;
  }

  leaves_end : (u : View) (x : Vertex) → i ≡ 1 → u ≡ start_view i x None (note_ready i x v) → StartLeaves view i v u End
  leaves_end u x one e = leaves_same u _ End e record {
    runs = (start_run i x, started_end v i x rests one);
    lasts = start_lasts v i x rests None;
    ready = refl;
  }

  leaves_taken : (u : View) (state : ℕ) → u ≡ stepped v → StartLeaves view i v u (Taken state)
  leaves_taken u state e = leaves_same u (stepped v) (Taken state) e record { runs = steps_rest v rests; lasts = steps_last v; ready = refl }

  leaves_lost : (u : View) (state : ℕ) (x : Vertex) → u ≡ stepped (note_ready i x v) → StartLeaves view i v u (Taken state)
  leaves_lost u state x e = leaves_same u (stepped (note_ready i x v)) (Taken state) e record {
    runs = steps_rest (note_ready i x v) (note_rests v i x rests);
    lasts = noted_lasts v i x;
    ready = refl;
  }

pub start_leaves : {B : Type 0} (view : B → BodyView) (f : Field B) (i : ℕ) (s t : Share B) (w : Whole) (answer : Start B) →
    Rests (share_view s) → KnowsBooks (share_view s) w → Starting (λ b. (view b).means) f i s t answer → GivesFit view i s answer →
    StartLeaves view i (share_view s) (share_view t) answer
start_leaves view f i s t w (Ours b) rests knows (other, by) fit =
    leaves_new view i (share_view s) rests w (share_view t) (vertex_of by.found) b other knows fit (ap (λ k. k.0) by.known)
start_leaves view f i s t w End rests knows (one, by) fit =
    leaves_end view i (share_view s) rests (share_view t) (vertex_of by.found) one (ap (λ k. k.0) by.known)
start_leaves view f i s t w (Taken state) rests knows (other, inl by) fit =
    leaves_taken view i (share_view s) rests (share_view t) state (ap (λ k. k.0) by.known)
start_leaves view f i s t w (Taken state) rests knows (other, inr by) fit =
    leaves_lost view i (share_view s) rests (share_view t) state (vertex_of by.found) (ap (λ k. k.0) by.known)

-- ---- the handle is as it was

pub sits_still : {B Q : Type 0} (room pushed : Q → ℕ) (f : Field B) (h : Hands B Q) (t : Share B) → Sits room pushed f h → IsSame h.share t →
    Stays (share_view h.share) (share_view t) → (share_view t).ready ≡ (share_view h.share).ready → Sits room pushed f (record h { share = t })
sits_still room pushed f h t sits same stays ready = record {
  of = same.0 ∙ sits.of;
  made = sits.made;
  carries = stays.whole ∙ sits.carries;
  keeps = sits.keeps;
  rooms = sits.rooms;
  few = subst (λ n. pushed h.ready ≤ n) (sym ready) sits.few;
}
