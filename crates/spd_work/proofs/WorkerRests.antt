-- A worker between two vertices: what it knows stays over each of them.
use Rattle.std.proofs.Common.{◌<◌, ◌*◌, ◌/◌, ℕ, sym, ◌∙◌, subst, arith, Option}
use Rattle.spd_words.specs.declared.finish_kind.FinishKind.{FinishKind}
use Rattle.spd_state.specs.declared.view.View.{View}
use Rattle.spd_rule.specs.Shares.{share_view}
use Rattle.spd_rule.specs.declared.field.Field.{Field}
use Rattle.spd_book.specs.declared.collecting.Collected.{Collected}
use Rattle.spd_work.specs.Hands.{Sits}
use Rattle.spd_work.specs.Runs.{Rests, Stays, Lasts}
use Rattle.spd_work.specs.Workers.{EndsWell, HasKind, WorkerRests}
use Rattle.spd_work.specs.declared.hands.Hands.{Hands}
use Rattle.spd_work.specs.declared.worker.Worker.{Worker}

pub then_stays : (v u x : View) → Stays v u → Stays u x → Stays v x
then_stays v u x a b = record { whole = b.whole ∙ a.whole; seats = b.seats ∙ a.seats; spare = b.spare ∙ a.spare }

pub then_lasts : (v u x : View) → Lasts v u → Lasts u x → Lasts v x
then_lasts v u x a b = record { stays = then_stays v u x a.stays b.stays; done = b.done ∙ a.done }

pub kind_stays : (v u : View) (k : FinishKind) → Stays v u → HasKind v k → HasKind u k
kind_stays v u k stays kinds w is = kinds w (sym stays.whole ∙ is)

ends_last : (v u : View) (e : Option Collected) → Lasts v u → EndsWell v e → EndsWell u e
ends_last v u e lasts ends = record {
  done = λ c is. subst (λ n. 0 < n) (sym lasts.done) (ends.done c is);
  gives = λ c is some w knows. ends.gives c is some w (sym lasts.stays.whole ∙ knows.0, knows.1);
}

pub works_on : {B Q : Type 0} (room pushed : Q → ℕ) (f : Field B) (k : FinishKind) (w : Worker B Q) (h : Hands B Q) → WorkerRests room pushed f k w →
    Sits room pushed f h → Lasts (share_view w.hands.share) (share_view h.share) → Rests (share_view h.share) → WorkerRests room pushed f k (record w { hands = h })
works_on room pushed f k w h works sits lasts rests = record {
  sits = sits;
  kinds = kind_stays (share_view w.hands.share) (share_view h.share) k lasts.stays works.kinds;
  rests = rests;
  ends = ends_last (share_view w.hands.share) (share_view h.share) w.ended lasts works.ends;
}

-- a number whose half is below the moves is a vertex's
pub half_inside : (i m : ℕ) → i / 2 < m → i < 2 * m
half_inside i m h = omega arith
