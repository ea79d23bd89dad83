-- A body that came to an offer or a fault may pay it, and the view after is told by what is left.
use Rattle.std.proofs.Common.{◌≡◌, ◌≢◌, ℕ, ℤ, refl, sym, ◌∙◌, subst}
use Prim.Native.Nat.{zero, suc}
use Rattle.spd_words.specs.Meaning.{BodyView, Meaning}
use Rattle.spd_words.specs.declared.finish_kind.FinishKind.{FinishKind}
use Rattle.spd_words.specs.declared.event.Event.TheVariants as event
use Rattle.spd_state.specs.declared.view.Running.{Running}
use Rattle.spd_state.specs.declared.view.View.{View}
use Rattle.spd_debts.specs.Payments.{fault_view, lower_view}
use Rattle.spd_book.specs.Offers.{MayOffer, MayFault, MayGive}
use Rattle.spd_work.specs.Runs.{RunsOn, RunsCut}

pub may_give : (v : View) (r : Running) → RunsOn v r → MayGive v r
may_give v r on = record { running = on.running; right = on.right; flight = on.nothing.flight }

pub may_offer : (v : View) (r : Running) (k : FinishKind) (x : ℤ) (rest : BodyView) (left : Meaning) → left ≡ rest.means → k ≡ rest.means.kind →
    RunsCut v r (event.Offer x) rest → MayOffer v k x left
may_offer v r k x rest left told kinds runs = subst (MayOffer v k x) (sym told) record {
  runs = r;
  gives = may_give v r runs.on;
  kinds = λ _. sym runs.kind ∙ sym kinds;
  takes = λ _. record { tame = runs.tame.tame; kind = runs.kind; owed = runs.owed };
}

pub may_fault : (v : View) (r : Running) (c : ℕ) (rest : BodyView) (left : Meaning) → left ≡ rest.means →
    RunsCut v r (event.Fault c) rest → MayFault v c left
may_fault v r c rest left told runs = subst (MayFault v c) (sym told) record {
  runs = r;
  gives = may_give v r runs.on;
  takes = λ _ _. record { tame = runs.tame.tame; kind = runs.kind; owed = runs.owed };
}

-- the code isn't 0
pub lowered : (c left : ℕ) (v : View) → c ≢ 0 → lower_view c left v ≡ fault_view left v
lowered zero left v n = absurd (n refl)
lowered (suc c) left v n = refl
