-- When a share may offer a value or put the code of a fault, and which step does it.
use Rattle.std.specs.Prelude.{◌≡◌, ◌≢◌, ℕ, ℤ, Some, None, min, false}
use Rattle.spd_words.specs.Gift.{join}
use Rattle.spd_words.specs.Meaning.{Meaning, BodyView}
use Rattle.spd_words.specs.BodyCalls.{before_event}
use Rattle.spd_words.specs.declared.event.Event.{Event}
use Rattle.spd_words.specs.declared.event.Event.TheVariants.{Offer, Fault}
use Rattle.spd_words.specs.declared.finish_kind.FinishKind.{FinishKind}
use Rattle.spd_state.specs.Promises.{promised, owed_of}
use Rattle.spd_state.specs.Stages.{finish_in}
use Rattle.spd_state.specs.declared.view.Running.{Running}
use Rattle.spd_state.specs.declared.view.View.{View}
use Rattle.spd_debts.specs.Worth.{gift_of}
use Rattle.spd_rule.specs.Held.{StepUnderRule}
use Rattle.spd_rule.specs.Shares.{field_plan, share_view, share_known, offer_place, code_place}
use Rattle.spd_rule.specs.declared.field.Field.{Field}
use Rattle.spd_rule.specs.declared.field.Share.{Share}

-- The event is taken out of what the vertex owes, and what is left is told.
pub record TakesOut (v : View) (e : Event BodyView) (left : Meaning) : Type 0 where
  pub tame : left.wild ≡ false
  pub kind : left.kind ≡ v.kind
  pub owed : promised v.owes ≡ before_event v.kind e left.promise

-- It runs the vertex r with its right, and has no move in flight.
pub record MayGive (v : View) (r : Running) : Type 0 where
  pub running : v.running ≡ Some r
  pub right : r.right ≡ 1
  pub flight : v.flight ≡ None

-- A share that runs a wild body owes nothing.
pub record MayOffer (v : View) (kind : FinishKind) (value : ℤ) (left : Meaning) : Type 0 where
  pub runs : Running
  pub gives : MayGive v runs
  pub kinds : v.wild ≡ 0 → v.kind ≡ kind
  pub takes : v.wild ≡ 0 → TakesOut v (Offer value) left

-- The code 0 may be put whatever is owed.
pub record MayFault (v : View) (code : ℕ) (left : Meaning) : Type 0 where
  pub runs : Running
  pub gives : MayGive v runs
  pub takes : code ≢ 0 → v.wild ≡ 0 → TakesOut v (Fault code) left

-- the finish of the vertex that the share runs
abbrev pub own_finish : {B : Type 0} → Share B → ℕ
own_finish s = finish_in (share_view s).running

-- Of a vertex that isn't wild exactly what is told is still owed.
abbrev pub OwesOnly : Meaning → View → View → Type 0
OwesOnly left v w = v.wild ≡ 0 → w.owes ≡ owed_of left.promise

-- In one step under the rule the gift word of the finish took exactly this value more.
pub record PutsOffer {B : Type 0} (f : Field B) (kind : FinishKind) (value : ℤ) (finish : ℕ) (s t : Share B) : Type 0 where
  pub found : ℕ
  pub left : ℕ
  pub step : StepUnderRule (field_plan f) (offer_place f finish) found left (share_known s) (share_known t)
  pub counts : gift_of kind left ≡ join kind (gift_of kind found) value

-- In one step under the rule its fault word became the lesser of what it was and the code.
pub record PutsFault {B : Type 0} (f : Field B) (code finish : ℕ) (s t : Share B) : Type 0 where
  pub found : ℕ
  pub step : StepUnderRule (field_plan f) (code_place f finish) found (min found code) (share_known s) (share_known t)
