-- What is known of a worker, over all vertices that it has run.
use Rattle.std.specs.Prelude.{ℕ, ◌≡◌, ◌≢◌, ◌<◌, Option, Some}
use Rattle.spd_words.specs.Meaning.{BodyView, Promise}
use Rattle.spd_words.specs.BodyCalls.{Resumes}
use Rattle.spd_words.specs.declared.finish_kind.FinishKind.{FinishKind}
use Rattle.spd_state.specs.declared.promise.Whole.{Whole}
use Rattle.spd_state.specs.declared.view.Running.{Running}
use Rattle.spd_state.specs.declared.view.View.{View}
use Rattle.spd_rule.specs.Payments.{KnowsBooks}
use Rattle.spd_book.specs.declared.collecting.Collected.{Collected}
use Rattle.spd_rule.specs.Shares.{share_view}
use Rattle.spd_rule.specs.declared.field.Field.{Field}
use Rattle.spd_work.specs.Hands.{Sits}
use Rattle.spd_work.specs.Runs.{Rests, RunsBody}
use Rattle.spd_work.specs.declared.worker.Worker.{Worker}

-- The finish of the region has this kind.
abbrev pub HasKind : View → FinishKind → Type 0
HasKind v kind = (w : Whole) → v.whole ≡ Some w → w.kind ≡ kind

-- Where it has collected the end, its share has the mark of the end, and what it collected is what was promised to the make, or the code 0.
pub record EndsWell (v : View) (ended : Option Collected) : Type 0 where
  pub done : (c : Collected) → ended ≡ Some c → 0 < v.done
  pub gives : (c : Collected) → ended ≡ Some c → c.fault ≢ 0 → (w : Whole) → KnowsBooks v w → (c.gift ≡ w.owes.gift) × (c.fault ≡ w.owes.fault)

-- Unless the code 0 was collected, whatever the body becomes that is resumed with it runs on.
abbrev pub MayResume : View → BodyView → Collected → Type 0
MayResume v b c = c.fault ≢ 0 → (after : BodyView) (from_there : Promise) → Resumes b after from_there c.gift c.fault
    → (r : Running) × RunsBody v r after

-- What holds of a worker between two vertices.
pub record WorkerRests {B Q : Type 0} (room pushed : Q → ℕ) (f : Field B) (kind : FinishKind) (w : Worker B Q) : Type 0 where
  pub sits : Sits room pushed f w.hands
  pub kinds : HasKind (share_view w.hands.share) kind
  pub rests : Rests (share_view w.hands.share)
  pub ends : EndsWell (share_view w.hands.share) w.ended
