-- What is known of a worker's share and handle between two calls.
use Rattle.std.specs.Prelude.{◌≡◌, ◌*◌, ◌≤◌, ℕ, Some}
use Rattle.spd_state.specs.declared.promise.Whole.{Whole}
use Rattle.spd_rule.specs.Shares.{IsOf, field_plan, share_view}
use Rattle.spd_rule.specs.declared.field.Field.{Field}
use Rattle.spd_work.specs.declared.hands.Hands.{Hands}

-- The share is one of a field that keeps books, and the handle has room for each vertex that the share may make ready.
pub record Sits {B Q : Type 0} (room pushed : Q → ℕ) (f : Field B) (h : Hands B Q) : Type 0 where
  pub of : IsOf f h.share
  pub made : Whole
  pub carries : (share_view h.share).whole ≡ Some made
  pub keeps : made.wild ≡ 0
  pub rooms : room h.ready ≡ 2 * (field_plan f).moves
  pub few : pushed h.ready ≤ (share_view h.share).ready
