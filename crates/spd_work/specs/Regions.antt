-- What a region gives, and the field that it leaves.
use Rattle.std.specs.Prelude.{◌≡◌, ◌+◌, min}
use Rattle.spd_words.specs.Meaning.{BodyView}
use Rattle.spd_words.specs.Plan.{PlanView}
use Rattle.spd_rule.specs.Closings.{EveryStarted, closed_plan, closed_words, drawn_moves}
use Rattle.spd_work.specs.declared.region_end.RegionEnd.{RegionEnd}

-- A region of this body ran in a field of this plan: it has what the body promises, every vertex of a drawn move was started, and the moves
-- that were drawn are those that the body promises and the region's own, as far as the plan has so many.
pub record IsRegion {B : Type 0} (plan : PlanView) (b : BodyView) (r : RegionEnd B) : Type 0 where
  pub gift : r.gift ≡ b.means.promise.gift
  pub fault : r.fault ≡ b.means.promise.fault
  pub of : closed_plan r.closed ≡ plan
  pub started : EveryStarted plan (closed_words r.closed)
  pub moves : drawn_moves plan (closed_words r.closed) ≡ min (b.means.promise.moves + 1) plan.moves
