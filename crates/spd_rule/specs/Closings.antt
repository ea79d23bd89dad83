-- The words of a field at its end.
use Rattle.std.specs.Prelude.{◌≡◌, ◌≢◌, ◌+◌, ◌*◌, ◌<◌, ℕ, List, min, slice_index}
use Rattle.std.specs.Mem.Slots.{slots_items}
use Rattle.spd_words.specs.Plan.{PlanView, vertex_place, fault_place}
use Rattle.spd_words.specs.Words.{vertex_of}
use Rattle.spd_state.specs.Sums.{sum_below}
use Rattle.spd_state.specs.Dag.{started}
use Rattle.spd_state.specs.declared.promise.Whole.{Whole}
use Rattle.spd_state.specs.declared.view.View.{View}
use Rattle.spd_rule.specs.Consequences.{EndsAllStarted}
use Rattle.spd_rule.specs.Held.{EndsUnderRule}
use Rattle.spd_rule.specs.Payments.{KnowsBooks}
use Rattle.spd_rule.specs.declared.field.Field.{Field}
use Rattle.spd_rule.specs.declared.field.Share.{Share}
use Rattle.spd_rule.specs.declared.closed.Closed.{Closed}

abbrev pub closed_words : {B : Type 0} → Closed B → List ℕ
closed_words closed = slots_items closed.table.words

abbrev pub closed_plan : {B : Type 0} → Closed B → PlanView
closed_plan closed = closed.plan

-- The field was closed by a share that had this view, and which alone held anything.
abbrev pub IsClosedBy : {B : Type 0} → Field B → Share B → Closed B → Type 0
IsClosedBy {B} field share closed = EndsUnderRule B field.plan (closed_words closed) share.seat.me.0

-- Once vertex 1 is ready or started in its words, every root is 0 and every other vertex of a drawn move is started.
abbrev pub ClosesAllStarted : {B : Type 0} → Closed B → Type 0
ClosesAllStarted closed = EndsAllStarted closed.plan (slots_items closed.table.words)

-- how many moves were drawn, the draws that found none left apart
abbrev pub drawn_moves : PlanView → List ℕ → ℕ
drawn_moves p words = min (slice_index words 0) p.moves

-- Every vertex of a drawn move was started.
abbrev pub EveryStarted : PlanView → List ℕ → Type 0
EveryStarted p words = (v : ℕ) → v < 2 * drawn_moves p words → (vertex_of (slice_index words (vertex_place p v))).state ≡ 3

-- A share that has the mark of the end closes a field whose vertices were all started.
abbrev pub ClosesStarted : {B : Type 0} → View → Closed B → Type 0
ClosesStarted v closed = 0 < v.done → EveryStarted closed.plan (slots_items closed.table.words)

-- how many vertices are started
abbrev pub started_vertices : PlanView → List ℕ → ℕ
started_vertices p words = sum_below (2 * p.moves) (λ v. started (vertex_of (slice_index words (vertex_place p v))).state)

-- So many starts are all that there were, by the words; at the end there were two for each drawn move.
pub record AreAllStarts (p : PlanView) (words : List ℕ) (starts done : ℕ) : Type 0 where
  pub all : starts ≡ started_vertices p words
  pub ended : 0 < done → starts ≡ 2 * drawn_moves p words

-- The starts of the share, its own and those of all that were joined into it, are the vertices that are started.
abbrev pub ClosesStarts : {B : Type 0} → View → Closed B → Type 0
ClosesStarts v closed = AreAllStarts closed.plan (slots_items closed.table.words) v.starts v.done

-- Where it carries a tame make, and the least code of finish 0 isn't 0, the drawn moves are those that were promised and the make's own, as
-- far as the plan has so many.
abbrev pub ClosesMoves : {B : Type 0} → View → Closed B → Type 0
ClosesMoves v closed = 0 < v.done → (w : Whole) → KnowsBooks v w → slice_index (slots_items closed.table.words) (fault_place closed.plan 0) ≢ 0
    → drawn_moves closed.plan (slots_items closed.table.words) ≡ min (w.owes.moves + 1) closed.plan.moves
