-- The steps of a dag: a turn, the run of one vertex, an event, the close of a finish; and when each may come.
use Rattle.std.specs.Prelude.{◌≡◌, ℕ, ◌+◌, ◌<◌, Option, None, Some}
use Rattle.spd_words.specs.Total.{Total, settle, ended}
use Rattle.spd_words.specs.Meaning.{BodyView}
use Rattle.spd_words.specs.BodyCalls.{StaysTame, Advances, event_seen, part_seen}
use Rattle.spd_words.specs.declared.finish_kind.FinishKind.{FinishKind}
use Rattle.spd_words.specs.declared.event.Event.{Event}
use Rattle.spd_words.specs.declared.event.Event.TheVariants as event
use Rattle.spd_words.specs.declared.event.Part.{Part}
use Rattle.spd_words.specs.declared.event.Part.TheVariants as part
use Rattle.spd_region.specs.declared.region.Region.{Region}
use Rattle.spd_region.specs.declared.dag.Dag.{Dag}
use Rattle.spd_region.specs.Dag.{DagView, dag_view, forked, opened, dag_size, DagRuns, DagAtRest, DagAtEnd, DagDraws}

-- Less than `bound` is left to run and the outermost finish will have `top` with `all` moves, or it has ended so.
abbrev pub DagOutcome : DagView → Total → ℕ → ℕ → Option Region → Type 0
DagOutcome t top all bound None = DagAtRest t top × DagDraws t 0 all × (dag_size t < bound)
DagOutcome t top all bound (Some region) = (ended region.given ≡ settle top) × (region.moves ≡ all)

-- One vertex was run up to its next event.
abbrev pub DagTurn : DagView → DagView → Option Region → Type 0
DagTurn old new region =
    (top : Total) (all : ℕ) → DagAtRest old top → DagDraws old 0 all → DagOutcome new top all (dag_size old) region

-- This vertex was run up to its next event.
abbrev pub DagPlay : DagView → BodyView → DagView → Option Region → Type 0
DagPlay old v new region =
    (top : Total) (all : ℕ) → DagRuns old v top → DagDraws old v.means.promise.moves all
    → DagOutcome new top all (dag_size old + v.size + 1) region

-- Some vertex came to this event, after which u is left of it.
abbrev pub DagEvent : DagView → BodyView → Event BodyView → DagView → Option Region → Type 0
DagEvent old u event new region =
    (v : BodyView) → Advances v u event → StaysTame v u event → DagPlay old v new region

-- Some vertex has ended, whatever is left of it.
abbrev pub DagVertexEnd : DagView → DagView → Option Region → Type 0
DagVertexEnd old new region = (u : BodyView) → DagEvent old u event.Over new region

-- The innermost finish has ended, and the vertex that waits for it goes on.
abbrev pub DagClose : DagView → DagView → Option Region → Type 0
DagClose old new region =
    (top : Total) (all : ℕ) → DagAtEnd old top → DagDraws old 0 all → DagOutcome new top all (dag_size old + 1) region

-- ---- states in which the steps may come

abbrev pub MayTurn : DagView → Type 0
MayTurn t = (top : Total) × DagAtRest t top

abbrev pub MayPlay : DagView → BodyView → Type 0
MayPlay t v = (top : Total) × DagRuns t v top

abbrev pub MayMeet : DagView → BodyView → Event BodyView → Type 0
MayMeet t u event = (v : BodyView) × Advances v u event × StaysTame v u event × MayPlay t v

abbrev pub MayEnd : DagView → Type 0
MayEnd t = (u : BodyView) × MayMeet t u event.Over

abbrev pub MayClose : DagView → Type 0
MayClose t = (top : Total) × DagAtEnd t top

-- ---- the same with bodies

abbrev pub PlaysVertex : {B : Type 0} → (B → BodyView) → Dag B → B → Dag B → Option Region → Type 0
PlaysVertex view old vertex new region = DagPlay (dag_view view old) (view vertex) (dag_view view new) region

abbrev pub TakesEvent : {B : Type 0} → (B → BodyView) → Dag B → B → Event B → Dag B → Option Region → Type 0
TakesEvent view old rest event new region =
    DagEvent (dag_view view old) (view rest) (event_seen view event) (dag_view view new) region

-- the event that carries this part
abbrev pub event_of : {B : Type 0} → Part B → Event B
event_of (part.Async b) = event.Async b
event_of (part.Finish k b) = event.Finish k b

abbrev pub TakesPart : {B : Type 0} → (B → BodyView) → Dag B → B → Part B → Dag B → Type 0
TakesPart view old rest p new =
    DagEvent (dag_view view old) (view rest) (event_of (part_seen view p)) (dag_view view new) None

abbrev pub MayTakePart : {B : Type 0} → (B → BodyView) → Dag B → B → Part B → Type 0
MayTakePart view dag rest p = MayMeet (dag_view view dag) (view rest) (event_of (part_seen view p))

abbrev pub IsForked : {B : Type 0} → (B → BodyView) → Dag B → B → B → Dag B → Type 0
IsForked view old rest child new = dag_view view new ≡ forked (dag_view view old) (view rest) (view child)

abbrev pub IsOpened : {B : Type 0} → (B → BodyView) → Dag B → B → FinishKind → B → Dag B → Type 0
IsOpened view old rest kind child new =
    dag_view view new ≡ opened (dag_view view old) (view rest) kind (view child)
