-- What a worker's share has in hand between two calls, and what it runs.
use Rattle.std.specs.Prelude.{◌≡◌, ◌≢◌, ◌+◌, ◌*◌, ℕ, [], None, Some}
use Rattle.spd_words.specs.Meaning.{Awaited, BodyView, Going, IsTame}
use Rattle.spd_words.specs.BodyCalls.{CarriesReady, CarriesTame, awaits_after, before_event, in_part, stage_after, with_part}
use Rattle.spd_words.specs.declared.event.Event.{Event}
use Rattle.spd_words.specs.declared.event.Part.{Part}
use Rattle.spd_state.specs.Tree.{top_in}
use Rattle.spd_state.specs.Promises.{promised, expected_in}
use Rattle.spd_state.specs.declared.view.Running.{Running}
use Rattle.spd_state.specs.declared.view.View.{View}

-- It has nothing in hand, beside a vertex that it may run and that vertex's slot.
pub record HoldsNothing (v : View) : Type 0 where
  pub flight : v.flight ≡ None
  pub held : v.held ≡ []
  pub claimed : v.claimed ≡ []
  pub rooted : v.rooted ≡ []
  pub above : v.above ≡ []
  pub halves : v.halves ≡ []
  pub sprout : v.sprout ≡ None
  pub told : v.told ≡ []

-- It has neither to collect nor to pass on the code 0.
pub record IsClear (v : View) : Type 0 where
  pub collected : v.awaited ≡ None
  pub well : v.hurt ≡ 0

-- It runs nothing: it may start a vertex, and may be joined.
pub record Rests (v : View) : Type 0 where
  pub running : v.running ≡ None
  pub slots : v.slots ≡ []
  pub nothing : HoldsNothing v
  pub clear : IsClear v

-- It runs the vertex r, which isn't the end, with its right.
pub record RunsOn (v : View) (r : Running) : Type 0 where
  pub running : v.running ≡ Some r
  pub other : r.vertex ≢ 1
  pub right : r.right ≡ 1
  pub nothing : HoldsNothing v
  pub knows : top_in r.inc v.known ≡ Some r.finish

-- It runs this vertex with a body that promises just what the vertex still owes, and that may go on.
pub record RunsBody (v : View) (r : Running) (b : BodyView) : Type 0 where
  pub on : RunsOn v r
  pub clear : IsClear v
  pub keeps : v.wild ≡ 0
  pub kind : b.means.kind ≡ v.kind
  pub awaited : b.means.awaited ≡ None
  pub stage : b.stage ≡ Going
  pub tame : IsTame b.means
  pub owed : promised v.owes ≡ b.means.promise

-- The body that it runs has come to this event, and this is left of it.
pub record RunsCut (v : View) (r : Running) (e : Event BodyView) (rest : BodyView) : Type 0 where
  pub on : RunsOn v r
  pub clear : IsClear v
  pub keeps : v.wild ≡ 0
  pub kind : rest.means.kind ≡ v.kind
  pub awaited : rest.means.awaited ≡ awaits_after e
  pub stage : rest.stage ≡ stage_after e
  pub tame : IsTame rest.means
  pub carries : CarriesTame e
  pub ready : CarriesReady v.kind e
  pub owed : promised v.owes ≡ before_event v.kind e rest.means.promise

-- It has just started this vertex with this body, which goes on at once, or is first to collect the finish that it waited for.
pub record RunsNew (v : View) (r : Running) (vertex : ℕ) (b : BodyView) : Type 0 where
  pub on : RunsOn v r
  pub number : r.vertex ≡ vertex
  pub well : v.hurt ≡ 0
  pub keeps : v.wild ≡ 0
  pub kind : b.means.kind ≡ v.kind
  pub expects : v.awaited ≡ expected_in b.means.awaited
  pub odd : (x : Awaited) → b.means.awaited ≡ Some x → (f : ℕ) × (vertex ≡ 2 * f + 1)
  pub stage : b.stage ≡ Going
  pub tame : IsTame b.means
  pub owed : promised v.owes ≡ b.means.promise

-- It has just started the end.
pub record RunsTheEnd (v : View) (r : Running) : Type 0 where
  pub running : v.running ≡ Some r
  pub end : r.vertex ≡ 1
  pub nothing : HoldsNothing v
  pub clear : IsClear v

-- There is no move left for the part, so it is to be taken back into the rest.
pub record RunsPart (v : View) (r : Running) (rest : BodyView) (p : Part BodyView) : Type 0 where
  pub on : RunsOn v r
  pub clear : IsClear v
  pub keeps : v.wild ≡ 0
  pub kind : rest.means.kind ≡ v.kind
  pub stage : rest.stage ≡ Going
  pub tame : IsTame rest.means
  pub carried : IsTame (in_part p).means
  pub owed : promised v.owes ≡ with_part rest.means.kind p rest.means.promise

-- what a worker never changes
pub record Stays (before now : View) : Type 0 where
  pub whole : now.whole ≡ before.whole
  pub seats : now.seats ≡ before.seats
  pub spare : now.spare ≡ before.spare

-- what a vertex other than the end never changes
pub record Lasts (before now : View) : Type 0 where
  pub stays : Stays before now
  pub done : now.done ≡ before.done
