-- When a share may make, chain, spawn or signal.
use Rattle.std.specs.Prelude.{◌≡◌, ◌<◌, [], Some, None}
use Rattle.spd_words.specs.Meaning.{Meaning, BodyView, IsLawfulTotal, IsTame}
use Rattle.spd_words.specs.BodyCalls.{CarriesReady, CarriesTame, awaits_after, before_event}
use Rattle.spd_words.specs.declared.finish_kind.FinishKind.{FinishKind}
use Rattle.spd_words.specs.declared.event.Event.{Event}
use Rattle.spd_words.specs.declared.event.Event.TheVariants as event
use Rattle.spd_state.specs.Dag.{load_of}
use Rattle.spd_state.specs.Tree.{top_in}
use Rattle.spd_state.specs.Promises.{promised}
use Rattle.spd_state.specs.declared.view.Running.{Running}
use Rattle.spd_state.specs.declared.view.View.{View}
use Rattle.spd_rule.specs.Kept.{IsFit}
use Rattle.spd_rule.specs.Steps.{IsFree, HasPaid}

-- It runs the vertex r with its right and has no move in flight; it has neither to collect nor to put the code 0.
pub record MayAct (v : View) (r : Running) : Type 0 where
  pub running : v.running ≡ Some r
  pub right : r.right ≡ 1
  pub flight : v.flight ≡ None
  pub free : IsFree v
  pub room : load_of v < 64

-- What a vertex owes is split into the body of the event and the rest; all three are tame.
pub record OwesSplit (v : View) (e : Event BodyView) (rest : BodyView) : Type 0 where
  pub tame : IsTame rest.means
  pub carries : CarriesTame e
  pub kind : rest.means.kind ≡ v.kind
  pub awaited : rest.means.awaited ≡ awaits_after e
  pub owed : promised v.owes ≡ before_event v.kind e rest.means.promise

-- The body that the event carries may lie in a slot.
abbrev pub CarriesFit : Event BodyView → Type 0
CarriesFit (event.Async b) = IsFit b
CarriesFit (event.Finish k b) = IsFit b
CarriesFit _ = Unit {0}

-- A share may cut its vertex by the event into the event's body and the rest. A share that runs a wild body owes nothing.
pub record MayCut (v : View) (r : Running) (e : Event BodyView) (rest : BodyView) : Type 0 where
  pub acts : MayAct v r
  pub ready : CarriesReady v.kind e
  -- Both bodies may lie in slots.
  pub carried : CarriesFit e
  pub fit : IsFit rest
  pub books : v.wild ≡ 0 → OwesSplit v e rest

-- It may chain: the body is the first of a finish of this kind, and the rest waits for that finish.
abbrev pub MayChain : View → Running → FinishKind → BodyView → BodyView → Type 0
MayChain v r kind body rest = MayCut v r (event.Finish kind body) rest

-- It may spawn: body and rest go on beside each other, and it knows that the vertex increments under its finish.
pub record MaySpawn (v : View) (r : Running) (body rest : BodyView) : Type 0 where
  pub cuts : MayCut v r (event.Async body) rest
  pub knows : top_in r.inc v.known ≡ Some r.finish

-- It may signal: it holds no unit, is told no finish, and owes nothing more or has put the code 0.
pub record MaySignal (v : View) (r : Running) : Type 0 where
  pub acts : MayAct v r
  pub held : v.held ≡ []
  pub told : v.told ≡ []
  pub paid : HasPaid v

-- It may make: it has yet to begin the make, and has nothing in hand; the body is of this kind, lawful and ready to start.
pub record MayMake (v : View) (kind : FinishKind) (body : Meaning) : Type 0 where
  pub fresh : 0 < v.fresh
  pub running : v.running ≡ None
  pub flight : v.flight ≡ None
  pub unmarked : v.full_draws ≡ 0
  pub free : IsFree v
  pub room : load_of v < 64
  pub kinds : body.kind ≡ kind
  pub awaited : body.awaited ≡ None
  pub lawful : IsLawfulTotal body.kind body.promise.gift body.promise.fault
