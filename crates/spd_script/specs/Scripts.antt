-- What is told of a scripted body.
use Rattle.std.specs.Prelude.{◌≡◌, ℕ, ◌+◌, ◌*◌, ◌==◌, ◌&&◌, not, if◌then◌else◌, ℤ, Box, Bool, false, Option, None, Some}
use Rattle.std.specs.declared.alloc.Global.{Global}
use Rattle.spd_words.specs.Gift.{no_fault}
use Rattle.spd_words.specs.Meaning.{Promise, Awaited, Stage, Going, Ended, BodyView}
use Rattle.spd_words.specs.BodyCalls.{stage_at, Advances, StaysTame, event_seen, FitsNext, TakesIn, part_seen}
use Rattle.spd_words.specs.declared.finish_kind.FinishKind.{FinishKind}
use Rattle.spd_words.specs.declared.event.Event.{Event}
use Rattle.spd_words.specs.declared.event.Part.{Part}
use Rattle.spd_words.specs.declared.event.Part.TheVariants as part
use Rattle.spd_script.specs.declared.steps.Steps.{Steps, Finish'}
use Rattle.spd_script.specs.declared.script.State.{State}
use Rattle.spd_script.specs.declared.script.State.TheVariants as state
use Rattle.spd_script.specs.declared.script.Script.{Script}
use Rattle.spd_script.specs.Steps.{promise, behind, steps_size}

-- ---- the view

abbrev pub with_moves : ℕ → Promise → Promise
with_moves n p = record { gift = p.gift; fault = p.fault; moves = n + p.moves }

abbrev pub state_awaits : State → Option Awaited
state_awaits (state.Waits kind catches gift fault) = Some (record { kind = kind; gift = gift; fault = fault })
state_awaits _ = None

abbrev pub state_stage : State → Stage
state_stage (state.Resumed gift fault) = stage_at fault
state_stage state.Ended = Ended
state_stage _ = Going

abbrev pub state_promise : Script → State → Promise
state_promise s (state.Waits kind catches gift fault) = behind s.kind gift fault catches (promise s.kind s.rest)
state_promise s (state.Resumed gift fault) = behind s.kind gift fault false (promise s.kind s.rest)
state_promise s _ = promise s.kind s.rest

-- A finish is followed by an offer or a fault.
abbrev pub state_size : State → ℕ
state_size (state.Waits kind catches gift fault) = 1
state_size (state.Resumed gift fault) = 1
state_size _ = 0

-- It is never wild: what is no code isn't given.
abbrev pub script_view : Script → BodyView
script_view s = record {
  means = record {
    kind = s.kind;
    wild = false;
    awaited = state_awaits s.state;
    promise = with_moves s.held (state_promise s s.state);
  };
  stage = state_stage s.state;
  size = 3 * s.held + state_size s.state + steps_size s.rest;
}

-- ---- parts

-- It is as it was given.
pub record IsFresh (s : Script) : Type 0 where
  pub held : s.held ≡ 0
  pub state : s.state ≡ state.Going

-- It waits for a finish of these steps.
abbrev pub ScriptAwaits : State → Script → Type 0
ScriptAwaits (state.Waits kind catches gift fault) child =
    (gift ≡ (promise child.kind child.rest).gift) × (fault ≡ (promise child.kind child.rest).fault)
ScriptAwaits _ child = ⊥

abbrev pub FitsScript : Script → Part Script → Type 0
FitsScript s (part.Async child) = (s.state ≡ state.Going) × (child.kind ≡ s.kind) × IsFresh child
FitsScript s (part.Finish kind child) = ScriptAwaits s.state child × IsFresh child

-- ---- resumed

abbrev pub state_behind : Bool → ℤ → ℕ → State
state_behind catches gift fault =
    if catches && not (fault == 0) && not (fault == no_fault) then state.Going else state.Resumed gift fault

abbrev pub promise_behind : Script → State → ℤ → ℕ → Promise
promise_behind s (state.Waits kind catches g f) gift fault = behind s.kind gift fault catches (promise s.kind s.rest)
promise_behind s _ gift fault = promise s.kind s.rest

-- what it promises once it is resumed with this gift and this fault
abbrev pub script_resumed : Script → ℤ → ℕ → Promise
script_resumed s gift fault = with_moves s.held (promise_behind s s.state gift fault)

-- ---- events

abbrev pub fresh_script : FinishKind → Steps → Script
fresh_script kind steps = record { kind = kind; held = 0; rest = steps; state = state.Going }

-- By this event the script became that.
pub record ScriptEvent (old new : Script) (event : Event Script) : Type 0 where
  pub step : Advances (script_view old) (script_view new) (event_seen script_view event)
  pub tame : StaysTame (script_view old) (script_view new) (event_seen script_view event)
  pub part : FitsNext FitsScript new event

-- The script, of which the steps behind the finish are the rest, came to this finish.
abbrev pub OpensFinish : Script → FinishKind → Bool → Steps → Script → Event Script → Type 0
OpensFinish old kind catches child new event =
    (p q : Box (Unit {0}) Global) →
    ScriptEvent (record old { rest = Finish' kind catches p child q old.rest }) new event

-- ---- parts that are taken in

abbrev pub ScriptTakesAsync : Script → Script → Script → Type 0
ScriptTakesAsync old child new = TakesIn (script_view old) (script_view new) (part.Async (script_view child))

abbrev pub ScriptTakesFinish : Script → Script → Script → Type 0
ScriptTakesFinish old child new =
    TakesIn (script_view old) (script_view new) (part.Finish child.kind (script_view child))

abbrev pub ScriptTakesPart : Script → Part Script → Script → Type 0
ScriptTakesPart old p new = TakesIn (script_view old) (script_view new) (part_seen script_view p)
