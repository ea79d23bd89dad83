-- What the calls of a body do to what is told of it.
use Rattle.std.specs.Prelude.{◌≡◌, ◌≢◌, ℕ, ◌+◌, ◌<◌, ◌≤◌, ◌==◌, if◌then◌else◌, min, ℤ, false, Option, None, Some}
use Rattle.spd_words.specs.Gift.{join, no_fault}
use Rattle.spd_words.specs.Total.{settle}
use Rattle.spd_words.specs.Meaning.{Promise, empty, add, Awaited, Meaning, Stage, Going, Spent, Ended, BodyView, IsTame, WildIsEmpty}
use Rattle.spd_words.specs.declared.finish_kind.FinishKind.{FinishKind}
use Rattle.spd_words.specs.declared.event.Event.{Event}
use Rattle.spd_words.specs.declared.event.Event.TheVariants.{Offer, Fault, Async, Finish, Over, NoMemory}
use Rattle.spd_words.specs.declared.event.Part.{Part}
use Rattle.spd_words.specs.declared.event.Part.TheVariants as part

-- ---- events

-- the event, with what is told of a body in place of the body
abbrev pub event_seen : {B : Type 0} → (B → BodyView) → Event B → Event BodyView
event_seen view (Offer x) = Offer x
event_seen view (Fault code) = Fault code
event_seen view (Async b) = Async (view b)
event_seen view (Finish kind b) = Finish kind (view b)
event_seen view Over = Over
event_seen view NoMemory = NoMemory

-- what the promise was, by the event and what is promised after it
abbrev pub before_event : FinishKind → Event BodyView → Promise → Promise
before_event kind (Offer x) p = record { gift = join kind x p.gift; fault = p.fault; moves = p.moves }
before_event kind (Fault code) p = record { gift = p.gift; fault = min code p.fault; moves = p.moves }
before_event kind (Async b) p =
    let q = add kind b.means.promise p in
    record { gift = q.gift; fault = q.fault; moves = q.moves + 1 }
before_event kind (Finish k b) p =
    record { gift = p.gift; fault = p.fault; moves = b.means.promise.moves + p.moves + 1 }
before_event kind Over p = empty kind
before_event kind NoMemory p = p

-- The promise is split into the event and the promise of the rest.
abbrev pub Splits : Meaning → Event BodyView → Meaning → Type 0
Splits old event new = old.promise ≡ before_event old.kind event new.promise

-- the size of the body that the event carries, and one for taking it back
abbrev pub carried : Event BodyView → ℕ
carried (Async b) = b.size + 1
carried (Finish k b) = b.size + 1
carried _ = 0

-- what is awaited after the event
abbrev pub awaits_after : Event BodyView → Option Awaited
awaits_after (Finish k b) =
    let total = settle (record { gift = b.means.promise.gift; fault = b.means.promise.fault }) in
    Some (record { kind = k; gift = total.gift; fault = total.fault })
awaits_after _ = None

abbrev pub stage_after : Event BodyView → Stage
stage_after Over = Ended
stage_after NoMemory = Ended
stage_after _ = Going

-- a body that may be started for a finish of this kind
pub record IsReady (of : FinishKind) (v : BodyView) : Type 0 where
  pub kind : v.means.kind ≡ of
  pub awaited : v.means.awaited ≡ None
  pub stage : v.stage ≡ Going

-- The body that the event carries offers to the right finish, and may be started.
abbrev pub CarriesReady : FinishKind → Event BodyView → Type 0
CarriesReady kind (Async b) = IsReady kind b
CarriesReady kind (Finish k b) = IsReady k b
CarriesReady kind _ = Unit {0}

-- of each event but want of memory
abbrev pub UnlessNoMemory : Event BodyView → Type 0 → Type 0
UnlessNoMemory NoMemory p = Unit {0}
UnlessNoMemory _ p = p

-- of each event that leaves something to go on with
abbrev pub WhereItGoesOn : Event BodyView → Type 0 → Type 0
WhereItGoesOn Over p = Unit {0}
WhereItGoesOn NoMemory p = Unit {0}
WhereItGoesOn _ p = p

-- By this event a body of which the old was told became one of which the new is told.
pub record Advances (old new : BodyView) (event : Event BodyView) : Type 0 where
  pub kind : new.means.kind ≡ old.means.kind
  pub means : WildIsEmpty new.means
  -- It waits exactly behind a finish, for that finish's body's gift and fault.
  pub awaited : new.means.awaited ≡ awaits_after event
  pub stage : new.stage ≡ stage_after event
  pub spent : old.stage ≡ Spent → event ≡ NoMemory
  pub ready : CarriesReady old.means.kind event
  pub split : UnlessNoMemory event (old.means.wild ≡ false → Splits old.means event new.means)
  pub falls : WhereItGoesOn event (new.size + carried event < old.size)

-- Codes are no want of memory and no "no fault".
abbrev pub CarriesTame : Event BodyView → Type 0
CarriesTame (Fault code) = (code ≢ 0) × (code < no_fault)
CarriesTame (Async b) = IsTame b.means
CarriesTame (Finish k b) = IsTame b.means
CarriesTame _ = Unit {0}

-- What was tame stays so, and gives only what is.
abbrev pub StaysTame : BodyView → BodyView → Event BodyView → Type 0
StaysTame old new event = IsTame old.means → WhereItGoesOn event (IsTame new.means) × CarriesTame event

-- ---- parts

abbrev pub part_seen : {B : Type 0} → (B → BodyView) → Part B → Part BodyView
part_seen view (part.Async b) = part.Async (view b)
part_seen view (part.Finish k b) = part.Finish k (view b)

-- The part made of what the event carries fits what was left.
abbrev pub FitsNext : {B : Type 0} → (B → Part B → Type 0) → B → Event B → Type 0
FitsNext fits new (Async b) = fits new (part.Async b)
FitsNext fits new (Finish k b) = fits new (part.Finish k b)
FitsNext fits new _ = Unit {0}

abbrev pub in_part : Part BodyView → BodyView
in_part (part.Async b) = b
in_part (part.Finish k b) = b

-- A promise with that of a part. The gift and the fault of a finish are in what waits for it already.
abbrev pub with_part : FinishKind → Part BodyView → Promise → Promise
with_part kind (part.Async b) p = add kind b.means.promise p
with_part kind (part.Finish k b) p =
    record { gift = p.gift; fault = p.fault; moves = b.means.promise.moves + p.moves }

pub record TakesIn (old new : BodyView) (p : Part BodyView) : Type 0 where
  pub kind : new.means.kind ≡ old.means.kind
  pub means : WildIsEmpty new.means
  pub awaited : new.means.awaited ≡ None
  pub stage : new.stage ≡ Going
  pub wild : old.means.wild ≡ false → new.means.wild ≡ false
  pub promise : old.means.wild ≡ false → new.means.promise ≡ with_part old.means.kind p old.means.promise
  pub tame : IsTame old.means → IsTame (in_part p).means → IsTame new.means
  pub size : new.size ≤ old.size + (in_part p).size + 1

-- ---- a finish that has ended

-- The gift and the fault are those that are awaited.
abbrev pub Expects : Option Awaited → ℤ → ℕ → Type 0
Expects None gift fault = ⊥
Expects (Some awaited) gift fault = (gift ≡ awaited.gift) × (fault ≡ awaited.fault)

abbrev pub stage_at : ℕ → Stage
stage_at fault = if fault == 0 then Spent else Going

-- What a body becomes that is resumed so, and that promises this from there on.
pub record Resumes (old new : BodyView) (from_there : Promise) (gift : ℤ) (fault : ℕ) : Type 0 where
  pub kind : new.means.kind ≡ old.means.kind
  pub means : WildIsEmpty new.means
  pub awaited : new.means.awaited ≡ None
  pub stage : new.stage ≡ stage_at fault
  pub wild : old.means.wild ≡ false → new.means.wild ≡ false
  -- whatever it is resumed with
  pub promise : old.means.wild ≡ false → new.means.promise ≡ from_there
  -- with what it expects
  pub expected : old.means.wild ≡ false → Expects old.means.awaited gift fault
      → new.means.promise ≡ old.means.promise
  pub tame : IsTame old.means → Expects old.means.awaited gift fault → IsTame new.means
  pub size : Expects old.means.awaited gift fault → new.size ≤ old.size
