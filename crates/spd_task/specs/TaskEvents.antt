-- What the events of a task are: each is the next thing that the meaning gives of what is left.
use Rattle.std.specs.Prelude.{◌≡◌, ℕ, ◌+◌, ◌*◌, ◌<◌, [], ◌∷◌, ◌++◌, length, ℤ, ◌⊎◌}
use Rattle.spd_words.specs.Gift.{no_fault}
use Rattle.spd_words.specs.BodyCalls.{carried, event_seen, WhereItGoesOn, TakesIn, part_seen}
use Rattle.spd_words.specs.declared.event.Event.{Event}
use Rattle.spd_words.specs.declared.event.Event.TheVariants as event
use Rattle.spd_words.specs.declared.event.Part.{Part}
use Rattle.spd_words.specs.declared.event.Part.TheVariants as part
use Rattle.spd_meaning.specs.Acts.{Acts, Offer, Code, Begin, Async, Finish, heard, passed, work_of}
use Rattle.spd_meaning.specs.Eval.{Eval, before, for_finish, end_codes, async_of, finish_of}
use Rattle.spd_code.specs.Places.{bind_if}
use Rattle.spd_level.specs.declared.step.FinishAt.{FinishAt}
use Rattle.spd_machine.specs.Machine.{machine_left, MachineTurn}
use Rattle.spd_machine.specs.declared.machine.Met.TheVariants as meets
use Rattle.spd_task.specs.declared.task.State.TheVariants as state
use Rattle.spd_task.specs.declared.task.Task.{Task}
use Rattle.spd_task.specs.Task.{context_in, left_of, size_left, task_view, fits_task}

-- Nothing of it is heard.
abbrev pub IsUnheard : Eval ℤ → Type 0
IsUnheard a = heard (for_finish a) ≡ []

-- All that is left of a was what was given silently, and then an async whose body is all of b.
abbrev pub IsNextAsync : Eval ℤ → Task → Task → Type 0
IsNextAsync a new b = (p : Acts) × (a ≡ before p (machine_left (context_in new) new.machine
    (async_of new.machine.level.vars.items (left_of b)))) × (heard p ≡ [])

-- The same of a finish whose body is all of b, for which the task waits.
abbrev pub IsNextFinish : Eval ℤ → Task → FinishAt → Task → Type 0
IsNextFinish a new f b = (p : Acts) × (a ≡ before p (machine_left (context_in new) new.machine
    (finish_of f.kind f.line (bind_if f.binds new.machine.level.vars.items) (left_of b)))) × (heard p ≡ [])

-- Where this was left of a task, the event is the next thing that the meaning gives of it, and this is what is left then.
abbrev pub IsNext : Eval ℤ → Task → Event Task → Type 0
-- an offer, or the code of a fault, which may be the end of the task itself
IsNext a new (event.Offer x) = (p : Acts) × (a ≡ before p (left_of new)) × (heard p ≡ Offer x ∷ [])
IsNext a new (event.Fault code) =
    (p : Acts) × (for_finish a ≡ p ++ for_finish (left_of new)) × (heard p ≡ Code code ∷ [])
-- an async: all of it is left to the other task where no finish runs inside, and else to this one
IsNext a new (event.Async b) =
    ((new.machine.inside.items ≡ []) × IsNextAsync a new b)
    ⊎ ((0 < length new.machine.inside.items) × IsUnheard (left_of b)
    × ((p : Acts) × (a ≡ before p (left_of new)) × (heard p ≡ Begin Async ∷ [])))
-- a finish of this kind, for which this task waits
IsNext a new (event.Finish kind b) =
    (f : FinishAt) × (new.state ≡ state.Waits f) × (f.kind ≡ kind) × IsNextFinish a new f b
-- the end, exactly where nothing is left that is heard
IsNext a new event.Over = IsUnheard a
IsNext a new event.NoMemory = Unit {0}

-- ---- what an event leaves, as proofs use it

-- what is heard of an event: of an async all that it will give, of a finish its moves
abbrev pub hears_event : Event Task → Acts
hears_event (event.Offer x) = Offer x ∷ []
hears_event (event.Fault code) = Code code ∷ []
hears_event (event.Async b) = Begin Async ∷ heard (for_finish (left_of b))
hears_event (event.Finish kind b) = Begin Finish ∷ heard (passed (left_of b).given)
hears_event _ = []

-- where a task stands after an event
abbrev pub StandsAfter : Task → Event Task → Type 0
StandsAfter new (event.Offer x) = new.state ≡ state.Ready
StandsAfter new (event.Fault code) = (new.state ≡ state.Ready) × (code < no_fault)
StandsAfter new (event.Async b) = fits_task new (part.Async b)
StandsAfter new (event.Finish kind b) = fits_task new (part.Finish kind b)
StandsAfter new event.Over = new.state ≡ state.Ended
StandsAfter new event.NoMemory = new.state ≡ state.Ended

-- A task over this code, these columns and of this kind, of which this was left and whose machine had so many frames, gave an event.
pub record TaskGave (a : Eval ℤ) (n : ℕ) (old new : Task) (event : Event Task) : Type 0 where
  pub context : context_in new ≡ context_in old
  pub kind : new.kind ≡ old.kind
  pub next : IsNext a new event
  pub given : Acts
  pub is : for_finish a ≡ given ++ for_finish (left_of new)
  pub hears : heard given ≡ hears_event event
  pub after : StandsAfter new event
  pub falls : WhereItGoesOn (event_seen task_view event)
      (size_left (left_of new) new.machine + carried (event_seen task_view event) < 4 * work_of a.given + n + length (end_codes a.end))

-- A task whose machine is over gave an event, whatever was left of it when its machine began.
abbrev pub EndGives : Task → Task → Event Task → Type 0
EndGives old new event = (o : Task) (a : Eval ℤ) (n : ℕ) → context_in old ≡ context_in o → old.kind ≡ o.kind
    → MachineTurn (context_in old) a n old.machine meets.Over → TaskGave a n o new event

-- The task became the new one by taking this part inside.
abbrev pub TaskTakesIn : Task → Task → Part Task → Type 0
TaskTakesIn old new p = TakesIn (task_view old) (task_view new) (part_seen task_view p)
