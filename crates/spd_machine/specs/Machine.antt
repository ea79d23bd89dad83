-- What is left of a machine: finishes that run inside, and the level of the innermost; and what its turns leave.
use Rattle.std.specs.Prelude.{◌≡◌, ℕ, ◌+◌, ◌*◌, ◌<◌, List, [], ◌∷◌, length, ℤ}
use Rattle.spd_words.specs.Total.{total_of}
use Rattle.spd_meaning.specs.Acts.{Acts, Offer, Code, Begin, Async, heard, work_of}
use Rattle.spd_meaning.specs.Eval.{Eval, before, async_of, finish_of, finish_left}
use Rattle.spd_code.specs.Coded.{Context, around_of, eval_block}
use Rattle.spd_code.specs.Places.{bind_if}
use Rattle.spd_level.specs.Left.{level_left, level_now}
use Rattle.spd_level.specs.declared.frame.Flow.TheVariants as flow
use Rattle.spd_machine.specs.declared.machine.Inside.{Inside}
use Rattle.spd_machine.specs.declared.machine.Machine.{Machine}
use Rattle.spd_machine.specs.declared.machine.Met.{Met}
use Rattle.spd_machine.specs.declared.machine.Met.TheVariants as met

-- ---- the frames that are still to be taken off

abbrev pub insides_frames : List Inside → ℕ
insides_frames [] = 0
insides_frames (i ∷ is) = length i.outer.frames.items + 1 + insides_frames is

abbrev pub machine_frames : Machine → ℕ
machine_frames machine = length machine.level.frames.items + insides_frames machine.inside.items

-- what is heard outside of a turn that met this
abbrev pub hears : Met → Acts
hears (met.Offer x) = Offer x ∷ []
hears (met.Fault code) = Code code ∷ []
hears met.Held = Begin Async ∷ []
hears _ = []

-- where the parts stand that are handed out
abbrev pub MetStands : Met → Machine → Type 0
MetStands (met.Async body left) new = (new.level.flow ≡ flow.Fell) × (new.inside.items ≡ [])
MetStands met.Held new = 0 < length new.inside.items
MetStands (met.Finish f) new = new.level.flow ≡ flow.Fell
MetStands met.Over new = (new.level.frames.items ≡ []) × (new.inside.items ≡ [])
MetStands _ new = Unit {0}

-- what is paid for a part: the frames of its going in, and an event
abbrev pub MetPays : Met → ℕ → ℕ → ℕ → Type 0
MetPays met.Over work n new = Unit {0}
MetPays (met.Async body left) work n new = new + 3 < 4 * work + n
MetPays (met.Finish f) work n new = new + 3 < 4 * work + n
MetPays met.Held work n new = new + 1 < 4 * work + n
MetPays _ work n new = new < 4 * work + n

module _ (context : Context) where
  -- ---- what is left

  -- what a finish inside, and what goes on behind it, make of what ended in it
  abbrev pub inside_left : Inside → Eval ℤ → Eval ℤ
  inside_left i a = level_left context i.outer (finish_left i.tally.kind (total_of i.tally) i.line (bind_if i.binds i.outer.vars.items) a)

  -- the finishes inside, the outermost first
  abbrev pub insides_left : List Inside → Eval ℤ → Eval ℤ
  insides_left [] a = a
  insides_left (i ∷ is) a = inside_left i (insides_left is a)

  -- what is left of a machine where what runs now evaluates so
  abbrev pub machine_left : Machine → Eval ℤ → Eval ℤ
  machine_left machine a = insides_left machine.inside.items (level_left context machine.level a)

  abbrev pub machine_eval : Machine → Eval ℤ
  machine_eval machine = machine_left machine (level_now machine.level)

  -- what falls with each turn
  abbrev pub machine_measure : Machine → ℕ
  machine_measure machine = 4 * work_of (machine_eval machine).given + machine_frames machine

  -- ---- turns

  -- what is left behind a turn, with the part that it met
  abbrev pub behind_met : Met → Machine → Eval ℤ
  behind_met (met.Async body left) new = machine_left new (async_of new.level.vars.items (eval_block (around_of context left) body.now new.level.vars.items))
  behind_met (met.Finish f) new = machine_left new (finish_of f.kind f.line (bind_if f.binds new.level.vars.items)
      (eval_block (around_of context f.left) f.body.now new.level.vars.items))
  behind_met _ new = machine_eval new

  -- From this evaluation and so many frames a machine came to this state by turns that met this at last.
  pub record MachineTurn (a : Eval ℤ) (n : ℕ) (new : Machine) (by : Met) : Type 0 where
    pub given : Acts
    pub is : a ≡ before given (behind_met by new)
    pub said : heard given ≡ hears by
    pub stands : MetStands by new
    pub falls : MetPays by (work_of given) n (machine_frames new)

-- By one turn or several, of which the last alone met something, a machine came from one state to another.
abbrev pub MachineGoes : Context → Machine → Machine → Met → Type 0
MachineGoes context old new by = MachineTurn context (machine_eval context old) (machine_frames old) new by
