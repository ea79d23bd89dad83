-- What a turn of a level does: what it gives, what it says to others, what is left behind it, and what falls with it.
use Rattle.std.specs.Prelude.{◌≡◌, Bool, true, false, ℕ, ◌+◌, ◌*◌, ◌<◌, List, [], ◌∷◌, length, ℤ}
use Rattle.spd_code.specs.declared.tree.CodeItem.{CodeItem}
use Rattle.spd_code.specs.declared.tree.CodeTree.{CodeTree}
use Rattle.spd_meaning.specs.Acts.{Acts, Offer, Code, Line, Begin, Call, Over, work_of, said}
use Rattle.spd_meaning.specs.Eval.{Eval, before, counted, async_of, finish_of, call_of}
use Rattle.spd_code.specs.Coded.{Context, item_returned, item_at, around_of, eval_block}
use Rattle.spd_code.specs.Places.{bind_if}
use Rattle.spd_level.specs.Left.{level_now, frame_left, level_left, level_eval}
use Rattle.spd_level.specs.declared.frame.Frame.{Frame}
use Rattle.spd_level.specs.declared.frame.Flow.TheVariants as flow
use Rattle.spd_level.specs.declared.level.Level.{Level}
use Rattle.spd_level.specs.declared.step.Step.{Step}
use Rattle.spd_level.specs.declared.step.Step.TheVariants as step

-- what a step says to the finish around it, and to main's reader
abbrev pub says : Step → Acts
says (step.Offer x) = Offer x ∷ []
says (step.Fault code) = Code code ∷ []
says (step.Line text) = Line text.items ∷ []
says _ = []

-- It leaves no part to be done.
abbrev pub MeetsNothing : Step → Type 0
MeetsNothing step.Quiet = Unit {0}
MeetsNothing (step.Offer x) = Unit {0}
MeetsNothing (step.Line text) = Unit {0}
MeetsNothing _ = ⊥

module _ (context : Context) where
  -- what is left behind a step, with the part that it met
  abbrev pub behind_step : Step → Level → Eval ℤ
  behind_step (step.Async body left) new = level_left context new (async_of new.vars.items (eval_block (around_of context left) body.now new.vars.items))
  behind_step (step.Finish f) new =
      level_left context new (finish_of f.kind f.line (bind_if f.binds new.vars.items) (eval_block (around_of context f.left) f.body.now new.vars.items))
  behind_step (step.Call c) new = level_left context new (call_of (bind_if c.binds new.vars.items)
      (item_returned (around_of context c.left) c.item.now c.args.items))
  behind_step step.Called new = before (Begin Call ∷ Over ∷ []) (level_eval context new)
  behind_step _ new = level_eval context new

  -- Where a part was met the level goes on.
  abbrev pub StepFalls : Step → Level → Type 0
  StepFalls (step.Async body left) new = new.flow ≡ flow.Fell
  StepFalls (step.Finish f) new = new.flow ≡ flow.Fell
  StepFalls (step.Call c) new = new.flow ≡ flow.Fell
  StepFalls _ new = Unit {0}

  -- At the end no frame is left. Else 4 for each statement pay for the frames; a part that was met may cost three more: two frames and an event.
  abbrev pub StepPays : Step → ℕ → ℕ → Level → Type 0
  StepPays step.Over work n new = new.frames.items ≡ []
  StepPays (step.Async body left) work n new = length new.frames.items + 3 < 4 * work + n
  StepPays (step.Finish f) work n new = length new.frames.items + 3 < 4 * work + n
  StepPays (step.Call c) work n new = length new.frames.items + 3 < 4 * work + n
  StepPays _ work n new = length new.frames.items < 4 * work + n

  -- what is called is a function where the value is bound, and else a task
  abbrev pub IsCallee : Bool → CodeItem → Type 0
  IsCallee true item = (f : ℕ) × (item ≡ item_at context.code.functions f)
  IsCallee false item = (t : ℕ) × (item ≡ item_at context.code.tasks t)

  abbrev pub KnowsCallee : Step → Type 0
  KnowsCallee (step.Call c) = IsCallee c.binds c.item.now
  KnowsCallee _ = Unit {0}

  -- From this evaluation and so many frames a level came to this state by this step.
  pub record LevelTurn (a : Eval ℤ) (n : ℕ) (new : Level) (by : Step) : Type 0 where
    -- what was left is what the turn gave, and then what is left
    pub given : Acts
    pub is : a ≡ before given (behind_step by new)
    -- offers, codes, lines and beginnings of it are exactly what the step says
    pub said : said given ≡ says by
    pub falls_through : StepFalls by new
    pub callee : KnowsCallee by
    pub goes_on : StepPays by (work_of given) n new

-- ---- the same, as the calls say it

-- A level took a turn.
abbrev pub WholeTurn : Context → Level → Level → Step → Type 0
WholeTurn context old new by = LevelTurn context (level_eval context old) (length old.frames.items) new by

-- A level from which this frame was taken took a turn in it.
abbrev pub FrameTurn : Context → Frame → Level → Level → Step → Type 0
FrameTurn context frame old new by =
    LevelTurn context (level_left context old (frame_left context frame (level_now old))) (length old.frames.items + 1) new by

-- A level ran a statement that evaluates so.
abbrev pub StatementTurn : Context → Level → Level → Step → Eval ℤ → Type 0
StatementTurn context old new by a = LevelTurn context (level_left context old a) (length old.frames.items) new by

-- A level went into what evaluates so, and nothing was given.
abbrev pub GoesInto : Context → Level → Level → Eval ℤ → Type 0
GoesInto context old new a = level_left context old a ≡ level_eval context new

-- A level ran a statement that needs no frame: what it evaluates to is what the step says and what runs now.
abbrev pub StatementDone : Level → Level → Step → Eval ℤ → Type 0
StatementDone old new by a = (new.frames.items ≡ old.frames.items) × (a ≡ before (says by) (level_now new)) × MeetsNothing by

-- A level ran a statement that needs no frame and says nothing, or left everything as it was.
abbrev pub PlainTurn : Level → Level → Bool → Eval ℤ → Type 0
PlainTurn old new true a = (new.frames.items ≡ old.frames.items) × (a ≡ counted (level_now new))
PlainTurn old new false a = new ≡ old

-- the items that are called
abbrev pub AreCalled : Bool → List CodeItem → CodeTree → Type 0
AreCalled true items code = items ≡ code.functions
AreCalled false items code = items ≡ code.tasks
