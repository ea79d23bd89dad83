-- Main by places, cut at its jobs: what is left of a spine, and what its turns put, meet and leave.
use Rattle.std.specs.Prelude.{◌≡◌, ℕ, ◌+◌, ◌*◌, ◌<◌, [], ◌∷◌, ◌++◌, length, ℤ, Bool, true, Option, Some, None}
use Rattle.spd_io.specs.Sink.{SinkState, Gets, GetsFront}
use Rattle.spd_words.specs.Total.{Total, nothing, ended}
use Rattle.spd_words.specs.declared.finish_kind.FinishKind.TheVariants as kind
use Rattle.spd_meaning.specs.Acts.{Acts, Begin, Finish, Call, Over, work_of, passed, beginnings}
use Rattle.spd_meaning.specs.Eval as eval
use Rattle.spd_meaning.specs.Eval.{Eval, before, quiet, finish_end, job_total}
use Rattle.spd_meaning.specs.Programs.{most_calls}
use Rattle.spd_meaning.specs.Printed.{printed}
use Rattle.spd_code.specs.Coded.{Context, around_of, item_at, item_returned, eval_block}
use Rattle.spd_code.specs.Places.{bind_if}
use Rattle.spd_code.specs.Silent.{silent_block}
use Rattle.spd_code.specs.Lined.{lined_block}
use Rattle.spd_level.specs.Columns.{context_of}
use Rattle.spd_level.specs.Left.{level_left, level_eval}
use Rattle.spd_level.specs.declared.level.Level.{Level}
use Rattle.spd_machine.specs.Elision.{job_eval}
use Rattle.spd_machine.specs.declared.job.Job.{Job}
use Rattle.spd_machine.specs.declared.job.JobBody.{JobBody}
use Rattle.spd_machine.specs.declared.job.JobBody.TheVariants as job
use Rattle.spd_spine.specs.declared.turn.End.{End}
use Rattle.spd_spine.specs.declared.turn.End.TheVariants as end
use Rattle.spd_spine.specs.declared.turn.SpineTurn.{SpineTurn}
use Rattle.spd_spine.specs.declared.turn.SpineTurn.TheVariants as turn
use Rattle.spd_spine.specs.declared.spine.Standing.{Standing}
use Rattle.spd_spine.specs.declared.spine.Standing.TheVariants as standing
use Rattle.spd_spine.specs.declared.spine.Spine.{Spine}

-- What the checks see to: a function says nothing to a finish around it; and lines are of 32 bits, so that no code of a fault stands for none.
pub record KeepsToMain (context : Context) : Type 0 where
  pub silent : (f : ℕ) → silent_block (item_at context.code.functions f).body ≡ true
  pub functions_lined : (f : ℕ) → lined_block (item_at context.code.functions f).body ≡ true
  pub tasks_lined : (t : ℕ) → lined_block (item_at context.code.tasks t).body ≡ true

-- main, by places
abbrev pub main_eval : Context → Eval ℤ
main_eval context = eval_block (around_of context most_calls) context.code.main []

abbrev pub EndsSo : {A : Type 0} → End → eval.End A → Type 0
EndsSo end.Done (eval.Fault code) = ⊥
EndsSo end.Done _ = Unit {0}
EndsSo (end.Fault c) (eval.Fault code) = c ≡ code
EndsSo (end.Fault c) _ = ⊥

-- ---- what is left

abbrev pub spine_context : Spine → Context
spine_context spine = context_of spine.code.now spine.columns.now

-- what goes on behind a job that stands at this line and has this total
abbrev pub behind_job : Context → Level → ℕ → Bool → Total → Eval ℤ
behind_job context level line binds total = level_left context level (quiet (finish_end line (bind_if binds level.vars.items) total))

abbrev pub left_so : Context → Standing → Level → Total → Eval ℤ
left_so context (standing.Waits line binds) level total = behind_job context level line binds total
left_so context (standing.Given line binds given) level total = behind_job context level line binds (ended given)
left_so context _ level total = level_eval context level

-- what is left of a spine once the job that is open has this total
abbrev pub left_with : Spine → Total → Eval ℤ
left_with spine total = left_so (spine_context spine) spine.standing spine.level total

-- what is left of a spine where no job is open
abbrev pub spine_left : Spine → Eval ℤ
spine_left spine = left_with spine (nothing kind.Plain)

-- what falls with each turn
abbrev pub size_with : Spine → Total → ℕ
size_with spine total = 4 * work_of (left_with spine total).given + length spine.level.frames.items

abbrev pub spine_size : Spine → ℕ
spine_size spine = size_with spine (nothing kind.Plain)

-- ---- where it stands

-- No job is open, and it hasn't ended.
abbrev pub MayGoOn : Standing → Type 0
MayGoOn standing.Runs = Unit {0}
MayGoOn (standing.Given line binds given) = Unit {0}
MayGoOn _ = ⊥

-- A job is open.
abbrev pub HasOpenJob : Standing → Type 0
HasOpenJob (standing.Waits line binds) = Unit {0}
HasOpenJob _ = ⊥

-- where a spine stands behind a turn: its job is open, or main has ended
abbrev pub SpineStands : SpineTurn → Standing → Type 0
SpineStands (turn.Region job) now = HasOpenJob now
SpineStands _ now = now ≡ standing.Ended

-- the same behind a step of main, which need be no whole turn
abbrev pub WalkStands : Option SpineTurn → Standing → Type 0
WalkStands None now = now ≡ standing.Runs
WalkStands (Some by) now = SpineStands by now

-- ---- turns

-- Of the whole this is left, and the lines of all before it are put.
pub record PutSoFar (whole rest : Eval ℤ) (start is_now : SinkState) : Type 0 where
  pub given : Acts
  pub is : whole ≡ before given rest
  pub put : Gets start is_now (printed given)

-- The same, and no finish or call began before it.
pub record PutBeforeJob (whole rest : Eval ℤ) (start is_now : SinkState) : Type 0 where
  pub given : Acts
  pub is : whole ≡ before given rest
  pub put : Gets start is_now (printed given)
  pub no_job : beginnings given ≡ []

-- all that main gives while a job runs: a finish passes on no offer, code or line
abbrev pub job_acts : Context → JobBody → Acts
job_acts context (job.Block block left vars) =
    Begin Finish ∷ (passed (eval_block (around_of context left) block.now vars.items).given ++ Over ∷ [])
job_acts context (job.Call item left args) =
    Begin Call ∷ ((item_returned (around_of context left) item.now args.items).given ++ Over ∷ [])

-- the result of a job
abbrev pub total_of_job : Context → Job → Total
total_of_job context job = job_total job.kind (job_eval context job.body)

-- Of what was left, and had this size, main's next finish or call is this job. With its result the spine goes on behind it, and less is left.
pub record MeetsJob (context : Context) (whole : Eval ℤ) (size : ℕ) (new : Spine) (was is_now : SinkState) (job : Job) : Type 0 where
  pub next : PutBeforeJob whole (before (job_acts context job.body) (left_with new (total_of_job context job))) was is_now
  -- nothing is printed while it runs
  pub no_line : printed (job_acts context job.body) ≡ []
  pub waits : HasOpenJob new.standing
  pub falls : size_with new (total_of_job context job) < size

-- Main has no more finish or call, and ends so.
pub record EndsMain (whole : Eval ℤ) (was is_now : SinkState) (how : End) : Type 0 where
  pub last : eval.End ℤ
  pub next : PutBeforeJob whole (quiet last) was is_now
  pub ends : EndsSo how last

-- A turn tells this end.
abbrev pub EndTold : {A : Type 0} → SpineTurn → eval.End A → Type 0
EndTold turn.Done last = EndsSo end.Done last
EndTold (turn.Fault code) last = EndsSo (end.Fault code) last
EndTold _ last = ⊥

-- what a turn does that goes on to a job or to the end
abbrev pub TurnsSo : Spine → Spine → SinkState → SinkState → SpineTurn → Type 0
TurnsSo old new was is_now (turn.Region job) = MeetsJob (spine_context old) (spine_left old) (spine_size old) new was is_now job
TurnsSo old new was is_now turn.Done = EndsMain (spine_left old) was is_now end.Done
TurnsSo old new was is_now (turn.Fault code) = EndsMain (spine_left old) was is_now (end.Fault code)
TurnsSo old new was is_now _ = ⊥

-- It stopped before its next job or its end, with a front of the bytes put.
abbrev pub StopsSo : Spine → SinkState → SinkState → Type 0
StopsSo old was is_now = GetsFront was is_now (printed (spine_left old).given)

-- what any turn does
abbrev pub SpineTurned : Spine → Spine → SinkState → SinkState → SpineTurn → Type 0
SpineTurned old new was is_now turn.Stopped = StopsSo old was is_now
SpineTurned old new was is_now turn.NoMemory = StopsSo old was is_now
SpineTurned old new was is_now by = TurnsSo old new was is_now by

-- One turn within a job's or an end's: a statement that meets neither.
pub record GoesOn (old new : Spine) (was is_now : SinkState) : Type 0 where
  pub next : PutBeforeJob (spine_left old) (spine_left new) was is_now
  pub runs : new.standing ≡ standing.Runs
  pub falls : spine_size new < spine_size old

abbrev pub WalksSo : Spine → Spine → SinkState → SinkState → Option SpineTurn → Type 0
WalksSo old new was is_now None = GoesOn old new was is_now
WalksSo old new was is_now (Some by) = TurnsSo old new was is_now by
