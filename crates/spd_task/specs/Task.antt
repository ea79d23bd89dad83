-- What a task means: the evaluation of what is left of its machine; and what is told of it.
use Rattle.std.specs.Prelude.{◌≡◌, ℕ, ◌+◌, ◌*◌, [], ◌∷◌, length, ℤ, Bool, false, Option, None, Some, ◌⊎◌}
use Rattle.spd_words.specs.Total.{Total, ended}
use Rattle.spd_words.specs.Meaning.{Promise, Awaited, Stage, Going, Ended, BodyView}
use Rattle.spd_words.specs.BodyCalls.{stage_at}
use Rattle.spd_words.specs.declared.finish_kind.FinishKind.{FinishKind}
use Rattle.spd_words.specs.declared.event.Part.{Part}
use Rattle.spd_words.specs.declared.event.Part.TheVariants as part
use Rattle.spd_meaning.specs.Acts.{work_of}
use Rattle.spd_meaning.specs.Eval.{Eval, quiet, end_codes, finish_end, job_total, promise_left}
use Rattle.spd_code.specs.Coded.{Context, around_of, eval_block}
use Rattle.spd_level.specs.Columns.{context_of}
use Rattle.spd_code.specs.Places.{bind_if}
use Rattle.spd_level.specs.declared.step.FinishAt.{FinishAt}
use Rattle.spd_level.specs.declared.frame.Flow.TheVariants as flow
use Rattle.spd_level.specs.declared.frame.Frame.TheVariants as frame
use Rattle.spd_machine.specs.Machine.{machine_left, machine_eval, machine_frames}
use Rattle.spd_machine.specs.declared.machine.Machine.{Machine}
use Rattle.spd_task.specs.declared.task.State.{State}
use Rattle.spd_task.specs.declared.task.State.TheVariants as state
use Rattle.spd_task.specs.declared.task.Task.{Task}

-- ---- what is left

module _ (context : Context) where
  -- the evaluation of the body of a finish that is waited for
  abbrev pub awaited_body : FinishAt → Machine → Eval ℤ
  awaited_body f machine = eval_block (around_of context f.left) f.body.now machine.level.vars.items

  -- what is left behind a finish at this line that this left
  abbrev pub behind_finish : ℕ → Bool → Machine → Total → Eval ℤ
  behind_finish line binds machine total =
      machine_left context machine (quiet (finish_end line (bind_if binds machine.level.vars.items) total))

  -- what is left of a task; where it waits, what is left once it is resumed with what it expects
  abbrev pub left_by : State → Machine → Eval ℤ
  left_by state.Ready machine = machine_eval context machine
  left_by (state.Waits f) machine = behind_finish f.line f.binds machine (job_total f.kind (awaited_body f machine))
  left_by (state.Resumed binds line given) machine = behind_finish line binds machine (ended given)
  left_by state.Ended machine = machine_eval context machine

  abbrev pub awaited_by : State → Machine → Option Awaited
  awaited_by (state.Waits f) machine =
      let total = job_total f.kind (awaited_body f machine) in
      Some (record { kind = f.kind; gift = total.gift; fault = total.fault })
  awaited_by _ machine = None

  -- what is promised by what waits, once it is resumed so
  abbrev pub resumed_by : FinishKind → State → Machine → ℤ → ℕ → Promise
  resumed_by kind (state.Waits f) machine gift fault =
      promise_left kind (behind_finish f.line f.binds machine (record { gift = gift; fault = fault }))
  resumed_by kind _ machine gift fault = promise_left kind (machine_eval context machine)

-- ---- what is told of a task

abbrev pub stage_by : State → Stage
stage_by state.Ready = Going
stage_by (state.Waits f) = Going
stage_by (state.Resumed binds line given) = stage_at given.fault
stage_by state.Ended = Ended

-- what falls with each event: an own fault at the end is one more event
abbrev pub size_left : Eval ℤ → Machine → ℕ
size_left a machine = 4 * work_of a.given + machine_frames machine + length (end_codes a.end)

-- the code and the columns that a task runs over
abbrev pub context_in : Task → Context
context_in task = context_of task.code.now task.columns.now

abbrev pub left_of : Task → Eval ℤ
left_of task = left_by (context_in task) task.state task.machine

abbrev pub task_view : Task → BodyView
task_view task = record {
  means = record {
    kind = task.kind;
    wild = false;
    awaited = awaited_by (context_in task) task.state task.machine;
    promise = promise_left task.kind (left_of task);
  };
  stage = stage_by task.state;
  size = size_left (left_of task) task.machine;
}

-- what a task that waits promises once it is resumed so
abbrev pub resumed_task : Task → ℤ → ℕ → Promise
resumed_task task gift fault = resumed_by (context_in task) task.kind task.state task.machine gift fault

-- ---- parts that fit

-- a task over the same code and columns that has begun no finish inside
pub record IsFreshTask (task part : Task) : Type 0 where
  pub context : context_in part ≡ context_in task
  pub state : part.state ≡ state.Ready
  pub inside : part.machine.inside.items ≡ []
  pub falls_through : part.machine.level.flow ≡ flow.Fell

-- It runs the block of the finish that is waited for, over the values there, where as many calls may be opened.
abbrev pub RunsBlock : State → FinishKind → Machine → Task → Type 0
RunsBlock (state.Waits f) kind machine b =
    (kind ≡ f.kind) × (b.machine.level.vars.items ≡ machine.level.vars.items)
    × (b.machine.level.frames.items ≡ frame.Block f.body 0 0 f.left ∷ [])
RunsBlock _ kind machine b = ⊥

-- an async of the same finish, of which nothing may be left where finishes run inside; or the body of the finish that is waited for
abbrev pub fits_task : Task → Part Task → Type 0
fits_task task (part.Async b) = IsFreshTask task b × (b.kind ≡ task.kind) × (task.state ≡ state.Ready)
    × (((task.machine.inside.items ≡ []) × (task.machine.level.flow ≡ flow.Fell)) ⊎ (b.machine.level.frames.items ≡ []))
fits_task task (part.Finish kind b) = IsFreshTask task b × (b.kind ≡ kind) × RunsBlock task.state kind task.machine b
