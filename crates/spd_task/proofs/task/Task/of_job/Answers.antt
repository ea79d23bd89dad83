use Rattle.std.proofs.Common.{◌∙◌, refl, ap, List}
use Rattle.spd_meaning.specs.Eval.{for_finish}
use Rattle.spd_level.specs.Columns.{context_of}
use Rattle.spd_machine.specs.Machine.{insides_left}
use Rattle.spd_level.specs.Left.{level_eval}
use Rattle.spd_machine.specs.declared.machine.Inside.{Inside}
use Rattle.spd_task.specs.declared.task.State.TheVariants as state
use Rattle.spd_task.specs.declared.task.Task.{Task}
use Rattle.spd_task.proofs.Views.{job_tame}
use Rattle.spd_task.proofs.task.Task.of_job.Goals as goal

pub returns-clause-tame : goal.returns-clause-tame
returns-clause-tame c =
    let x = context_of c.args.code.now c.args.columns.now in
    let t : Task = record {
      code = c.args.code;
      columns = c.args.columns;
      kind = c.args.job.kind;
      machine = record { level = c.in_ok-level.level; inside = c.new.result };
      state = state.Ready;
    } in
    job_tame t c.args.job.body refl (ap (λ (is : List Inside). for_finish (insides_left x is (level_eval x c.in_ok-level.level))) c.new.ensures.items
    ∙ c.in_ok-level.ensures.left x)
