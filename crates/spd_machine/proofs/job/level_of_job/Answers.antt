use Rattle.std.proofs.Common.{◌∙◌, ap, sym}
use Rattle.spd_meaning.specs.Eval.{for_finish}
use Rattle.spd_machine.specs.Elision.{job_eval}
use Rattle.spd_level.proofs.Begun.{block_begun}
use Rattle.spd_machine.specs.declared.job.JobBody.{JobBody}
use Rattle.spd_machine.proofs.job.level_of_job.Goals as goal

pub returns-in_ok-level-in-Block-clause-left : goal.returns-in_ok-level-in-Block-clause-left
returns-in_ok-level-in-Block-clause-left c context =
    let e = c.in_ok-level-in-Block.ensures in
    block_begun context c.in_ok-level-in-Block.level c.in-Block.block c.in-Block.left c.in-Block.vars.items e.flow e.vars e.frames
    ∙ ap (λ (b : JobBody). for_finish (job_eval context b)) (sym c.in-Block.is)
