-- The built-in program was run over its own files, of which no read fails.
use Rattle.std.proofs.Common.{Some, subst, ℕ}
use Rattle.spd_top.specs.declared.words.SerialCommand.TheVariants.{Elide}
use Rattle.spd_top.specs.BuiltIn.{job_name, job_shelf}
use Rattle.spd_top.specs.Requests.{over, counts_for}
use Rattle.spd_top.specs.Serving.{Answer}
use Rattle.spd_top.proofs.OwnFiles.{job_answers}
use Rattle.spd_top.proofs.on_workers.run_job.Goals as goal

pub returns-clause-answer : goal.returns-clause-answer
returns-clause-answer g c =
    rw (c.new-shelf.ensures.0, c.new-shelf.ensures.1) at
    (job_answers (Some (over Elide job_name (counts_for c.args.settings))) c.new-shelf.result.rows c.new-shelf.result.seed c.run.new.shelf.rows c.run.new.shelf.seed
    (g.O.Sink.state c.args.out.now) (g.O.Sink.state c.run.new.out) (g.E.Sink.state c.args.err.now) (g.E.Sink.state c.run.new.err) c.run.result c.run.ensures.answer)
