-- A run was answered as its request is, and all else as without workers.
use Rattle.std.proofs.Common.{◌≡◌, ◌∙◌, ℕ, List, Option, Some, refl, sym, subst}
use Rattle.std.specs.Prelude.{option_map}
use Rattle.spd_command.specs.declared.command.Command.TheVariants.{Run, Job}
use Rattle.spd_command.specs.declared.settings.Settings.{Settings}
use Rattle.spd_command.specs.Asked.{Asked, run, job}
use Rattle.spd_top.specs.declared.words.SerialCommand.TheVariants.{Elide}
use Rattle.spd_top.specs.BuiltIn.{job_name, job_shelf, shelf_in, shelf_for}
use Rattle.spd_top.specs.Requests.{over, counts_for, request_in, request_of, settings_asked}
use Rattle.spd_top.specs.Serving.{IsUnread, Answer}
use Rattle.spd_top.specs.Jobs.{LogsRun}
use Rattle.spd_top.proofs.Asking.{none_asked, request_still, still_answers, asked_is, one_settings}
use Rattle.spd_top.proofs.Answering.{wanted, answer_writes, answer_keeps_out, answer_keeps_err}
use Rattle.spd_top.proofs.on_workers.serve.Goals as goal

-- ---- no workers

pub returns-then-not-ask_workers-clause-answer : goal.returns-then-not-ask_workers-clause-answer
returns-then-not-ask_workers-clause-answer g c =
    let none = none_asked (settings_asked c.args.words.now) (sym c.ask_workers.ensures ∙ c.if-not-ask_workers.true) in
    still_answers c.args.words.now none
    (λ r old new. Answer r old new (g.O.Sink.state c.args.out.now) (g.O.Sink.state c.serve_still.new.out) (g.E.Sink.state c.args.err.now) (g.E.Sink.state c.serve_still.new.err) c.serve_still.result)
    (g.F.Shelf.state c.args.shelf.now) (g.F.Shelf.state c.serve_still.new.shelf) c.serve_still.ensures.answer

pub returns-then-not-ask_workers-clause-refused : goal.returns-then-not-ask_workers-clause-refused
returns-then-not-ask_workers-clause-refused g c =
    let none = none_asked (settings_asked c.args.words.now) (sym c.ask_workers.ensures ∙ c.if-not-ask_workers.true) in
    λ no_request. c.serve_still.ensures.refused (request_still c.args.words.now none ∙ no_request)

-- ---- a run

pub returns-in-Ok-Run-clause-read_cause : goal.returns-in-Ok-Run-clause-read_cause
returns-in-Ok-Run-clause-read_cause g c =
    let is = asked_is c.args.words.now c.in-Ok-Run.field-0 (Run c.in-Ok-Run.program c.in-Ok-Run.settings) c.in-Ok-Run.ensures.read c.in-Ok-Run.field-0-is in
    subst (λ (o : Option Asked). c.run.result ≡ 4 → (x : List ℕ) × IsUnread (option_map request_in o) (shelf_in o (g.F.Shelf.state c.args.shelf.now)) (shelf_in o (g.F.Shelf.state c.run.new.shelf)) x)
    is c.run.ensures.read_cause

pub returns-in-Ok-Run-clause-logged : goal.returns-in-Ok-Run-clause-logged
returns-in-Ok-Run-clause-logged g c = λ settings asks ends.
    let is = asked_is c.args.words.now c.in-Ok-Run.field-0 (Run c.in-Ok-Run.program c.in-Ok-Run.settings) c.in-Ok-Run.ensures.read c.in-Ok-Run.field-0-is in
    let shelf = g.F.Shelf.state c.args.shelf.now in
    subst (λ (s : Settings). LogsRun s (request_of c.args.words.now) (shelf_for c.args.words.now shelf).file c.args.log.now c.run.new.log)
    (one_settings c.args.words.now (run c.in-Ok-Run.program.now c.in-Ok-Run.settings) c.in-Ok-Run.settings settings is refl asks)
    (subst (λ (o : Option Asked). LogsRun c.in-Ok-Run.settings (option_map request_in o) (shelf_in o shelf).file c.args.log.now c.run.new.log) is (c.run.ensures.log ends))

pub returns-in-Ok-Run-clause-write_cause : goal.returns-in-Ok-Run-clause-write_cause
returns-in-Ok-Run-clause-write_cause g c =
    answer_writes (Some (over Elide c.in-Ok-Run.program.now (counts_for c.in-Ok-Run.settings))) (g.F.Shelf.state c.args.shelf.now) (g.F.Shelf.state c.run.new.shelf) (g.O.Sink.state c.args.out.now) (g.O.Sink.state c.run.new.out)
    (g.E.Sink.state c.args.err.now) (g.E.Sink.state c.run.new.err) c.run.result c.run.ensures.answer

pub returns-in-Ok-Run-clause-out_kept : goal.returns-in-Ok-Run-clause-out_kept
returns-in-Ok-Run-clause-out_kept g c =
    answer_keeps_out (Some (over Elide c.in-Ok-Run.program.now (counts_for c.in-Ok-Run.settings))) (g.F.Shelf.state c.args.shelf.now) (g.F.Shelf.state c.run.new.shelf) (g.O.Sink.state c.args.out.now) (g.O.Sink.state c.run.new.out)
    (g.E.Sink.state c.args.err.now) (g.E.Sink.state c.run.new.err) c.run.result c.run.ensures.answer

pub returns-in-Ok-Run-clause-err_kept : goal.returns-in-Ok-Run-clause-err_kept
returns-in-Ok-Run-clause-err_kept g c =
    answer_keeps_err (Some (over Elide c.in-Ok-Run.program.now (counts_for c.in-Ok-Run.settings))) (g.F.Shelf.state c.args.shelf.now) (g.F.Shelf.state c.run.new.shelf) (g.O.Sink.state c.args.out.now) (g.O.Sink.state c.run.new.out)
    (g.E.Sink.state c.args.err.now) (g.E.Sink.state c.run.new.err) c.run.result c.run.ensures.answer

-- ---- a job

pub returns-in-Ok-Job-clause-write_cause : goal.returns-in-Ok-Job-clause-write_cause
returns-in-Ok-Job-clause-write_cause g c =
    answer_writes (Some (over Elide job_name (counts_for c.in-Ok-Job.settings))) (job_shelf c.in-Ok-Job.rows c.in-Ok-Job.seed) (job_shelf c.in-Ok-Job.rows c.in-Ok-Job.seed) (g.O.Sink.state c.args.out.now) (g.O.Sink.state c.run_job.new.out)
    (g.E.Sink.state c.args.err.now) (g.E.Sink.state c.run_job.new.err) c.run_job.result c.run_job.ensures.answer

pub returns-in-Ok-Job-clause-out_kept : goal.returns-in-Ok-Job-clause-out_kept
returns-in-Ok-Job-clause-out_kept g c =
    answer_keeps_out (Some (over Elide job_name (counts_for c.in-Ok-Job.settings))) (job_shelf c.in-Ok-Job.rows c.in-Ok-Job.seed) (job_shelf c.in-Ok-Job.rows c.in-Ok-Job.seed) (g.O.Sink.state c.args.out.now) (g.O.Sink.state c.run_job.new.out)
    (g.E.Sink.state c.args.err.now) (g.E.Sink.state c.run_job.new.err) c.run_job.result c.run_job.ensures.answer

pub returns-in-Ok-Job-clause-err_kept : goal.returns-in-Ok-Job-clause-err_kept
returns-in-Ok-Job-clause-err_kept g c =
    answer_keeps_err (Some (over Elide job_name (counts_for c.in-Ok-Job.settings))) (job_shelf c.in-Ok-Job.rows c.in-Ok-Job.seed) (job_shelf c.in-Ok-Job.rows c.in-Ok-Job.seed) (g.O.Sink.state c.args.out.now) (g.O.Sink.state c.run_job.new.out)
    (g.E.Sink.state c.args.err.now) (g.E.Sink.state c.run_job.new.err) c.run_job.result c.run_job.ensures.answer

pub returns-in-Ok-Job-clause-logged : goal.returns-in-Ok-Job-clause-logged
returns-in-Ok-Job-clause-logged g c = λ settings asks ends.
    let is = asked_is c.args.words.now c.in-Ok-Job.field-0 (Job c.in-Ok-Job.rows c.in-Ok-Job.seed c.in-Ok-Job.settings) c.in-Ok-Job.ensures.read c.in-Ok-Job.field-0-is in
    let shelf = g.F.Shelf.state c.args.shelf.now in
    subst (λ (s : Settings). LogsRun s (request_of c.args.words.now) (shelf_for c.args.words.now shelf).file c.args.log.now c.run_job.new.log)
    (one_settings c.args.words.now (job c.in-Ok-Job.rows c.in-Ok-Job.seed c.in-Ok-Job.settings) c.in-Ok-Job.settings settings is refl asks)
    (subst (λ (o : Option Asked). LogsRun c.in-Ok-Job.settings (option_map request_in o) (shelf_in o shelf).file c.args.log.now c.run_job.new.log) is (c.run_job.ensures.log ends))

-- ---- want of memory for it

pub returns-in-Err-NoMemory-clause-answer : goal.returns-in-Err-NoMemory-clause-answer
returns-in-Err-NoMemory-clause-answer g c =
    wanted (request_of c.args.words.now) (shelf_for c.args.words.now (g.F.Shelf.state c.args.shelf.now)) (shelf_for c.args.words.now (g.F.Shelf.state c.args.shelf.now)) (g.O.Sink.state c.args.out.now) (g.E.Sink.state c.args.err.now)
    (g.E.Sink.state c.out_of_memory.new.err) c.out_of_memory.result c.out_of_memory.ensures
