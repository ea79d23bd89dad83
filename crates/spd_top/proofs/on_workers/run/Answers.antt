-- Main was run by workers over the columns that were loaded, its end was told, and the log was told of its jobs.
use Rattle.std.proofs.Common.{◌≡◌, ◌∙◌, if◌then◌else◌, OnOk, Option, Some, None, ap, subst, arith}
use Rattle.spd_words.specs.Plan.{PlanView}
use Rattle.spd_meaning.specs.Acts.{jobs_of}
use Rattle.spd_level.specs.Columns.{context_of}
use Rattle.spd_run.specs.JobLogs.{with_jobs}
use Rattle.spd_spine.specs.Walk.{main_eval}
use Rattle.spd_top.specs.declared.counts.RegionCounts.{RegionCounts}
use Rattle.spd_top.specs.declared.words.SerialCommand.TheVariants.{Elide}
use Rattle.spd_top.specs.Requests.{over, counts_for}
use Rattle.spd_top.specs.Rising.{counts_of, risen, counts_told}
use Rattle.spd_top.specs.Serving.{TellsEnd, Answer}
use Rattle.spd_top.proofs.Ended.{end_answers, end_logs, rise_tells}
use Rattle.spd_top.proofs.on_workers.run.Goals as goal

pub returns-in-Err-clause-answer : goal.returns-in-Err-clause-answer
returns-in-Err-clause-answer g c = (c.in-Err.ensures.told (counts_for c.args.settings)).answer (g.O.Sink.state c.args.out.now)

pub returns-in-Err-clause-others : goal.returns-in-Err-clause-others
returns-in-Err-clause-others g c = (c.in-Err.ensures.told (counts_for c.args.settings)).others

pub returns-in-Err-clause-read_cause : goal.returns-in-Err-clause-read_cause
returns-in-Err-clause-read_cause g c = (c.in-Err.ensures.told (counts_for c.args.settings)).read_cause

pub returns-in-Err-clause-log : goal.returns-in-Err-clause-log
returns-in-Err-clause-log g c = λ ends. absurd ((c.in-Err.ensures.told (counts_for c.args.settings)).not_ended ends)

pub returns-clause-others : goal.returns-clause-others
returns-clause-others g c = (c.in-Ok.ensures.loaded (counts_for c.args.settings)).others

pub returns-clause-answer : goal.returns-clause-answer
returns-clause-answer g c =
    let counts = counts_for c.args.settings in
    let old = g.F.Shelf.state c.args.shelf.now in
    let new = g.F.Shelf.state c.load_program.new.shelf in
    let out = g.O.Sink.state c.args.out.now in
    let out' = g.O.Sink.state c.run_main_on_workers-ended.new.out in
    let err = g.E.Sink.state c.load_program.new.err in
    let err' = g.E.Sink.state c.tell_end.new.err in
    let jobs = jobs_of (main_eval (context_of c.tree.result.now c.in-Ok.program.columns)).given in
    let rise : RegionCounts → Option RegionCounts = λ before. if c.args.settings.counts then Some (risen before (counts_of c.run_main_on_workers-ended.new.log)) else None in
    let same : c.risen_in-counts.result ≡ rise (counts_of c.args.log.now) = c.risen_in-counts.ensures ∙ ap rise c.of-before.ensures.counts in
    subst (λ e. Answer (Some (over Elide c.args.name.now counts)) old new out out' (g.E.Sink.state e) err' c.tell_end.result) c.in-Ok.ensures.untold
    (end_answers counts c.args.name.now c.in-Ok.program.code c.tree.result.now c.in-Ok.program.columns old new (c.in-Ok.ensures.loaded counts) c.tree.ensures.meaning
    c.run_main_on_workers-ended.result out out' err err' c.tell_end.result c.run_main_on_workers-ended.ensures.all c.run_main_on_workers-ended.ensures.end
    c.run_main_on_workers-ended.ensures.front c.run_main_on_workers-ended.ensures.cause c.run_main_on_workers-ended.ensures.kept
    (rise_tells c.args.settings jobs c.args.log.now c.run_main_on_workers-ended.new.log (omega (arith, c.of-before.ensures.fits.0, ap (λ (r : RegionCounts). r.regions) c.of-before.ensures.counts))
    (omega (arith, c.of-before.ensures.fits.1, ap (λ (r : RegionCounts). r.moves) c.of-before.ensures.counts))
    c.args.name.now c.run_main_on_workers-ended.result err err' c.tell_end.result
    (subst (λ (plan : PlanView). OnOk c.run_main_on_workers-ended.result (c.run_main_on_workers-ended.new.log ≡ with_jobs plan c.args.log.now jobs)) c.in-Ok-new.ensures.ok
    c.run_main_on_workers-ended.ensures.log)
    (subst (λ (told : Option RegionCounts). TellsEnd (counts_told told) c.args.name.now c.run_main_on_workers-ended.result err err' c.tell_end.result) same c.tell_end.ensures)))

pub returns-clause-log : goal.returns-clause-log
returns-clause-log g c = λ ends.
    let counts = counts_for c.args.settings in
    let old = g.F.Shelf.state c.args.shelf.now in
    let new = g.F.Shelf.state c.load_program.new.shelf in
    let jobs = jobs_of (main_eval (context_of c.tree.result.now c.in-Ok.program.columns)).given in
    end_logs counts c.args.name.now c.in-Ok.program.code c.tree.result.now c.in-Ok.program.columns old new (c.in-Ok.ensures.loaded counts) c.tree.ensures.meaning c.args.settings c.args.log.now
    c.run_main_on_workers-ended.new.log (counts_told c.risen_in-counts.result) c.run_main_on_workers-ended.result (g.E.Sink.state c.load_program.new.err) (g.E.Sink.state c.tell_end.new.err) c.tell_end.result
    (subst (λ (plan : PlanView). OnOk c.run_main_on_workers-ended.result (c.run_main_on_workers-ended.new.log ≡ with_jobs plan c.args.log.now jobs)) c.in-Ok-new.ensures.ok
    c.run_main_on_workers-ended.ensures.log) c.tell_end.ensures ends
