use Rattle.std.proofs.Common.{◌∙◌, sym, ap}
use Rattle.std.proofs.lemmas.Result.{err_from_is_err_and}
use Rattle.spd_words.specs.Total.{ended}
use Rattle.spd_meaning.specs.Eval.{job_moves}
use Rattle.spd_code.specs.Coded.{Context}
use Rattle.spd_level.specs.Columns.{context_of}
use Rattle.spd_machine.specs.Elision.{job_eval}
use Rattle.spd_spine.specs.Walk.{main_eval, spine_context, spine_left, spine_size, total_of_job}
use Rattle.spd_spine.specs.declared.turn.End.TheVariants as end
use Rattle.spd_spine.proofs.Putting.{region_goes_well}
use Rattle.spd_spine.proofs.Spines.{whole_main, job_done, job_falls, front_so_far, front_at_job, all_put, main_ends}
use Rattle.spd_run.specs.JobLogs.{with_job}
use Rattle.spd_run.proofs.MainJobs.{job_logged, all_logged}
use Rattle.spd_run.proofs.mains.run_main_on_workers.Goals as goal

pub returns-in_err-given-in-Region-clause-front : goal.returns-in_err-given-in-Region-clause-front
returns-in_err-given-in-Region-clause-front g c =
    let p = err_from_is_err_and c.from_residual-in_err-given-in-Region.result c.from_residual-in_err-given-in-Region.ensures.1 in
    let l = c.loop-job.spine in
    let was = g.O.Sink.state c.loop-job.out in
    let is_now = g.O.Sink.state c.next.new.out in
    rw p.1 (front_so_far (whole_main (context_of c.args.code.now c.args.columns.now)) (spine_left l) (g.O.Sink.state c.args.out.now) was is_now
    c.loop-job.invariant.so_far
    (front_at_job (spine_context l) (spine_left l) (spine_size l) was is_now c.next.new.self c.in-Region.job c.in-Region.ensures.turned))

pub loop-job-preserved : goal.loop-job-preserved
loop-job-preserved g c =
    let i = c.loop-job.invariant in
    let l = c.loop-job.spine in
    let job = c.in-Region.job in
    let given = c.in_ok-given-in-Region.given in
    let e = c.in_ok-given-in-Region.ensures.given ∙ ap (λ (x : Context). total_of_job x job) (sym i.context) in
    record {
      so_far = job_done (spine_context l) (whole_main (context_of c.args.code.now c.args.columns.now)) (spine_left l) (spine_size l)
          (g.O.Sink.state c.args.out.now) (g.O.Sink.state c.loop-job.out) (g.O.Sink.state c.next.new.out) c.next.new.self c.give.new.self job (ended given)
          i.so_far c.in-Region.ensures.turned e c.give.ensures.left;
      logged = job_logged (spine_context l) c.args.plan (whole_main (context_of c.args.code.now c.args.columns.now)) (spine_left l) (spine_size l)
          c.args.log.now c.loop-job.log c.run_job_on_workers.new.log (g.O.Sink.state c.loop-job.out) (g.O.Sink.state c.next.new.out) c.next.new.self
          c.give.new.self job (ended given) i.logged c.in-Region.ensures.turned
          (c.in_ok-given-in-Region.ensures.log ∙ ap (λ (x : Context). with_job c.args.plan c.loop-job.log (job_moves (job_eval x job.body))) (sym i.context))
          e c.give.ensures.left;
      going = c.give.ensures.standing;
      context = c.give.ensures.context ∙ c.in-Region.ensures.context ∙ i.context;
      kept = c.in-Region.ensures.kept (region_goes_well job) ∙ i.kept;
    }

pub loop-job-smaller : goal.loop-job-smaller
loop-job-smaller g c =
    let l = c.loop-job.spine in
    let job = c.in-Region.job in
    let e = c.in_ok-given-in-Region.ensures.given ∙ ap (λ (x : Context). total_of_job x job) (sym c.loop-job.invariant.context) in
    job_falls (spine_context l) (spine_left l) (spine_size l) (g.O.Sink.state c.loop-job.out) (g.O.Sink.state c.next.new.out) c.next.new.self c.give.new.self
    job (ended c.in_ok-given-in-Region.given) c.in-Region.ensures.turned e c.give.ensures.size

pub returns-in-Done-clause-all : goal.returns-in-Done-clause-all
returns-in-Done-clause-all g c =
    all_put (main_eval (context_of c.args.code.now c.args.columns.now)) (spine_left c.loop-job.spine) (g.O.Sink.state c.args.out.now)
    (g.O.Sink.state c.loop-job.out) (g.O.Sink.state c.next.new.out) end.Done c.loop-job.invariant.so_far c.in-Done.ensures.turned

pub returns-in-Done-clause-end : goal.returns-in-Done-clause-end
returns-in-Done-clause-end g c =
    main_ends (main_eval (context_of c.args.code.now c.args.columns.now)) (spine_left c.loop-job.spine) (g.O.Sink.state c.args.out.now)
    (g.O.Sink.state c.loop-job.out) (g.O.Sink.state c.next.new.out) end.Done c.loop-job.invariant.so_far c.in-Done.ensures.turned

pub returns-in-Fault-clause-all : goal.returns-in-Fault-clause-all
returns-in-Fault-clause-all g c =
    all_put (main_eval (context_of c.args.code.now c.args.columns.now)) (spine_left c.loop-job.spine) (g.O.Sink.state c.args.out.now)
    (g.O.Sink.state c.loop-job.out) (g.O.Sink.state c.next.new.out) (end.Fault c.in-Fault.fault) c.loop-job.invariant.so_far c.in-Fault.ensures.turned

pub returns-in-Fault-clause-end : goal.returns-in-Fault-clause-end
returns-in-Fault-clause-end g c =
    main_ends (main_eval (context_of c.args.code.now c.args.columns.now)) (spine_left c.loop-job.spine) (g.O.Sink.state c.args.out.now)
    (g.O.Sink.state c.loop-job.out) (g.O.Sink.state c.next.new.out) (end.Fault c.in-Fault.fault) c.loop-job.invariant.so_far c.in-Fault.ensures.turned

pub returns-in-Stopped-clause-front : goal.returns-in-Stopped-clause-front
returns-in-Stopped-clause-front g c =
    front_so_far (whole_main (context_of c.args.code.now c.args.columns.now)) (spine_left c.loop-job.spine) (g.O.Sink.state c.args.out.now)
    (g.O.Sink.state c.loop-job.out) (g.O.Sink.state c.next.new.out) c.loop-job.invariant.so_far c.in-Stopped.ensures.turned

pub returns-in-NoMemory-clause-front : goal.returns-in-NoMemory-clause-front
returns-in-NoMemory-clause-front g c =
    front_so_far (whole_main (context_of c.args.code.now c.args.columns.now)) (spine_left c.loop-job.spine) (g.O.Sink.state c.args.out.now)
    (g.O.Sink.state c.loop-job.out) (g.O.Sink.state c.next.new.out) c.loop-job.invariant.so_far c.in-NoMemory.ensures.turned

pub returns-in-Done-clause-log : goal.returns-in-Done-clause-log
returns-in-Done-clause-log g c =
    all_logged c.args.plan (main_eval (context_of c.args.code.now c.args.columns.now)) (spine_left c.loop-job.spine) c.args.log.now c.loop-job.log
    (g.O.Sink.state c.loop-job.out) (g.O.Sink.state c.next.new.out) end.Done c.loop-job.invariant.logged c.in-Done.ensures.turned

pub returns-in-Fault-clause-log : goal.returns-in-Fault-clause-log
returns-in-Fault-clause-log g c =
    all_logged c.args.plan (main_eval (context_of c.args.code.now c.args.columns.now)) (spine_left c.loop-job.spine) c.args.log.now c.loop-job.log
    (g.O.Sink.state c.loop-job.out) (g.O.Sink.state c.next.new.out) (end.Fault c.in-Fault.fault) c.loop-job.invariant.logged c.in-Fault.ensures.turned
