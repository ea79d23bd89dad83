-- The jobs that are left of main, turn by turn, and the log of those that ran.
use Rattle.std.proofs.Common.{◌≡◌, ℕ, [], ◌∷◌, ◌++◌, refl, sym, ◌∙◌, ap, append_assoc, arith, ℤ, Result, Ok, Err}
use Rattle.spd_io.specs.Sink.{SinkState}
use Rattle.spd_words.specs.Plan.{PlanView}
use Rattle.spd_words.specs.Total.{Total}
use Rattle.spd_meaning.specs.Acts.{Acts, Offer, Code, Line, Begin, Finish, Call, Over, Tick, passed, moves_of, jobs_from, jobs_of, beginnings}
use Rattle.spd_meaning.specs.Eval.{Eval, cut, job_moves, value_back, offer_back, back_offered}
use Rattle.spd_meaning.proofs.Hearing.{moves_both}
use Rattle.spd_code.specs.Coded.{Context, around_of, item_returned, eval_block}
use Rattle.spd_code.specs.Places.{fitted}
use Rattle.spd_code.proofs.Jobs.{finish_jobs, call_jobs}
use Rattle.spd_machine.specs.Elision.{job_eval}
use Rattle.spd_machine.specs.declared.job.Job.{Job}
use Rattle.spd_machine.specs.declared.job.JobBody.{JobBody}
use Rattle.spd_machine.specs.declared.job.JobBody.TheVariants as job
use Rattle.spd_spine.specs.Walk.{spine_left, left_with, job_acts, total_of_job, MeetsJob, EndsMain}
use Rattle.spd_spine.specs.declared.turn.End.{End}
use Rattle.spd_spine.specs.declared.spine.Spine.{Spine}
use Rattle.spd_work.specs.Logs.{RunLogView}
use Rattle.spd_run.specs.JobLogs.{with_job, with_jobs}

-- ---- jobs

-- before the next job no finish and no call begins
no_job_in : (p q : Acts) → beginnings p ≡ [] → jobs_of (p ++ q) ≡ jobs_of q
unfolding jobs_from
no_job_in [] q e = refl
no_job_in (Offer v ∷ p) q e = no_job_in p q e
no_job_in (Code c ∷ p) q e = no_job_in p q e
no_job_in (Line l ∷ p) q e = no_job_in p q e
no_job_in (Begin b ∷ p) q e = absurd (cc)
no_job_in (Over ∷ p) q e = no_job_in p q e
no_job_in (Tick ∷ p) q e = no_job_in p q e

no_job_behind : jobs_of [] ≡ []
unfolding jobs_from
no_job_behind = refl

offer_moves : (r : Result ℤ ℕ) → moves_of (offer_back r) ≡ 0
unfolding moves_of
offer_moves (Ok v) = refl
offer_moves (Err c) = refl

back_moves : (a : Eval ℤ) → moves_of (back_offered a).given ≡ moves_of a.given
back_moves a = moves_both a.given (offer_back (value_back a.end)) ∙ (let z = offer_moves (value_back a.end) in omega arith)

job_first : (context : Context) (body : JobBody) (rest : Acts) →
    jobs_of (job_acts context body ++ rest) ≡ job_moves (job_eval context body) ∷ jobs_of rest
job_first context (job.Block block left vars) rest =
    let g = passed (eval_block (around_of context left) block.now vars.items).given in
    ap (λ (q : Acts). jobs_of (Begin Finish ∷ q)) (append_assoc g (Over ∷ []) rest) ∙ finish_jobs context left block.now vars.items rest
job_first context (job.Call item left args) rest =
    let a = eval_block (around_of context left) item.now.body (fitted item.now.params args.items) in
    ap (λ (q : Acts). jobs_of (Begin Call ∷ q)) (append_assoc (item_returned (around_of context left) item.now args.items).given (Over ∷ []) rest)
    ∙ call_jobs context left item.now args.items rest ∙ ap (λ (n : ℕ). n ∷ jobs_of rest) (sym (back_moves a))

-- The job that is met is the next one of those that are left.
job_next : (context : Context) (left : Eval ℤ) (size : ℕ) (was is_now : SinkState) (m : Spine) (job : Job) →
    MeetsJob context left size m was is_now job →
    jobs_of left.given ≡ job_moves (job_eval context job.body) ∷ jobs_of (left_with m (total_of_job context job)).given
job_next context left size was is_now m job t =
    let rest = (left_with m (total_of_job context job)).given in
    ap (λ (a : Eval ℤ). jobs_of a.given) t.next.is
    ∙ no_job_in t.next.given (job_acts context job.body ++ rest) t.next.no_job
    ∙ job_first context job.body rest

no_job_left : (left : Eval ℤ) (was is_now : SinkState) (how : End) → EndsMain left was is_now how → jobs_of left.given ≡ []
no_job_left left was is_now how t =
    ap (λ (a : Eval ℤ). jobs_of a.given) t.next.is ∙ no_job_in t.next.given [] t.next.no_job ∙ no_job_behind

-- ---- the log

-- With the jobs that are left, the log comes to what it was with all of them.
abbrev pub LogSoFar : PlanView → Eval ℤ → Eval ℤ → RunLogView → RunLogView → Type 0
LogSoFar plan whole left start is_now = with_jobs plan is_now (jobs_of left.given) ≡ with_jobs plan start (jobs_of whole.given)

-- A job has run, was added to the log, and its result was given.
pub job_logged : (context : Context) (plan : PlanView) (whole left : Eval ℤ) (size : ℕ) (start was is_now : RunLogView) (x y : SinkState) (m n : Spine)
    (job : Job) (total : Total) → LogSoFar plan whole left start was → MeetsJob context left size m x y job →
    is_now ≡ with_job plan was (job_moves (job_eval context job.body)) → total ≡ total_of_job context job → spine_left n ≡ left_with m total →
    LogSoFar plan whole (spine_left n) start is_now
unfolding with_jobs
job_logged context plan whole left size start was is_now x y m n job total s t log e l =
    let moves = job_moves (job_eval context job.body) in
    ap (λ (k : RunLogView). with_jobs plan k (jobs_of (spine_left n).given)) log
    ∙ ap (λ (a : Eval ℤ). with_jobs plan (with_job plan was moves) (jobs_of a.given)) (l ∙ ap (left_with m) e)
    ∙ sym (ap (with_jobs plan was) (job_next context left size x y m job t)) ∙ s

pub all_logged : (plan : PlanView) (a left : Eval ℤ) (start is_now : RunLogView) (x y : SinkState) (how : End) →
    LogSoFar plan (cut 0 a) left start is_now → EndsMain left x y how → is_now ≡ with_jobs plan start (jobs_of a.given)
unfolding with_jobs
all_logged plan a left start is_now x y how s t = sym (ap (with_jobs plan is_now) (no_job_left left x y how t)) ∙ s
