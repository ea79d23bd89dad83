-- What a job's region draws and adds to a log, by the job's evaluation.
use Rattle.std.proofs.Common.{◌≡◌, ℕ, ◌+◌, refl, ◌∙◌, ap, arith, ℤ}
use Rattle.std.specs.Prelude.{min}
use Rattle.spd_words.specs.Plan.{PlanView}
use Rattle.spd_words.specs.Meaning.{Promise, BodyView}
use Rattle.spd_words.specs.Total.{Total}
use Rattle.spd_words.specs.declared.finish_kind.FinishKind.{FinishKind}
use Rattle.spd_meaning.specs.Acts.{moves_of}
use Rattle.spd_meaning.specs.Eval.{End, Fell, Back, Fault, Eval, end_codes, for_finish, job_total, job_moves, promise_left}
use Rattle.spd_meaning.proofs.Hearing.{moves_both}
use Rattle.spd_rule.specs.Closings.{closed_plan, closed_words, drawn_moves}
use Rattle.spd_work.specs.Logs.{RunLogView, with_region}
use Rattle.spd_work.specs.Regions.{IsRegion}
use Rattle.spd_work.specs.declared.region_end.RegionEnd.{RegionEnd}
use Rattle.spd_run.specs.JobLogs.{drawn_in, with_job}

no_moves : (e : End ℤ) → moves_of (end_codes e) ≡ 0
unfolding moves_of
no_moves (Fell vars) = refl
no_moves (Back v) = refl
no_moves (Fault c) = refl

-- a fault at the end is no move
moves_left : (a : Eval ℤ) → moves_of (for_finish a) ≡ job_moves a
moves_left a = moves_both a.given (end_codes a.end) ∙ (let z = no_moves a.end in omega arith)

-- Where a body promises what a job gives, its region gives that.
pub region_total : {B : Type 0} (plan : PlanView) (b : BodyView) (r : RegionEnd B) (kind : FinishKind) (a : Eval ℤ) (total : Total) →
    IsRegion plan b r → b.means.promise ≡ promise_left kind a → total.gift ≡ r.gift → total.fault ≡ r.fault → total ≡ job_total kind a
region_total plan b r kind a total h q g f =
    let e : total.gift ≡ (job_total kind a).gift = g ∙ h.gift ∙ ap (λ (x : Promise). x.gift) q in
    let k : total.fault ≡ (job_total kind a).fault = f ∙ h.fault ∙ ap (λ (x : Promise). x.fault) q in
    ap (λ (x : ℤ). record { gift = x; fault = total.fault }) e ∙ ap (λ (y : ℕ). record { gift = (job_total kind a).gift; fault = y }) k

-- It leaves a field that adds that job to a log.
pub region_logged : {B : Type 0} (plan p : PlanView) (b : BodyView) (r : RegionEnd B) (kind : FinishKind) (a : Eval ℤ) (log : RunLogView) →
    IsRegion plan b r → plan ≡ p → b.means.promise ≡ promise_left kind a →
    with_region (closed_plan r.closed) (drawn_moves (closed_plan r.closed) (closed_words r.closed)) log ≡ with_job p log (job_moves a)
region_logged plan p b r kind a log h e q =
    let m : b.means.promise.moves ≡ job_moves a = ap (λ (x : Promise). x.moves) q ∙ moves_left a in
    let n : drawn_moves plan (closed_words r.closed) ≡ drawn_in p (job_moves a) =
    h.moves ∙ ap (λ (k : ℕ). min (k + 1) plan.moves) m ∙ ap (λ (z : PlanView). min (job_moves a + 1) z.moves) e in
    ap (λ (z : PlanView). with_region z (drawn_moves z (closed_words r.closed)) log) h.of
    ∙ ap (λ (k : ℕ). with_region plan k log) n
    ∙ ap (λ (z : PlanView). with_region z (drawn_in p (job_moves a)) log) e
