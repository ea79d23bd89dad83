-- What a log comes to with jobs, number by number.
use Rattle.std.proofs.Common.{◌≡◌, ◌≢◌, ℕ, suc, ◌+◌, List, [], ◌∷◌, length, Some, refl, sym, ◌∙◌, ap, arith}
use Rattle.std.specs.Prelude.{◌%◌, ◌^◌}
use Rattle.std.specs.List.{sum_by}
use Rattle.std.proofs.lemmas.List.Sums.{sum_by-cons}
use Rattle.spd_words.specs.Plan.{PlanView}
use Rattle.spd_work.specs.Logs.{RunLogView}
use Rattle.spd_run.specs.JobLogs.{drawn_in, with_job, with_jobs}

none_more : (r : ℕ) → r % 2 ^ 64 ≡ (r + 0) % 2 ^ 64
none_more r = omega arith

one_more : (r n : ℕ) → ((r + 1) % 2 ^ 64 + n) % 2 ^ 64 ≡ (r + suc n) % 2 ^ 64
one_more r n = omega arith

some_more : (r k n : ℕ) → ((r + k) % 2 ^ 64 + n) % 2 ^ 64 ≡ (r + (k + n)) % 2 ^ 64
some_more r k n = omega arith

-- The regions rise by the number of the jobs.
pub regions_after : (plan : PlanView) (log : RunLogView) (jobs : List ℕ) →
    (with_jobs plan log jobs).regions % 2 ^ 64 ≡ (log.regions + length jobs) % 2 ^ 64
unfolding with_jobs
regions_after plan log [] = none_more log.regions
regions_after plan log (m ∷ jobs) = regions_after plan (with_job plan log m) jobs ∙ one_more log.regions (length jobs)

-- The moves rise by what each job draws.
pub moves_after : (plan : PlanView) (log : RunLogView) (jobs : List ℕ) →
    (with_jobs plan log jobs).moves % 2 ^ 64 ≡ (log.moves + sum_by (drawn_in plan) jobs) % 2 ^ 64
unfolding with_jobs
moves_after plan log [] = none_more log.moves
moves_after plan log (m ∷ jobs) =
    moves_after plan (with_job plan log m) jobs
    ∙ some_more log.moves (drawn_in plan m) (sum_by (drawn_in plan) jobs)
    ∙ ap (λ n. (log.moves + n) % 2 ^ 64) (sym (sum_by-cons (drawn_in plan) m jobs))

-- The last plan is theirs, where there was one.
pub plan_after : (plan : PlanView) (log : RunLogView) (jobs : List ℕ) → jobs ≢ [] → (with_jobs plan log jobs).plan ≡ Some plan
unfolding with_jobs
plan_after plan log [] some = absurd (some refl)
plan_after plan log (m ∷ []) some = refl
plan_after plan log (m ∷ k ∷ jobs) some = plan_after plan (with_job plan log m) (k ∷ jobs) (λ e. cc)
