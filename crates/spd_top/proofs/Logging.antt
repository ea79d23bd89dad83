-- What a log says once jobs were added to it.
use Rattle.std.proofs.Common.{◌≡◌, ◌≢◌, ◌∙◌, ℕ, ◌+◌, ◌-◌, ◌≤◌, ◌%◌, ◌^◌, Bool, true, false, if◌then◌else◌, min, List, [], ◌∷◌, length, Some, None, refl, sym, ap, arith}
use Rattle.std.specs.Prelude.{sum_by}
use Rattle.std.proofs.Math.Nat.{mod-add-mod, add-mod_right}
use Rattle.std.proofs.lemmas.List.Sums.{sum_by-cons}
use Rattle.spd_words.specs.declared.scheme.Scheme.TheVariants.{Flat}
use Rattle.spd_words.specs.Plan.{PlanView, planned}
use Rattle.spd_work.specs.Logs.{RunLogView}
use Rattle.spd_run.specs.JobLogs.{with_job, with_jobs}
use Rattle.spd_command.specs.declared.settings.Settings.{Settings}
use Rattle.spd_top.specs.declared.counts.RegionCounts.{RegionCounts}
use Rattle.spd_top.specs.Requests.{counts_for}
use Rattle.spd_top.specs.Told.{of_counts, moves_within, counts_line}
use Rattle.spd_top.specs.Jobs.{RoseBy, LogsJobs}
use Rattle.spd_top.specs.Rising.{counts_of, rise, risen, counts_told}

-- what rises by some and then by more has risen by both
rises_more : (a b old next new : ℕ) → next ≡ (old + a) % 2 ^ 64 → RoseBy b next new → RoseBy (a + b) old new
rises_more a b old next new is rose =
    rose ∙ ap (λ n. (n + b) % 2 ^ 64) is ∙ mod-add-mod (old + a) (2 ^ 64) b ∙ ap (λ n. n % 2 ^ 64) (let e : old + a + b ≡ old + (a + b) = omega arith in e)

module _ (plan : PlanView) where
  abbrev drawn : ℕ → ℕ
  drawn moves = min (moves + 1) plan.moves

  regions_rise : (log : RunLogView) (jobs : List ℕ) → RoseBy (length jobs) log.regions (with_jobs plan log jobs).regions
  unfolding with_jobs
  regions_rise log [] = ap (λ n. n % 2 ^ 64) (let e : log.regions ≡ log.regions + 0 = omega arith in e)
  regions_rise log (m ∷ jobs) =
      let rose = rises_more 1 (length jobs) log.regions (with_job plan log m).regions (with_jobs plan log (m ∷ jobs)).regions refl (regions_rise (with_job plan log m) jobs) in
      rose ∙ ap (λ n. (log.regions + n) % 2 ^ 64) (let e : 1 + length jobs ≡ length (m ∷ jobs) = omega arith in e)

  moves_rise : (log : RunLogView) (jobs : List ℕ) → RoseBy (moves_within plan.moves jobs) log.moves (with_jobs plan log jobs).moves
  unfolding with_jobs
  moves_rise log [] = ap (λ n. n % 2 ^ 64) (let e : log.moves ≡ log.moves + 0 = omega arith in e)
  moves_rise log (m ∷ jobs) =
      let rose = rises_more (drawn m) (sum_by drawn jobs) log.moves (with_job plan log m).moves (with_jobs plan log (m ∷ jobs)).moves refl (moves_rise (with_job plan log m) jobs) in
      rose ∙ ap (λ n. (log.moves + n) % 2 ^ 64) (sym (sum_by-cons drawn m jobs))

  -- The plan of a job stands there from then on.
  plan_stays : (log : RunLogView) (jobs : List ℕ) → log.plan ≡ Some plan → (with_jobs plan log jobs).plan ≡ Some plan
  unfolding with_jobs
  plan_stays log [] is = is
  plan_stays log (m ∷ jobs) is = plan_stays (with_job plan log m) jobs refl

  plan_comes : (log : RunLogView) (jobs : List ℕ) → jobs ≢ [] → (with_jobs plan log jobs).plan ≡ Some plan
  unfolding with_jobs
  plan_comes log [] some = absurd (some refl)
  plan_comes log (m ∷ jobs) some = plan_stays (with_job plan log m) jobs refl

  none_added : (log : RunLogView) (jobs : List ℕ) → jobs ≡ [] → with_jobs plan log jobs ≡ log
  unfolding with_jobs
  none_added log [] is = refl
  none_added log (m ∷ jobs) is = absurd (let wrong : m ∷ jobs ≡ [] = is in cc)

pub logs_jobs : (settings : Settings) (log : RunLogView) (jobs : List ℕ) → LogsJobs settings jobs log (with_jobs (planned Flat settings.moves settings.nodes) log jobs)
logs_jobs settings log jobs =
    let plan = planned Flat settings.moves settings.nodes in
    record {
      regions = regions_rise plan log jobs;
      moves = moves_rise plan log jobs;
      plan = plan_comes plan log jobs;
      none = none_added plan log jobs;
    }

-- ---- what is told of a log's rise

-- What a number of 64 bits rose by is its rise, modulo 2^64.
rise_is : (amount old new : ℕ) → old ≤ 2 ^ 64 → RoseBy amount old new → rise old new ≡ amount % 2 ^ 64
rise_is amount old new within rose =
    let less = 2 ^ 64 - old in
    let whole : old + amount + less ≡ amount + 2 ^ 64 = omega arith in
    sym (mod-add-mod new (2 ^ 64) less) ∙ ap (λ n. (n + less) % 2 ^ 64) rose ∙ mod-add-mod (old + amount) (2 ^ 64) less ∙ ap (λ n. n % 2 ^ 64) whole ∙ add-mod_right amount (2 ^ 64)

-- By the rise of a log the jobs are told that were added to it.
pub rise_told : (settings : Settings) (jobs : List ℕ) (old new : RunLogView) → old.regions ≤ 2 ^ 64 → old.moves ≤ 2 ^ 64 → LogsJobs settings jobs old new
    → counts_told (if settings.counts then Some (risen (counts_of old) (counts_of new)) else None) ≡ counts_line (counts_for settings) jobs
rise_told settings jobs old new few few' logs = by_flag settings.counts
  where
    by_flag : (asked : Bool) → counts_told (if asked then Some (risen (counts_of old) (counts_of new)) else None) ≡ counts_line (if asked then Some settings.moves else None) jobs
    by_flag false = refl
    by_flag true =
        let regions : rise old.regions new.regions ≡ length jobs % 2 ^ 64 = rise_is (length jobs) old.regions new.regions few logs.regions in
        let moves : rise old.moves new.moves ≡ moves_within settings.moves jobs % 2 ^ 64 = rise_is (moves_within settings.moves jobs) old.moves new.moves few' logs.moves in
        ap (λ n. of_counts n (rise old.moves new.moves)) regions ∙ ap (λ n. of_counts (length jobs % 2 ^ 64) n) moves
