-- What jobs that are run by workers add to a log.
use Rattle.std.specs.Prelude.{ℕ, ◌+◌, min, List, [], ◌∷◌}
use Rattle.spd_words.specs.Plan.{PlanView}
use Rattle.spd_work.specs.Logs.{RunLogView, with_region}

-- how many moves a job draws in a field of this plan that has so many without its own
abbrev pub drawn_in : PlanView → ℕ → ℕ
drawn_in plan moves = min (moves + 1) plan.moves

-- a log to which such a job is added
abbrev pub with_job : PlanView → RunLogView → ℕ → RunLogView
with_job plan log moves = with_region plan (drawn_in plan moves) log

-- a log to which jobs of these moves are added, one after the other
unfoldable pub with_jobs : PlanView → RunLogView → List ℕ → RunLogView
with_jobs plan log [] = log
with_jobs plan log (moves ∷ jobs) = with_jobs plan (with_job plan log moves) jobs
