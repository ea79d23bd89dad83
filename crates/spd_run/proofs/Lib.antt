-- `run_job_on_workers`: a region's gift, fault and moves are those that its task promises, and a task promises what its job evaluates to (JobTotals).
-- `run_main_on_workers`: main's run is spd_spine's; what is new is its log. The one idea: with the jobs that are still left, the log always comes to
--   the same (`LogSoFar`); a turn takes one job off those that are left (`job_next`), and at the end none is left (MainJobs).
-- LogNumbers: what `with_jobs` comes to, number by number, for who speaks of sums.
pub mod JobTotals
pub mod MainJobs
pub mod LogNumbers
