-- What is left of main is an evaluation again, cut at its jobs: what was left is the lines that a turn puts, then a job or the end, then what is left with the
--   job's result (`SpineTurned`, specs/Walk).
-- Putting: the bytes that a sink gets, one piece after the other. Walking: one turn of main's level, which puts a line, meets a job or ends (`finish_met`,
--   `call_met`, `over_met`).
-- Spines: the same as turns of a spine, for `Spine::next` (`turns_behind`), and the whole run, for `run_main` (`job_done`, `all_put`, `main_ends`).
pub mod Putting
pub mod Walking
pub mod Spines
