-- The one idea: an environment is one list of names with values, and the resolver carries its names, so each row of
-- the table is alike by names and by places.
-- Places, Alike: names against places, and one lemma for each combinator. AlikeValues, AlikeTrees: expressions,
-- statements and blocks (`alike_code`).
-- AlikePrograms: calls at every depth (`around_alike`), main (`main_alike`), and that `program_code` is a program's code
-- (`coded`). JobsAlike: jobs (`block_job`, `call_job`). Numbering: a block's number is its place (`body_numbered`).
-- Layers: a block is the run of its statements. Faulting, Laws: what each row keeps holds of every block at every depth
-- (`block_law`, `calls_law`). By it:
-- Silent, Standing: a function whose statements stand well says nothing but its value (`functions_quiet`, `call_total`);
-- Below: the fault of a call is no "no fault" (`function_below`); Never: no code is want of memory (`never`);
-- Jobs: a finish and a call that main meets are one job each (`finish_jobs`, `call_jobs`).
pub mod Lists
pub mod Places
pub mod Alike
pub mod AlikeValues
pub mod Layers
pub mod AlikeTrees
pub mod AlikePrograms
pub mod Faulting
pub mod Laws
pub mod Silent
pub mod Standing
pub mod Below
pub mod Never
pub mod Jobs
pub mod JobsAlike
pub mod Numbering
