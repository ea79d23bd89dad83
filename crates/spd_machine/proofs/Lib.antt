-- The one idea: what is left of a machine is an evaluation again: a level within finishes inside, and so each turn is one equation (`MachineTurn`)
--   made of the level's.
-- Insides: what is given goes through the finishes inside; the innermost collects it (`inside_collects`), or nothing of it is heard (`goes_through`).
-- Moving: the arms of `Machine::turn`, `run`, `take`. Eliding: the arms of the elision's turn, which keeps what its finish will have (`ElisionTurn`).
-- SourceJobs: what a job has by places is what it has by names (`source_job`), for the second clause of `elide_body`.
pub mod Insides
pub mod Moving
pub mod Eliding
pub mod SourceJobs
