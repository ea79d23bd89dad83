-- `run_within`, gift and fault: `OutermostWillHave` says of each state what the outermost finish will have; what is
--   collected, joined with what the unended vertices promise, stays the same at each step (`DagOutcome`).
-- `run_within`, moves: `DagDraws`; a drawn move is one that was promised, and once no move is left both sides are the bound.
-- Snoc: the last of a list. Finishes: one finish, where its newest vertex changes. DagEvents: a vertex goes on, with
--   asyncs and finishes as vertices or inside. DagEnds: a vertex ends, a finish closes, and a turn is one of these.
mod Snoc
mod Finishes
mod DagEvents
mod DagEnds
