-- Calls driven to their end (src/turns.rt): the invariant is the call's own `Goes` from the beginning, the measure its turns left.
-- Signalled: a signal's answer, by whether it woke a vertex.
-- Events (src/events.rt): `Sits` and what the share runs (specs/Runs), before and after. Over: what a vertex leaves that has ended.
-- Cuts: the body came to an event; what is owed is split by it, and a move that isn't there is paid all the same. Backs: the bodies came back.
-- Pays (src/told.rt): what is told of an offer and a fault. Started, News, Ends (src/worker.rt): a start, what collects first, and the end.
-- WorkerRests (src/worker.rt): what a worker knows between two vertices stays over each of them, and so over all.
-- Makings, Placings (src/placing.rt): the share that makes, and those that are split from it. Seatings: the seats of all workers are 64,
-- before the run and after it. Joins (src/gathering.rt): each share carries the same make, so the mark and what was collected pass on.
-- The one idea: each call's clause gives the view after as a function of the view before, so each entry is the old one or computes.
pub mod Backs
pub mod Cuts
pub mod Ends
pub mod Examples
pub mod Firsts
pub mod Joins
pub mod Makings
pub mod News
pub mod Over
pub mod Pays
pub mod Placings
pub mod Seatings
pub mod Signalled
pub mod Started
pub mod WorkerRests
pub mod Working
