-- `Task`'s calls: what is left of a task is an evaluation (`left_of`), and each event is the next thing that is heard of
--   it (`IsNext`). The one idea: a promise is a function of what is heard, so that every split is an equation of lists.
-- Splits: what is heard is split off a promise. Events: each thing that a machine meets, as an event (`TaskGave`).
-- Views: `TaskGave` as the trait's clauses; tame stays tame, since no code of an evaluation is 0 at any depth.
-- Taken: parts that are taken inside: an async whose frames stand upon the task's, and a finish whose level is handed over.
-- `PlainRegions`: a region gives what its body promises, and a task promises what its job gives.
-- Sends: a task may go to another thread, layer by layer of its types.
mod Splits
mod Events
mod Views
mod Taken
pub mod Sends
