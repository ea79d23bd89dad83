-- The one idea: what an evaluation gives is one list of acts, so every law of what is read off it is a law of lists.
-- Hearing: what a finish passes on and what is heard of acts (`heard_passed`, `heard_both`), moves and work of lists.
-- Collecting: a finish collects what comes before (`finish_before`), and a promise is made of what is heard (`promise_heard`, `promise_both`).
-- Sequence: what was given stays before what goes on (`then_before`), and a piece that is done as a whole (`finish_whole`, `call_whole`).
-- Examples: the definitions on small examples, worked out by hand.
-- Nesting: all that statements give nests (`Nested`), so a piece that main meets is one of its jobs (`one_job`).
pub mod Hearing
pub mod Collecting
pub mod Sequence
pub mod Nesting
mod Examples
