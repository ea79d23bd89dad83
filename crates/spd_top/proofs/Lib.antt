-- `Words::ask_still`, `Words::ask_workers`, `Words::command`: Asking, what the words ask for, by the command that is read of them.
-- `serve`, `serve_still`: `Answer`, by cases of the outcome. Answering: which row it is, and what a status tells of what failed.
--   Early: what ends a command before its program runs (`AnswersEarly`), by PROGRAM's text and by its data files.
--   Ended: what is answered where it ran; Tellings: what is told of a program that runs (`Tells`), by what its main came to;
--   Putting: what was put. Loads: what a shelf tells after a read it told before; loaded columns fit; files that are told come to
--   one thing. Logging: what a log says once the jobs of a run were added to it (`LogsJobs`), and that its rise is what is told of them.
--   OwnFiles: no read of a job's files fails.
-- `coins_for`, `AreNewCoins`: NewCoins, one coin more.
-- `serve_arguments` answers what `serve` does for the words: Claims, in each of its three ways out; Texts: whether
--   the words are UTF-8.
-- `build`, `ComesTo`: Refusals, what an error tells. OneFault, OneOutcome: a text comes to one outcome, since a first
--   fault has none before it, so of two the later isn't first; and a command line over told files has one,
--   by Loads for its data files.
pub mod Asking
pub mod Refusals
pub mod OneFault
pub mod OneOutcome
pub mod Putting
pub mod Loads
pub mod Tellings
pub mod Answering
pub mod Early
pub mod Logging
pub mod NewCoins
pub mod Ended
pub mod OwnFiles
pub mod Claims
pub mod Texts
