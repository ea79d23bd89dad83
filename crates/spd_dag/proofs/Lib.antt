-- `turned` of each call: for each stage one answer, over the lemmas of its call.
-- Seen: what the rule shows at a step (the numbers of the running vertex, the drawn number, a claimed handle).
-- Chaining, Spawning, Signalling, MakeSteps: that the share may take the step of each stage.
pub mod Seen
pub mod Chaining
pub mod ChainTurns
pub mod Signalling
pub mod SignalTurns
pub mod Spawning
pub mod SpawnTurns
pub mod MakeSteps
