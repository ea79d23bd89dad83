-- The clauses `root` and `claims` of claim: the handle that was next, a root of the plan, read off the state in which
-- the step was taken (Handles).
-- The clause `turned` of IncrementCall::turn: an arrival at the finish's root, then that claim (Turns).
-- The one idea: with flat counters each node lies under itself alone, so what lies under a finish is its root.
pub mod Handles
pub mod Turns
