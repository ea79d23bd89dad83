-- Each step's public clause `view`: the function of spd_state's `specs/Steps` of its name; `rule`: `StepUnderRule`.
-- Glue: from typed words to words, once for each kind of word; `under_rule` shows the states of a step.
-- Claims, Roots, ..: what the table allows, from the lemma of spd_state that the step keeps the rule.
-- Mirrors: the numbers beside a seat after a step. Conserved: a step brings no body into a slot.
-- Looking, Waking, Starts: what was seen ready stands, so that a late start finds the vertex started.
pub mod Conserved
pub mod Follows
pub mod Glue
pub mod Likeness
pub mod Claims
pub mod Blanks
pub mod Found
pub mod Started
pub mod Begins
pub mod Counts
pub mod Roots
pub mod Mirrors
pub mod Joining
pub mod Draws
pub mod Starts
pub mod Sets
pub mod Home
pub mod Resting
pub mod Settled
pub mod Stores
pub mod Stored
pub mod Looking
pub mod Waking
pub mod Offering
pub mod Collecting
pub mod Ending
pub mod Final
