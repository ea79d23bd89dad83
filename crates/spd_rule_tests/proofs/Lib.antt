-- Each step's ghost field `ties`: the notes say of the share's view after the step what `Ties` names.
-- Drawn: after a draw; Placed: after a root, a pair or a vertex is set; Signalled: after a start, a claim and a step on a count.
-- The one idea: a step's clause gives the view after as a function of the view before, so each entry of `Ties` is the old one or computes.
pub mod Drawn
pub mod Placed
pub mod Stored
pub mod Signalled
pub mod Paid
