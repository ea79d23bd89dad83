-- The clauses `fits` of turns.rt, and the invariant `fits` of a worker: what its stage says of its share's view.
-- FitsStage (specs/Workers) from IsOver and unmoved_view (spd_dag), in Turning; the conditions of calls in Beginning,
-- and what a vertex that waited knows once it has collected in Resuming (PieceGoesOn).
-- The one idea: a call's beginning is kept, and what a share knows at its end is a function of the beginning.
pub mod Turning
pub mod Beginning
pub mod Resuming
