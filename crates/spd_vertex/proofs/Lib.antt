-- The clause `starts` of `start` (src/starting.rt): `Starting` of specs/Starting, from the clauses of see_vertex,
-- start_vertex and trade, in Outcomes.
-- The one idea: each step's rule clause is carried over, with the view between the two steps named.
pub mod Outcomes
pub mod Fits
