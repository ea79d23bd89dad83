-- take_from (src/lane.rt): `WereEmpty`, `OneGave` of specs/Looks, lane by lane. proofs/Lanes: one more lane was looked at.
-- Pile (src/pile.rt): the list of a vector that has room, by its own clauses.
-- Ready::push, Ready::take of a locked list (src/locked.rt): its one lane is the value under the lock; take_from's clauses.
pub mod Lanes
