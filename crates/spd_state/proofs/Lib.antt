-- The one idea: "exactly one", "no two" and "is the number of" are sums over words and views; a step changes one summand of each.
-- Sums, Frames, Past, Makers: what a changed word or view does to a sum, and the law of each part; Writes: typed words and raw words.
-- Upwards, Rights, Roots, Lookup: from a unit, a right, a root's word or a list of a view to the root above and the words.
-- Claim Add Sub Settle Start Wake Loads Seats, Showing (what was seen ready): steps of a running share; Full Moved Rooted Handed Paired, then Store
-- with its five kinds: of a move.
-- Pairing, Store, Waiting, Even: what all `set_pair` and all `set_vertex` share, as records of premises (`SetsPair`, `Stored`).
-- Opening: the rule at the start. Ended, InFlight, Zero: a root of 0 leaves nothing unfinished (`none_unfinished`). Over: the end. Bounds: numbers.
-- docs/rule.md has the table of steps with their lemmas, and the matrix of steps against parts.
pub mod Sums
pub mod Writes
pub mod Makers
pub mod Past
pub mod Frames
pub mod Upwards
pub mod Rights
pub mod Roots
pub mod Lookup
pub mod Claim
pub mod Add
pub mod Sub
pub mod Settle
pub mod Start
pub mod Loads
pub mod Seats
pub mod Full
pub mod Moved
pub mod Rooted
pub mod Pairing
pub mod Handed
pub mod Paired
pub mod Store
pub mod Waiting
pub mod Even
pub mod EndVertex
pub mod ChainRest
pub mod LastBody
pub mod SpawnLeft
pub mod SpawnRight
pub mod Opening
pub mod Ended
pub mod InFlight
pub mod Wake
pub mod Showing
pub mod Zero
pub mod Over
pub mod Bounds
