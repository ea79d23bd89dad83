-- The one idea: a debt is a promise to a finish; a step moves debts as a list, or pays one of them at one finish.
-- Folds, Gates, Values: one change in a fold, lists under a gate, what words stand for.
-- Owing: what is owed before and after a change of a view, a slot or a vertex (`turn_view`, `turn_slot`); a root of 0 is owed nothing.
-- Turns, Placed: the two laws. `turn_keeps`: a step changes a view and words of books; `placed_keeps`: it writes a vertex and its slot too.
-- Alike Signals Draws Roots First Handed Stores StoreKinds SetVertex Begin Ends Halves: each step of the table keeps the books.
-- Offers, Collects: the steps of the books keep them; Keeping, Marking: and the rule of the table too (`offer_rule` .. `done_rule`).
-- Gives, Seen, Over: what a collected finish has given (`collected_awaited`), what was seen of it, and the end (`region_is`).
-- docs/rule.md, 'The books', has the steps with their lemmas.
pub mod Folds
pub mod Gates
pub mod Values
pub mod Owing
pub mod Turns
pub mod Placed
pub mod Alike
pub mod Signals
pub mod Draws
pub mod Offers
pub mod Collects
pub mod Gives
pub mod Seen
pub mod Begin
pub mod Stores
pub mod StoreKinds
pub mod Roots
pub mod First
pub mod Ends
pub mod Handed
pub mod SetVertex
pub mod Keeping
pub mod Marking
pub mod Halves
pub mod Over
pub mod Standing
pub mod Bookkeeping
pub mod Drawing
pub mod Storing
pub mod Sharing
pub mod Paying
