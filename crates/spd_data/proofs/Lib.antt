-- `Texts`: entries are the pieces of one buffer between ends (Pieces: a piece at a place, and pieces behind which
--   more bytes and one more end are put; each by recursion on the ends). `Ints` and `Data` are lists of spd_list.
-- The one idea: what is put behind the last end changes no piece before it.
pub mod Pieces
