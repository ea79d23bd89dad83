-- `all_arguments` gathers what is told, one argument a turn: Gathering.
-- `DirShelf` counts a failed read for its name alone: the counts of spd_io. Its `read_within` gives all bytes that are
--   left: Taking.
-- `StdStream` counts each refused piece once; no lemma is wanted.
pub mod Gathering
pub mod Taking
