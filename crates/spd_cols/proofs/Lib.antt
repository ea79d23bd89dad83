-- `int_column`, `text_column`: entries so far, joined with those of the records that are left, are the column of the whole file, or
--   its first fault (Entries). What is left is a function of the reader: the records of its bytes, of which each read takes at
--   least a byte, so that no count of turns shows (Records); a read gives the first of them (ReadSteps). Fields: a record's
--   fields by their places. Numbers: digits that stand for too great a number.
-- `lines`: the pieces of a file are the first one and the pieces behind its LF (LinePieces).
-- `load`: the columns so far are those of the items before the next one, over files that the shelf may have held all along
--   (LoadSteps); what an item adds, or why it adds none, carries this on.
-- `make_csv`: the loop over rows keeps the file of the rows so far (proofs/made), and nothing else is wanted.
-- The one idea: what is left is a list again, and each turn takes its first element.
pub mod Numbers
pub mod Records
pub mod ReadSteps
pub mod Fields
pub mod Entries
pub mod LinePieces
pub mod LoadSteps
pub mod FilesOfColumns
