-- Each function answers what `reads_at` gives of the shape that has its name (`Gives`); most goals compute.
-- Repeat: a loop over tokens is `repeat`, one round after another. Levels: putting functions together, level by level,
--   is putting operands together. OperatorRows: a level's operators by the rows of the table. Numbers: digits as a number.
pub mod Repeat
pub mod Levels
pub mod OperatorRows
pub mod Numbers
