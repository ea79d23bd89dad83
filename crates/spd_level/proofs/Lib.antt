-- The one idea: what is left of a level is an evaluation again, so a turn is one equation: what was left is what the turn gives, before what is left
--   now (`LevelTurn`).
-- Through: what is given passes through the frames (`frames_before`), and a frame that is taken off stands around what runs now (`popped`).
-- Turns: the turns and ends of frames, calls and asyncs that begin where they stand. Stepping: the same, as turns of a level. Called: what calls give.
-- Rows: the turn of a statement is that of its row in the table of the language. Quiet: what is quiet, and then a turn, is one turn
--   (`turn_further`), by which a block takes many statements in one turn, and a level many turns.
-- Reading: columns that fit a program are those by its names (`fitting`).
-- Begun: the level of a job that begins is what the job evaluates to. The public clauses are those of `Level::turn` (`WholeTurn`), `go_in`, `hold`, `settle`.
pub mod Through
pub mod Called
pub mod Turns
pub mod Stepping
pub mod Rows
pub mod Begun
pub mod Reading
pub mod Quiet
