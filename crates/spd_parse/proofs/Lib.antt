-- Each function answers what `reads_at` gives of the shape that has its name (`Gives`); most goals compute. The laws of
-- reading are proved once, each by recursion on shapes:
--   Sound: what is read is spelled so, and where reading stops the tokens before begin something (Marks, Examples).
--   Complete: what is spelled is read, unless a limit is broken (Heads). Near: what stands behind the next token makes no
--   difference before it. First: the three over the whole grammar, and the first fault that reading finds itself.
-- Once: tokens spell at most one program, since they are read at a depth that is their number.
-- TooMany: the first token that is one too many, and the first fault of all. Parsed, Answered: what `parse` answers.
pub mod Marks
pub mod Heads
pub mod Examples
pub mod Sound
pub mod Complete
pub mod Near
pub mod First
pub mod Once
pub mod Parsed
pub mod TooMany
pub mod Answered
