-- `lex`, tokens and first fault: `tokens_of`, by cases on the bytes. Tokens: what is left to cut is a text again, so
--   each token that is cut off is one step of that function; spans are in order since each begins behind the last.
-- The laws of words and marks need no file: code and definition share the tables, or the tables compute by a first byte.
-- Laws of shapes, for the parser and the printer. OneToken: one token is enough to read the grammar by, computed.
--   KindSets: lists of kinds as sets. Scan: limits behind tokens, part after part. Fitting: a spelling by lawful symbols is
--   one by the grammar, and back where the tokens are lawful. Lexed: those of a text are, but for numbers that are too great.
-- Expressions and lets are the page's. PageForms: both forms are taken apart into the same parts and tokens, level by level.
--   LetForms: what stands behind `let name =` is read by its first token, and is one of three forms. PageLets: so a `let`
--   on the page is one in the grammar.
pub mod Tokens
pub mod KindSets
pub mod Scan
pub mod OneToken
pub mod Fitting
pub mod Lexed
pub mod PageForms
pub mod LetForms
pub mod PageLets
