-- `print_program`, its text: `canonical_text`, a fold over the tree whose symbols are laid on a page. Equations: what the fold
--   is at each construct. Pages: symbols in parts are laid part by part, so each function lays its part behind the others'.
-- `print_program`, its law: `IsTextAgain`. What a shape spells is spelled, alike, by canonical symbols, which count as its tokens do:
--   a lemma for each form of shape (Says, Again), a chain for each construct (AgainOperators to AgainProgram; what the grammar
--   reads by one token goes form by form, `spd_syntax/proofs/LetForms.antt`), tied by the depth of brackets. Alike: but for lines.
--   SameCounts: the counted limits. Nesting: the bound of brackets in a spelling and the limit that its tokens keep are the same.
--   Lawful: numbers and strings. KindSymbols: what a symbol of a kind is. CutAgain, LaidAgain: a layout of any lawful symbols is
--   cut into these. ReadAgain: all of it.
pub mod Nesting
pub mod Pages
pub mod Equations
pub mod Says
pub mod SameCounts
pub mod Lawful
pub mod Alike
pub mod KindSymbols
pub mod AgainOperators
pub mod AgainPrimaries
pub mod Again
pub mod AgainStatements
pub mod AgainBlocks
pub mod AgainLets
pub mod AgainProgram
pub mod CutAgain
pub mod LaidAgain
pub mod ReadAgain
