-- What tokens spell by the grammar, and their first fault.
use Rattle.std.specs.Prelude.{◌≡◌, ℕ, zero, suc, Some, List, [], ◌∷◌, ◌++◌}
use Rattle.spd_syntax.specs.declared.fault.ParseKind.{ParseKind}
use Rattle.spd_syntax.specs.declared.fault.ParseKind.TheVariants.{Expected, Literal, TooDeep, TooMany, NoMemory}
use Rattle.spd_syntax.specs.declared.fault.ParseFault.{ParseFault}
use Rattle.spd_syntax.specs.Tokens.{Symbol, Seen}
use Rattle.spd_syntax.specs.Symbols.{IsLawfulSymbol, IsAnySymbol}
use Rattle.spd_syntax.specs.Shape.{Shape, Spelling, Spells}
use Rattle.spd_syntax.specs.Grammar.{grammar, program}
use Rattle.spd_syntax.specs.Limits.{max_depth, open_behind, broken, IsOneTooMany}

-- what stands between brackets, in which fewer than so many brackets are open at once
abbrev pub nested : (Symbol → Type 0) → ℕ → Spelling
nested Fits zero rule a ts = ⊥
nested Fits (suc m) rule a ts = Spells Fits (nested Fits m) (grammar rule) a ts

-- Tokens that fit spell the value, however many brackets are open.
pub record IsSpelledBy (Fits : Symbol → Type 0) {A : Type 0} (p : Shape A) (a : A) (ts : List Seen) : Type 0 where
  pub brackets : ℕ
  pub is : Spells Fits (nested Fits brackets) p a ts

-- Lawful tokens spell the value.
abbrev pub IsSpelled : {A : Type 0} → Shape A → A → List Seen → Type 0
IsSpelled p a ts = IsSpelledBy IsLawfulSymbol p a ts

-- Something begins with the tokens, by the grammar alone.
pub record Begins {A : Type 0} (p : Shape A) (ts : List Seen) : Type 0 where
  pub value : A
  pub more : List Seen
  pub is : IsSpelledBy IsAnySymbol p value (ts ++ more)

-- A place is behind some tokens, at the next of the others or at the end. What is wrong there, where so many brackets may
-- be open at once:
abbrev pub IsFault : {A : Type 0} → Shape A → ℕ → ParseKind → List Seen → List Seen → Type 0
-- The tokens before begin something. With the next they begin nothing; at the end they are nothing.
IsFault p depth Expected before (t ∷ r) = Begins p before × (Begins p (before ++ t ∷ []) → ⊥)
IsFault {A} p depth Expected before [] = Begins p before × ((a : A) → IsSpelledBy IsAnySymbol p a before → ⊥)
-- The next is a number that is too great, a bracket too deep, or one too many.
IsFault p depth Literal before (t ∷ r) = broken depth (open_behind 0 before) t.0 ≡ Some Literal
IsFault p depth TooDeep before (t ∷ r) = broken depth (open_behind 0 before) t.0 ≡ Some TooDeep
IsFault p depth TooMany before (t ∷ r) = IsOneTooMany before t.0
IsFault p depth Literal before [] = ⊥
IsFault p depth TooDeep before [] = ⊥
IsFault p depth TooMany before [] = ⊥
-- Want of memory is no fault of a text.
IsFault p depth NoMemory before r = ⊥

-- the line of the last token, or this one where there is none
abbrev pub line_behind : ℕ → List Seen → ℕ
line_behind line [] = line
line_behind line (t ∷ ts) = line_behind t.1 ts

-- the line of a place: the end is on the line of the last token
abbrev pub line_at : List Seen → List Seen → ℕ
line_at before [] = line_behind 1 before
line_at before (t ∷ r) = t.1

-- Nothing is wrong before the place behind some tokens.
abbrev pub NoFaultBefore : {A : Type 0} → Shape A → ℕ → List Seen → List Seen → Type 0
NoFaultBefore p depth before rest = (kind : ParseKind) (us : List Seen) (t : Seen) (vs : List Seen) → before ≡ us ++ t ∷ vs → IsFault p depth kind us (t ∷ (vs ++ rest)) → ⊥

-- The first fault of tokens as a program: nothing is wrong before, and at one place `Expected` comes first.
pub record IsFirstFault (ts : List Seen) (fault : ParseFault) : Type 0 where
  pub before : List Seen
  pub rest : List Seen
  pub parts : ts ≡ before ++ rest
  pub is : IsFault program max_depth fault.kind before rest
  pub none_before : NoFaultBefore program max_depth before rest
  pub expected_first : IsFault program max_depth Expected before rest → fault.kind ≡ Expected
  pub line : fault.line ≡ line_at before rest
