-- What the parser answers, by a reading and by the definition of the first fault.
use Rattle.std.specs.Prelude.{◌≡◌, ◌⊎◌, ℕ, List, Result, Ok, Err}
use denote.Ref.{Bor}
use Rattle.spd_syntax.specs.declared.fault.ParseFault.{ParseFault}
use Rattle.spd_syntax.specs.declared.fault.ParseKind.TheVariants as fault
use Rattle.spd_syntax.specs.Faults.{IsFirstFault}
use Rattle.spd_syntax.specs.declared.token.Token.{Token}
use Rattle.spd_syntax.specs.declared.tree.ItemKind.TheVariants as i
use Rattle.spd_syntax.specs.Tokens.{Seen}
use Rattle.spd_syntax.specs.Symbols.{all_seen}
use Rattle.spd_syntax.specs.Grammar.{Column}
use Rattle.spd_read.specs.declared.reading.ReadError.{ReadError}
use Rattle.spd_read.specs.declared.reading.ReadError.TheVariants as errors
use Rattle.spd_read.specs.declared.reading.StopKind.{StopKind}
use Rattle.spd_read.specs.Reading.{Stop, Read}
use Rattle.spd_read.specs.Gives.{Fails}
use Rattle.spd_parse.specs.declared.items.ColumnType.{ColumnType}
use Rattle.spd_parse.specs.declared.items.ColumnType.TheVariants as holds

-- What a function returned makes what reading gives, unless memory ran out.
abbrev pub GivesMade : {A B : Type 0} → (A → B) → List ℕ → Result (A × Bor (List Token)) ReadError → Read B → Type 0
GivesMade make text (Ok x) read = read ≡ Ok (make x.0, all_seen text x.1.now)
GivesMade make text (Err e) read = Fails text e read

abbrev pub column_of : ColumnType → Column
column_of holds.Int = i.IntColumn
column_of holds.Text = i.TextColumn

-- A function that reads all of the tokens gives what reading gives, unless memory ran out.
abbrev pub GivesAll : {A : Type 0} → List ℕ → Result A ReadError → Result A Stop → Type 0
GivesAll text (Ok x) read = read ≡ Ok x
GivesAll text (Err e) read = Fails text e read

-- the fault that was answered
abbrev pub AnswersFault : {A : Type 0} → List ℕ → Result A ReadError → StopKind → List Seen → Type 0
AnswersFault text (Ok x) kind rest = ⊥
AnswersFault text (Err errors.NoMemory) kind rest = ⊥
AnswersFault text (Err (errors.Fault other left)) kind rest = (kind ≡ other) × (rest ≡ all_seen text left.now)

-- ---- what the parser answers

-- the value, or want of memory
abbrev pub IsOrWants : {A : Type 0} → A → Result A ParseFault → Type 0
IsOrWants x (Ok y) = y ≡ x
IsOrWants x (Err f) = f.kind ≡ fault.NoMemory

-- the first fault of tokens, or want of memory
abbrev pub IsFirstOrWants : List Seen → ParseFault → Type 0
IsFirstOrWants ts f = (f.kind ≡ fault.NoMemory) ⊎ IsFirstFault ts f
