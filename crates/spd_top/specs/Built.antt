-- What a text comes to: a fault of its tokens, of its grammar or of the checks, or a program that passes them.
use Rattle.std.specs.Prelude.{◌≡◌, ℕ, [], List, Ok, Err, Some}
use Rattle.spd_syntax.specs.declared.tree.Program.{Program}
use Rattle.spd_syntax.specs.declared.token.Token.{Token}
use Rattle.spd_syntax.specs.declared.lexing.LexFault.{LexFault}
use Rattle.spd_syntax.specs.declared.lexing.LexKind.{LexKind}
use Rattle.spd_syntax.specs.declared.lexing.LexKind.TheVariants as lex
use Rattle.spd_syntax.specs.declared.fault.ParseFault.{ParseFault}
use Rattle.spd_syntax.specs.declared.fault.ParseKind.{ParseKind}
use Rattle.spd_syntax.specs.declared.fault.ParseKind.TheVariants as parse
use Rattle.spd_syntax.specs.Tokens.{tokens_of}
use Rattle.spd_syntax.specs.Symbols.{all_seen}
use Rattle.spd_syntax.specs.Grammar.{program}
use Rattle.spd_syntax.specs.Limits.{KeepsLimits}
use Rattle.spd_syntax.specs.Faults.{IsSpelled, IsFirstFault}
use Rattle.spd_check.specs.declared.faults.CheckFault.{CheckFault}
use Rattle.spd_check.specs.declared.faults.CheckKind.{CheckKind}
use Rattle.spd_check.specs.declared.faults.CheckKind.TheVariants as check
use Rattle.spd_check.specs.Faults.{first_fault}
use Rattle.spd_check.specs.Checks.{faults_of}
use Rattle.spd_top.specs.declared.building.BuildError.{BuildError}
use Rattle.spd_top.specs.declared.building.BuildError.TheVariants as errors

-- The text spells the program, and keeps the limits.
pub record IsProgram (text : List ℕ) (tree : Program) : Type 0 where
  pub tokens : List Token
  pub cut : tokens_of text ≡ Ok tokens
  pub spelled : IsSpelled program tree (all_seen text tokens)
  pub limits : KeepsLimits (all_seen text tokens)

-- The text is cut into tokens, and this is their first fault.
pub record IsFaulty (text : List ℕ) (fault : ParseFault) : Type 0 where
  pub tokens : List Token
  pub cut : tokens_of text ≡ Ok tokens
  pub first : IsFirstFault (all_seen text tokens) fault

-- what a text may come to
pub data TextOutcome : Type 0 where
  lex_fault : LexFault → TextOutcome
  parse_fault : ParseFault → TextOutcome
  check_fault : CheckFault → TextOutcome
  passes : Program → TextOutcome

-- Each text comes to one outcome, and to no other.
abbrev pub ComesTo : List ℕ → TextOutcome → Type 0
ComesTo text (lex_fault fault) = tokens_of text ≡ Err fault
ComesTo text (parse_fault fault) = IsFaulty text fault
ComesTo text (check_fault fault) = (tree : Program) × IsProgram text tree × (first_fault (faults_of tree) ≡ Some fault)
ComesTo text (passes tree) = IsProgram text tree × (faults_of tree ≡ [])

-- ---- what `build` answers

-- why a text gave no code, unless memory ran out
abbrev pub IsRefused : List ℕ → BuildError → Type 0
IsRefused text (errors.Lex fault) = ComesTo text (lex_fault fault)
IsRefused text (errors.Parse fault) = ComesTo text (parse_fault fault)
IsRefused text (errors.Check fault) = ComesTo text (check_fault fault)
IsRefused text errors.NoMemory = Unit {0}

-- the error of a fault of each kind

abbrev pub lex_error : LexKind → LexFault → BuildError
lex_error lex.NoMemory fault = errors.NoMemory
lex_error _ fault = errors.Lex fault

abbrev pub parse_error : ParseKind → ParseFault → BuildError
parse_error parse.NoMemory fault = errors.NoMemory
parse_error _ fault = errors.Parse fault

abbrev pub check_error : CheckKind → CheckFault → BuildError
check_error check.NoMemory fault = errors.NoMemory
check_error _ fault = errors.Check fault
