-- What the error of a fault tells of a text.
use Rattle.std.proofs.Common.{◌≡◌, ◌≢◌, ℕ, List, Ok, Some, ◌⊎◌, inl, inr}
use Rattle.spd_syntax.specs.declared.tree.Program.{Program}
use Rattle.spd_syntax.specs.declared.fault.ParseFault.{ParseFault}
use Rattle.spd_syntax.specs.declared.fault.ParseKind.{ParseKind}
use Rattle.spd_syntax.specs.declared.fault.ParseKind.TheVariants as parse
use Rattle.spd_syntax.specs.declared.token.Token.{Token}
use Rattle.spd_syntax.specs.Tokens.{tokens_of}
use Rattle.spd_syntax.specs.Symbols.{all_seen}
use Rattle.spd_syntax.specs.Faults.{IsFirstFault}
use Rattle.spd_check.specs.declared.faults.CheckFault.{CheckFault}
use Rattle.spd_check.specs.declared.faults.CheckKind.{CheckKind}
use Rattle.spd_check.specs.declared.faults.CheckKind.TheVariants as check
use Rattle.spd_check.specs.Faults.{first_fault}
use Rattle.spd_check.specs.Checks.{faults_of}
use Rattle.spd_top.specs.Built.{IsProgram, IsRefused, parse_error, check_error}

-- The first fault of the tokens of a text is told, unless it is want of memory.
pub parse_refuses : (text : List ℕ) (tokens : List Token) (fault : ParseFault) → tokens_of text ≡ Ok tokens → (fault.kind ≡ parse.NoMemory) ⊎ IsFirstFault (all_seen text tokens) fault → IsRefused text (parse_error fault.kind fault)
parse_refuses text tokens fault cut said = by_kind fault.kind said
  where
    by_kind : (k : ParseKind) → (k ≡ parse.NoMemory) ⊎ IsFirstFault (all_seen text tokens) fault → IsRefused text (parse_error k fault)
    by_kind parse.NoMemory s = tt
    by_kind parse.Expected (inl e) = absurd cc
    by_kind parse.Expected (inr f) = record { tokens = tokens; cut = cut; first = f }
    by_kind parse.Literal (inl e) = absurd cc
    by_kind parse.Literal (inr f) = record { tokens = tokens; cut = cut; first = f }
    by_kind parse.TooDeep (inl e) = absurd cc
    by_kind parse.TooDeep (inr f) = record { tokens = tokens; cut = cut; first = f }
    by_kind parse.TooMany (inl e) = absurd cc
    by_kind parse.TooMany (inr f) = record { tokens = tokens; cut = cut; first = f }

-- The first fault of the checks is told, unless it is want of memory.
pub check_refuses : (text : List ℕ) (tree : Program) (fault : CheckFault) → IsProgram text tree → (fault.kind ≢ check.NoMemory → first_fault (faults_of tree) ≡ Some fault)
    → IsRefused text (check_error fault.kind fault)
check_refuses text tree fault is said = by_kind fault.kind said
  where
    by_kind : (k : CheckKind) → (k ≢ check.NoMemory → first_fault (faults_of tree) ≡ Some fault) → IsRefused text (check_error k fault)
    by_kind check.NoMemory s = tt
    by_kind check.Unknown s = (tree, is, s (λ e. cc))
    by_kind check.Twice s = (tree, is, s (λ e. cc))
    by_kind check.Arity s = (tree, is, s (λ e. cc))
    by_kind check.AsyncOutside s = (tree, is, s (λ e. cc))
    by_kind check.OfferOutside s = (tree, is, s (λ e. cc))
    by_kind check.PrintPlace s = (tree, is, s (λ e. cc))
    by_kind check.ReturnPlace s = (tree, is, s (λ e. cc))
    by_kind check.AssignOuter s = (tree, is, s (λ e. cc))
    by_kind check.ColumnKind s = (tree, is, s (λ e. cc))
    by_kind check.NoMain s = (tree, is, s (λ e. cc))
    by_kind check.NoReturn s = (tree, is, s (λ e. cc))
