-- What a reading of all tokens tells of them.
use Rattle.std.proofs.Common.{◌≡◌, List, ℕ, Result, Ok, Err, IfOk}
use Rattle.spd_syntax.specs.declared.tree.Program.{Program}
use Rattle.spd_syntax.specs.Tokens.{Seen}
use Rattle.spd_syntax.specs.Symbols.{all_seen}
use Rattle.spd_syntax.specs.Grammar.{program}
use Rattle.spd_syntax.specs.Limits.{Keeps}
use Rattle.spd_syntax.proofs.OneToken.{program_ahead}
use Rattle.spd_read.specs.declared.reading.ReadError.{ReadError}
use Rattle.spd_read.specs.declared.reading.ReadError.TheVariants as errors
use Rattle.spd_read.specs.declared.reading.StopKind.{StopKind}
use Rattle.spd_read.specs.Reading.{reads_all}
use Rattle.spd_parse.specs.Stops.{IsByGrammar, IsFirstStop}
use Rattle.spd_parse.specs.Gives.{GivesAll, AnswersFault}
use Rattle.spd_parse.proofs.First as laws

module _ (text : List ℕ) (ts : List Seen) where
  pub found : (o : Result Program ReadError) → GivesAll text o (reads_all 32 program ts) → IfOk o (λ x. IsByGrammar program x ts)
  found (Ok x) h = laws.found program program_ahead 32 ts x h
  found (Err e) h = tt

  pub kept : (o : Result Program ReadError) → GivesAll text o (reads_all 32 program ts) → IfOk o (λ x. Keeps 32 0 ts)
  kept (Ok x) h = laws.kept program program_ahead 32 ts x h
  kept (Err e) h = tt

  pub first : (o : Result Program ReadError) (kind : StopKind) (rest : List Seen) → GivesAll text o (reads_all 32 program ts)
      → AnswersFault text o kind rest → IsFirstStop program 32 ts kind rest
  first (Ok y) kind rest h s = absurd s
  first (Err errors.NoMemory) kind rest h s = absurd s
  first (Err (errors.Fault other left)) kind rest h s = rw (s.0, s.1) (laws.first program program_ahead 32 ts other (all_seen text left.now) h)
