-- What a text spells as a whole, and what it is to be read again.
use Rattle.std.specs.Prelude.{◌≡◌, ℕ, List, Ok}
use Rattle.spd_syntax.specs.declared.token.Token.{Token}
use Rattle.spd_syntax.specs.declared.tree.Program.{Program}
use Rattle.spd_syntax.specs.Tokens.{tokens_of}
use Rattle.spd_syntax.specs.Symbols.{all_seen}
use Rattle.spd_syntax.specs.Grammar.{program}
use Rattle.spd_syntax.specs.Limits.{KeepsLimits}
use Rattle.spd_syntax.specs.Faults.{IsSpelled}
use Rattle.spd_canonical.specs.Lines.{but_lines}
use Rattle.spd_canonical.specs.Layout.{canonical_text}

-- The text is cut into tokens, which spell the program within the limits.
pub record IsTextOf (text : List ℕ) (x : Program) : Type 0 where
  pub tokens : List Token
  pub cut : tokens_of text ≡ Ok tokens
  pub spelled : IsSpelled program x (all_seen text tokens)
  pub kept : KeepsLimits (all_seen text tokens)

-- The text is that of a program which is this one but for its lines, and has this canonical text.
pub record IsTextAgain (x : Program) (text : List ℕ) : Type 0 where
  pub again : Program
  pub read : IsTextOf text again
  pub same : but_lines again ≡ but_lines x
  pub printed : canonical_text again ≡ text
