-- The first token that is one too many.
use Rattle.std.specs.Prelude.{ℕ, suc, ◌≤◌, List, [], ◌∷◌, Option, Some, None}
use Rattle.spd_syntax.specs.declared.counts.Counts.{Counts}
use Rattle.spd_syntax.specs.Tokens.{Seen}
use Rattle.spd_syntax.specs.Limits.{counts_with, max_callables, max_names, max_columns, max_operators}

-- the tokens before the first that is one too many
abbrev pub passed_on : Option Counts → (Counts → ℕ) → ℕ
passed_on None go = 0
passed_on (Some c) go = suc (go c)

unfoldable pub first_over : Counts → List Seen → ℕ
first_over c [] = 0
first_over c (t ∷ r) = passed_on (counts_with c t.0) (λ d. first_over d r)

pub record AreWithin (c : Counts) : Type 0 where
  pub callables : c.callables ≤ max_callables
  pub names : c.names ≤ max_names
  pub columns : c.columns ≤ max_columns
  pub operators : c.operators ≤ max_operators
