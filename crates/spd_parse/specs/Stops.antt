-- Where reading stops: the faults that it finds itself.
use Rattle.std.specs.Prelude.{◌≡◌, ℕ, List, [], ◌∷◌, ◌++◌}
use Rattle.spd_syntax.specs.declared.fault.ParseKind.{ParseKind}
use Rattle.spd_syntax.specs.declared.fault.ParseKind.TheVariants as fault
use Rattle.spd_syntax.specs.Tokens.{Seen}
use Rattle.spd_syntax.specs.Symbols.{IsAnySymbol}
use Rattle.spd_syntax.specs.Shape.{Shape}
use Rattle.spd_syntax.specs.Faults.{IsSpelledBy, IsFault}
use Rattle.spd_read.specs.declared.reading.StopKind.{StopKind}
use Rattle.spd_read.specs.declared.reading.StopKind.TheVariants.{Expected, Literal, TooDeep}

abbrev pub fault_kind : StopKind → ParseKind
fault_kind Expected = fault.Expected
fault_kind Literal = fault.Literal
fault_kind TooDeep = fault.TooDeep

-- The tokens spell the value by the grammar alone.
abbrev pub IsByGrammar : {A : Type 0} → Shape A → A → List Seen → Type 0
IsByGrammar p a ts = IsSpelledBy IsAnySymbol p a ts

-- The first fault that reading finds itself: none is before it, and at one token `Expected` comes first.
pub record IsFirstStop {A : Type 0} (p : Shape A) (depth : ℕ) (ts : List Seen) (kind : StopKind) (rest : List Seen) : Type 0 where
  pub before : List Seen
  pub parts : ts ≡ before ++ rest
  pub is : IsFault p depth (fault_kind kind) before rest
  pub none_before : (other : StopKind) (us : List Seen) (t : Seen) (vs : List Seen) → before ≡ us ++ t ∷ vs → IsFault p depth (fault_kind other) us (t ∷ (vs ++ rest)) → ⊥
  pub expected_first : IsFault p depth fault.Expected before rest → kind ≡ Expected
