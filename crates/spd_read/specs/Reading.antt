-- Reading by the grammar, with one token ahead.
use Rattle.std.specs.Prelude.{ℕ, zero, suc, Bool, true, false, if◌then◌else◌, List, [], ◌∷◌, length, Option, Some, None, Result, Ok, Err}
use Rattle.spd_syntax.specs.declared.token.Mark.{Mark}
use Rattle.spd_syntax.specs.declared.token.TokenKind.{TokenKind}
use Rattle.spd_syntax.specs.declared.token.TokenKind.TheVariants as kind
use Rattle.spd_syntax.specs.declared.tree.Expr.{Expr}
use Rattle.spd_syntax.specs.declared.tree.Stmt.{Stmt}
use Rattle.spd_syntax.specs.Tokens.{Seen}
use Rattle.spd_syntax.specs.Symbols.{kind_of, bytes_of, is_great, is_in}
use Rattle.spd_syntax.specs.Shape.{Shape, token, give, seq, either, folds, nest, Nonterminal, NonterminalValue, ByteList, entry_of}
use Rattle.spd_syntax.specs.Grammar.{grammar, Letting, operators, operation, into, behind_operand, at_level}
use Rattle.spd_read.specs.declared.reading.StopKind.{StopKind}
use Rattle.spd_read.specs.declared.reading.StopKind.TheVariants.{Expected, Literal, TooDeep}

-- the fault, and the tokens from the faulty one on
abbrev pub Stop : Type 0
Stop = StopKind × List Seen

abbrev pub Read : Type 0 → Type 0
Read A = Result (A × List Seen) Stop

infixl 10 ◌>>=◌
abbrev pub ◌>>=◌ : {A B : Type 0} → Read A → (A × List Seen → Read B) → Read B
(Ok x) >>= g = g x
(Err s) >>= g = Err s

abbrev pub Refs : Type 0
Refs = (rule : Nonterminal) → List Seen → Read (NonterminalValue rule)

abbrev pub accepted : {A : Type 0} → Option (List ℕ → ℕ → A) → Seen → List Seen → Read A
accepted None t r = Err (Expected, t ∷ r)
accepted (Some f) t r = if is_great t.0 then Err (Literal, t ∷ r) else Ok (f (bytes_of t.0) t.1, r)

abbrev pub token_at : {A : Type 0} → List (TokenKind × (List ℕ → ℕ → A)) → List Seen → Read A
token_at table [] = Err (Expected, [])
token_at table (t ∷ r) = accepted (entry_of (kind_of t.0) table) t r

-- whether the next token is one of these
abbrev pub next_kind : List Seen → Option TokenKind
next_kind [] = None
next_kind (t ∷ r) = Some (kind_of t.0)

abbrev pub is_one_of : Option TokenKind → List TokenKind → Bool
is_one_of None ks = false
is_one_of (Some k) ks = is_in k ks

abbrev pub next_in : List TokenKind → List Seen → Bool
next_in ks ts = is_one_of (next_kind ts) ks

-- goes on while the next token is one of these, at most so many times
unfoldable pub repeat : {A : Type 0} → List TokenKind → (A → List Seen → Read A) → ℕ → A → List Seen → Read A
repeat ks step zero found ts = Ok (found, ts)
repeat ks step (suc n) found ts = if next_in ks ts then (step found ts >>= λ x. repeat ks step n x.0 x.1) else Ok (found, ts)

-- a rule behind a bracket, where one more may be open
abbrev pub inside : Option Refs → (rule : Nonterminal) → List Seen → List Seen → Read (NonterminalValue rule)
inside None rule here r = Err (TooDeep, here)
inside (Some refs) rule here r = refs rule r

abbrev pub mark_at : Mark → List Seen → Read ℕ
mark_at which = token_at ((kind.Mark which, λ bytes line. line) ∷ [])

module _ (refs : Option Refs) where
  abbrev pub reads : {A : Type 0} → Shape A → List Seen → Read A
  reads (token table) ts = token_at table ts
  reads (give a) ts = Ok (a, ts)
  reads (seq p q) ts = reads p ts >>= λ f. reads q f.1 >>= λ x. Ok (f.0 x.0, x.1)
  reads (either ks p q) ts = if next_in ks ts then reads p ts else reads q ts
  reads (folds ks f p q) ts = reads p ts >>= λ x. repeat ks (λ a us. reads q us >>= λ y. Ok (f a y.0, y.1)) (length x.1) x.0 x.1
  reads (nest rule o c f) ts = mark_at o ts >>= λ l. inside refs rule ts l.1 >>= λ x. mark_at c x.1 >>= λ l'. Ok (f l.0 x.0 l'.0, l'.1)

-- ---- by the grammar

-- what stands between brackets, where so many more may be open
abbrev pub inner_at : ℕ → Option Refs
inner_at zero = None
inner_at (suc depth) = Some (λ rule ts. reads (inner_at depth) (grammar rule) ts)

-- what a shape reads, where so many brackets may be open
abbrev pub reads_at : {A : Type 0} → ℕ → Shape A → List Seen → Read A
reads_at depth p ts = reads (inner_at depth) p ts

-- a function that was read, at an argument
abbrev pub applied : {A B : Type 0} → A → Read (A → B) → Read B
applied x o = o >>= λ f. Ok (f.0 x, f.1)

-- what is bound, by the line of `let` and the name
abbrev pub lets : ℕ → ByteList → Read Letting → Read Stmt
lets line called o = o >>= λ f. Ok (f.0 line called, f.1)

-- a shape once more
abbrev pub step : {A B : Type 0} → ℕ → (A → B → A) → Shape B → A → List Seen → Read A
step depth f q a ts = reads_at depth q ts >>= λ y. Ok (f a y.0, y.1)

-- a shape any number of times
abbrev pub loops : {A B : Type 0} → ℕ → List TokenKind → (A → B → A) → Shape B → A → List Seen → Read A
loops depth ks f q a ts = repeat ks (step depth f q) (length ts) a ts

-- Reads the operators above a level, with their right operands, behind an operand that was read.
abbrev pub further : Bool → ℕ → ℕ → Expr → List Seen → Read Expr
further true depth level x ts = if next_in (operators (suc level)) ts then step depth into (operation (suc level) (at_level level)) x ts else Ok (x, ts)
further false depth level x ts = loops depth (operators (suc level)) into (operation (suc level) (at_level level)) x ts

-- what stands behind an operand, up to the operators above a level
abbrev pub grouped_at : Bool → ℕ → ℕ → Expr → List Seen → Read Expr
grouped_at once depth level x ts = applied x (reads_at depth (behind_operand level) ts) >>= λ y. further once depth level y.0 y.1

-- nothing is left
abbrev pub nothing_left : {A : Type 0} → A → List Seen → Result A Stop
nothing_left a [] = Ok a
nothing_left a (t ∷ r) = Err (Expected, t ∷ r)

abbrev pub to_the_end : {A : Type 0} → Read A → Result A Stop
to_the_end (Ok x) = nothing_left x.0 x.1
to_the_end (Err s) = Err s

unfoldable pub reads_all : {A : Type 0} → ℕ → Shape A → List Seen → Result A Stop
reads_all depth p ts = to_the_end (reads_at depth p ts)
