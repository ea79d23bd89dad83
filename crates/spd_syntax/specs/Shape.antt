-- Grammars as data: what a shape of tokens spells.
use Rattle.std.specs.Prelude.{◌≡◌, ℕ, ◌⊎◌, if◌then◌else◌, List, [], ◌∷◌, ◌++◌, Option, Some, None}
use Rattle.spd_syntax.specs.declared.token.Mark.{Mark}
use Rattle.spd_syntax.specs.declared.token.TokenKind.{TokenKind}
use Rattle.spd_syntax.specs.declared.tree.Expr.{Expr}
use Rattle.spd_syntax.specs.declared.tree.Stmt.{Stmt}
use Rattle.spd_syntax.specs.Tokens.{Symbol, mark, Seen}
use Rattle.spd_syntax.specs.Symbols.{kind_of, bytes_of, same_kind}

-- what may stand between two brackets
pub data Nonterminal : Type 0 where
  expr : Nonterminal
  args : Nonterminal
  params : Nonterminal
  stmts : Nonterminal
  a_name : Nonterminal
  name_place : Nonterminal
  name_two_places : Nonterminal
  name_place_text : Nonterminal

abbrev pub ByteList : Type 0
ByteList = List ℕ

abbrev pub NonterminalValue : Nonterminal → Type 0
NonterminalValue expr = Expr
NonterminalValue args = List Expr
NonterminalValue params = List ByteList
NonterminalValue stmts = List Stmt
NonterminalValue a_name = ByteList
NonterminalValue name_place = ByteList × Expr
NonterminalValue name_two_places = ByteList × Expr × Expr
NonterminalValue name_place_text = ByteList × Expr × ByteList

-- A shape of tokens, with the type of its value. The kinds of tokens in it are for reading it; what it spells doesn't hang on them.
pub data Shape : Type 0 → Type 1 where
  -- a token of one of these kinds, with its value by its bytes and its line
  token : {A : Type 0} → List (TokenKind × (List ℕ → ℕ → A)) → Shape A
  -- no token
  give : {A : Type 0} → A → Shape A
  -- one behind the other
  seq : {A B : Type 0} → Shape (B → A) → Shape B → Shape A
  -- the first if the next token is of these kinds, else the second
  either : {A : Type 0} → List TokenKind → Shape A → Shape A → Shape A
  -- the first, and then the second while the next token is of these kinds
  folds : {A B : Type 0} → List TokenKind → (A → B → A) → Shape A → Shape B → Shape A
  -- a rule between brackets, with their lines
  nest : {A : Type 0} (rule : Nonterminal) → Mark → Mark → (ℕ → NonterminalValue rule → ℕ → A) → Shape A

-- ---- what a shape spells

abbrev pub fst : {A B : Type 0} → A × B → A
fst p = p.0

abbrev pub entry_of : {A : Type 0} → TokenKind → List (TokenKind × A) → Option A
entry_of k [] = None
entry_of k (row ∷ rows) = if same_kind row.0 k then Some row.1 else entry_of k rows

-- a token of a table, that fits
pub record IsToken (Fits : Symbol → Type 0) {A : Type 0} (table : List (TokenKind × (List ℕ → ℕ → A))) (a : A) (ts : List Seen) : Type 0 where
  pub token : Seen
  pub make : List ℕ → ℕ → A
  pub row : entry_of (kind_of token.0) table ≡ Some make
  pub fits : Fits token.0
  pub value : a ≡ make (bytes_of token.0) token.1
  pub text : ts ≡ token ∷ []

-- two parts, one behind the other
pub record AreBoth {A B : Type 0} (P : (B → A) → List Seen → Type 0) (Q : B → List Seen → Type 0) (a : A) (ts : List Seen) : Type 0 where
  pub make : B → A
  pub part : B
  pub front : List Seen
  pub back : List Seen
  pub first : P make front
  pub second : Q part back
  pub value : a ≡ make part
  pub text : ts ≡ front ++ back

-- parts with their tokens
abbrev pub EachPart : {B : Type 0} → (B → List Seen → Type 0) → List (B × List Seen) → Type 0
EachPart Q [] = Unit {0}
EachPart Q (b ∷ bs) = Q b.0 b.1 × EachPart Q bs

abbrev pub folded : {A B : Type 0} → (A → B → A) → A → List (B × List Seen) → A
folded f a [] = a
folded f a (b ∷ bs) = folded f (f a b.0) bs

abbrev pub texts : {B : Type 0} → List (B × List Seen) → List Seen
texts [] = []
texts (b ∷ bs) = b.1 ++ texts bs

-- a part, and then parts any number of times
pub record AreMany {A B : Type 0} (f : A → B → A) (P : A → List Seen → Type 0) (Q : B → List Seen → Type 0) (a : A) (ts : List Seen) : Type 0 where
  pub base : A
  pub front : List Seen
  pub parts : List (B × List Seen)
  pub first : P base front
  pub each : EachPart Q parts
  pub value : a ≡ folded f base parts
  pub text : ts ≡ front ++ texts parts

-- a part between brackets
pub record IsNested {A B : Type 0} (P : B → List Seen → Type 0) (o c : Mark) (f : ℕ → B → ℕ → A) (a : A) (ts : List Seen) : Type 0 where
  pub line : ℕ
  pub part : B
  pub middle : List Seen
  pub end_line : ℕ
  pub is : P part middle
  pub value : a ≡ f line part end_line
  pub text : ts ≡ (mark o, line) ∷ (middle ++ (mark c, end_line) ∷ [])

-- what the tokens between brackets spell
abbrev pub Spelling : Type 1
Spelling = (rule : Nonterminal) → NonterminalValue rule → List Seen → Type 0

-- The tokens spell the value: those that aren't brackets fit.
module _ (Fits : Symbol → Type 0) (inner : Spelling) where
  abbrev pub Spells : {A : Type 0} → Shape A → A → List Seen → Type 0
  Spells (token table) a ts = IsToken Fits table a ts
  Spells (give b) a ts = (a ≡ b) × (ts ≡ [])
  Spells (seq p q) a ts = AreBoth (Spells p) (Spells q) a ts
  Spells (either ks p q) a ts = Spells p a ts ⊎ Spells q a ts
  Spells (folds ks f p q) a ts = AreMany f (Spells p) (Spells q) a ts
  Spells (nest rule o c f) a ts = IsNested (inner rule) o c f a ts
