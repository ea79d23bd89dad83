-- The limits of a program. They are facts of its tokens, of which none knows the grammar.
use Rattle.std.specs.Prelude.{◌≡◌, ℕ, suc, ◌+◌, ◌-◌, nat_le, Bool, true, false, ◌&&◌, ◌||◌, if◌then◌else◌, List, [], ◌∷◌, Option, Some, None}
use Rattle.spd_syntax.specs.declared.token.Word.{Word}
use Rattle.spd_syntax.specs.declared.token.Word.TheVariants as w
use Rattle.spd_syntax.specs.declared.token.Mark.{Mark}
use Rattle.spd_syntax.specs.declared.token.Mark.TheVariants as m
use Rattle.spd_syntax.specs.declared.token.TokenKind.{TokenKind}
use Rattle.spd_syntax.specs.declared.token.TokenKind.TheVariants as kind
use Rattle.spd_syntax.specs.declared.operators.TheConstants.{OPERATORS}
use Rattle.spd_syntax.specs.declared.counts.NameRole.{NameRole}
use Rattle.spd_syntax.specs.declared.counts.NameRole.TheVariants as role
use Rattle.spd_syntax.specs.declared.counts.Counts.{Counts}
use Rattle.spd_syntax.specs.declared.fault.ParseKind.{ParseKind}
use Rattle.spd_syntax.specs.declared.fault.ParseKind.TheVariants.{Literal, TooDeep}
use Rattle.spd_syntax.specs.Tokens.{Symbol, name, number, lit, word, mark, Seen}
use Rattle.spd_syntax.specs.Symbols.{kind_of, is_great, is_in, same_mark}
use Rattle.spd_syntax.specs.Operators.{has_mark}

-- the bytes of a program's text
abbrev pub max_text : ℕ
max_text = 1048576

-- the brackets that are open at once
abbrev pub max_depth : ℕ
max_depth = 32

-- the functions and tasks
abbrev pub max_callables : ℕ
max_callables = 256

-- the parameters and the names that a `let` or a `for` binds, of an item
abbrev pub max_names : ℕ
max_names = 64

-- the columns and lines items
abbrev pub max_columns : ℕ
max_columns = 16

-- the operators of tokens that follow each other with no `;`, `{` or `}` between them
abbrev pub max_operators : ℕ
max_operators = 1000

-- ---- brackets and numbers

abbrev pub opening : List TokenKind
opening = kind.Mark m.LeftParen ∷ kind.Mark m.LeftBracket ∷ kind.Mark m.LeftBrace ∷ []

abbrev pub closing : List TokenKind
closing = kind.Mark m.RightParen ∷ kind.Mark m.RightBracket ∷ kind.Mark m.RightBrace ∷ []

-- how many brackets are open with a token
abbrev pub open_with : ℕ → Symbol → ℕ
open_with n s = if is_in (kind_of s) opening then suc n else (if is_in (kind_of s) closing then n - 1 else n)

-- how many are open behind tokens
abbrev pub open_behind : ℕ → List Seen → ℕ
open_behind n [] = n
open_behind n (t ∷ ts) = open_behind (open_with n t.0) ts

-- the limit that a token breaks where so many brackets are open
abbrev pub broken : ℕ → ℕ → Symbol → Option ParseKind
broken limit n s = if is_great s then Some Literal else (if is_in (kind_of s) opening && nat_le limit n then Some TooDeep else None)

-- no token breaks one
abbrev pub Keeps : ℕ → ℕ → List Seen → Type 0
Keeps limit n [] = Unit {0}
Keeps limit n (t ∷ ts) = (broken limit n t.0 ≡ None) × Keeps limit (open_with n t.0) ts

-- ---- what is counted

-- An operator between two operands, or `!`. (`-` is both.)
abbrev pub is_operator_mark : Mark → Bool
is_operator_mark which = same_mark m.Not which || has_mark which OPERATORS

abbrev pub ends_stretch_mark : Mark → Bool
ends_stretch_mark m.Semicolon = true
ends_stretch_mark m.LeftBrace = true
ends_stretch_mark m.RightBrace = true
ends_stretch_mark _ = false

-- one more, unless there are as many as may be
abbrev pub one_more : ℕ → ℕ → Counts → Option Counts
one_more limit n after = if nat_le limit n then None else Some after

-- a name, by what it is
abbrev pub name_as : NameRole → Counts → Option Counts
name_as role.Plain c = Some c
name_as role.Callable c = one_more max_callables c.callables (record c { role = role.Parameter; callables = c.callables + 1 })
name_as role.Parameter c = one_more max_names c.names (record c { names = c.names + 1 })
name_as role.Bound c = one_more max_names c.names (record c { role = role.Plain; names = c.names + 1 })
name_as role.Column c = one_more max_columns c.columns (record c { role = role.Plain; columns = c.columns + 1 })

unfoldable pub with_name : Counts → Option Counts
with_name c = name_as c.role c

-- The names of an item are counted from its first word on.
abbrev pub with_word : Word → Counts → Counts
with_word w.Fn c = record c { role = role.Callable; names = 0 }
with_word w.Task c = record c { role = role.Callable; names = 0 }
with_word w.Main c = record c { names = 0 }
with_word w.Let c = record c { role = role.Bound }
with_word w.For c = record c { role = role.Bound }
with_word w.Column c = record c { role = role.Column }
with_word w.Lines c = record c { role = role.Column }
with_word _ c = c

-- Behind `;`, `{` and `}` nothing that was begun goes on.
abbrev pub with_mark : Mark → Counts → Option Counts
with_mark which c =
    if ends_stretch_mark which then Some (record c { role = role.Plain; operators = 0 })
    else (if is_operator_mark which then one_more max_operators c.operators (record c { operators = c.operators + 1 }) else Some c)

-- what is counted with a token, or nothing where it is one too many
unfoldable pub counts_with : Counts → Symbol → Option Counts
counts_with c (name text) = with_name c
counts_with c (number digits) = Some c
counts_with c (lit text) = Some c
counts_with c (word which) = Some (with_word which c)
counts_with c (mark which) = with_mark which c

abbrev pub no_counts : Counts
no_counts = record { role = role.Plain; callables = 0; names = 0; columns = 0; operators = 0 }

abbrev pub and_then : Option Counts → (Counts → Option Counts) → Option Counts
and_then None go = None
and_then (Some c) go = go c

-- what is counted of tokens, or nothing where one is too many
abbrev pub counts_behind : Counts → List Seen → Option Counts
counts_behind c [] = Some c
counts_behind c (t ∷ ts) = and_then (counts_with c t.0) (λ d. counts_behind d ts)

-- None of the tokens is one too many.
pub record KeepsCounts (ts : List Seen) : Type 0 where
  pub counts : Counts
  pub counted : counts_behind no_counts ts ≡ Some counts

-- A token is one too many behind others that aren't.
pub record IsOneTooMany (before : List Seen) (s : Symbol) : Type 0 where
  pub kept : KeepsCounts before
  pub over : counts_with kept.counts s ≡ None

-- The tokens keep all limits of a program.
pub record KeepsLimits (ts : List Seen) : Type 0 where
  pub each : Keeps max_depth 0 ts
  pub counts : KeepsCounts ts
