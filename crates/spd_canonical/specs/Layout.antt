-- How symbols are laid out as bytes: what stands between two neighbours, and how far a line is indented.
use Rattle.std.specs.Prelude.{ℕ, zero, suc, ◌-◌, Bool, true, false, ◌&&◌, ◌||◌, if◌then◌else◌, List, [], ◌∷◌, ◌++◌, map}
use Rattle.spd_syntax.specs.declared.token.Word.{Word}
use Rattle.spd_syntax.specs.declared.token.Word.TheVariants as w
use Rattle.spd_syntax.specs.declared.token.Mark.{Mark}
use Rattle.spd_syntax.specs.declared.token.Mark.TheVariants as m
use Rattle.spd_syntax.specs.declared.token.TokenKind.{TokenKind}
use Rattle.spd_syntax.specs.declared.token.TokenKind.TheVariants as kind
use Rattle.spd_syntax.specs.declared.token.TheConstants.{WORDS, MARKS}
use Rattle.spd_canonical.specs.declared.page.Last.{Last}
use Rattle.spd_canonical.specs.declared.page.Last.TheVariants as last
use Rattle.spd_canonical.specs.declared.page.Gap.{Gap}
use Rattle.spd_canonical.specs.declared.page.Gap.TheVariants as gap
use Rattle.spd_syntax.specs.declared.tree.Program.{Program}
use Rattle.spd_syntax.specs.Tokens.{Symbol, name, number, lit, word, mark}
use Rattle.spd_syntax.specs.Symbols.{kind_of, same_word, same_mark}
use Rattle.spd_canonical.specs.Canonical.{program_symbols}

-- ---- the bytes of a symbol

-- the bytes that a table has for an entry
abbrev pub spelling : {T : Type 0} → (T → T → Bool) → List (List ℕ × T) → T → List ℕ
spelling same [] wanted = []
spelling same (entry ∷ table) wanted = if same entry.1 wanted then entry.0 else spelling same table wanted

unfoldable pub word_text : Word → List ℕ
word_text which = spelling same_word (map (λ entry. (entry.0.now, entry.1)) WORDS) which

unfoldable pub mark_text : Mark → List ℕ
mark_text which = spelling same_mark (map (λ entry. (entry.0.now, entry.1)) MARKS) which

abbrev pub symbol_text : Symbol → List ℕ
symbol_text (name text) = text
symbol_text (number text) = text
symbol_text (lit text) = text
symbol_text (word which) = word_text which
symbol_text (mark which) = mark_text which

-- ---- what a token is to the next one

-- an operand may end with it
abbrev pub ends_operand : Last → Bool
ends_operand (last.Token kind.Name) = true
ends_operand (last.Token kind.Number) = true
ends_operand (last.Token (kind.Mark m.RightParen)) = true
ends_operand (last.Token (kind.Mark m.RightBracket)) = true
ends_operand _ = false

-- A `!` is a unary operator, and a `-` before which no operand ends.
abbrev pub last_with : Last → TokenKind → Last
last_with before (kind.Mark m.Not) = last.Unary
last_with before (kind.Mark m.Minus) = if ends_operand before then last.Token (kind.Mark m.Minus) else last.Unary
last_with before k = last.Token k

-- The next token stands on a line of its own.
abbrev pub ends_line : TokenKind → Bool
ends_line (kind.Mark m.Semicolon) = true
ends_line (kind.Mark m.LeftBrace) = true
ends_line (kind.Mark m.RightBrace) = true
ends_line _ = false

-- No space stands behind it.
abbrev pub sticks_to_next : TokenKind → Bool
sticks_to_next (kind.Mark m.LeftParen) = true
sticks_to_next (kind.Mark m.LeftBracket) = true
sticks_to_next (kind.Mark m.DotDot) = true
sticks_to_next _ = false

-- No space stands before it.
abbrev pub sticks_to_last : TokenKind → Bool
sticks_to_last (kind.Mark m.Comma) = true
sticks_to_last (kind.Mark m.Semicolon) = true
sticks_to_last (kind.Mark m.Colon) = true
sticks_to_last (kind.Mark m.RightParen) = true
sticks_to_last (kind.Mark m.RightBracket) = true
sticks_to_last (kind.Mark m.DotDot) = true
sticks_to_last _ = false

-- a name, or a word that is called as a name is
abbrev pub is_called : TokenKind → Bool
is_called kind.Name = true
is_called (kind.Word w.Len) = true
is_called (kind.Word w.Size) = true
is_called (kind.Word w.At) = true
is_called (kind.Word w.Same) = true
is_called (kind.Word w.Begins) = true
is_called _ = false

abbrev pub opens_call : TokenKind → Bool
opens_call (kind.Mark m.LeftParen) = true
opens_call (kind.Mark m.LeftBracket) = true
opens_call _ = false

-- a primary may begin with it
abbrev pub begins_primary : TokenKind → Bool
begins_primary kind.Name = true
begins_primary kind.Number = true
begins_primary (kind.Word which) = true
begins_primary (kind.Mark m.LeftParen) = true
begins_primary _ = false

abbrev pub is_else : TokenKind → Bool
is_else (kind.Word w.Else) = true
is_else _ = false

-- ---- what stands between two neighbours

abbrev pub unless : Bool → Gap
unless true = gap.Nothing
unless false = gap.Space

-- A line ends behind `;`, `{` and `}`, but not before `else`. Elsewhere one space stands, or none.
abbrev pub gap_between : Last → TokenKind → Gap
gap_between last.Nothing next = gap.Nothing
gap_between last.Unary next = unless (begins_primary next)
gap_between (last.Token k) next =
    if ends_line k then (if is_else next then gap.Space else gap.Line)
    else unless (sticks_to_next k || (sticks_to_last next || (is_called k && opens_call next)))

-- ---- lines

abbrev pub spaces : ℕ → List ℕ
spaces zero = []
spaces (suc n) = 32 ∷ 32 ∷ spaces n

-- how many braces are open where a line begins with such a token
abbrev pub braces_at : ℕ → TokenKind → ℕ
braces_at n (kind.Mark m.RightBrace) = n - 1
braces_at n k = n

abbrev pub braces_behind : ℕ → TokenKind → ℕ
braces_behind n (kind.Mark m.LeftBrace) = suc n
braces_behind n k = braces_at n k

abbrev pub gap_text : Gap → ℕ → List ℕ
gap_text gap.Nothing n = []
gap_text gap.Space n = 32 ∷ []
gap_text gap.Line n = 10 ∷ spaces n

-- what is written: the bytes, how many braces are open, the last token
pub record PageView : Type 0 where
  pub bytes : List ℕ
  pub braces : ℕ
  pub last : Last

abbrev pub empty_page : PageView
empty_page = record { bytes = []; braces = 0; last = last.Nothing }

-- with what stands before a token
abbrev pub with_gap : PageView → TokenKind → PageView
with_gap page k = record page { bytes = page.bytes ++ gap_text (gap_between page.last k) (braces_at page.braces k) }

-- with one more token
abbrev pub with_written : PageView → TokenKind → List ℕ → PageView
with_written page k text = record {
  bytes = (with_gap page k).bytes ++ text;
  braces = braces_behind page.braces k;
  last = last_with page.last k;
}

abbrev pub with_symbol : PageView → Symbol → PageView
with_symbol page s = with_written page (kind_of s) (symbol_text s)

abbrev pub laid : PageView → List Symbol → PageView
laid page [] = page
laid page (s ∷ ss) = laid (with_symbol page s) ss

-- the last line ends too, where there is one
abbrev pub last_line_end : Last → List ℕ
last_line_end last.Nothing = []
last_line_end _ = 10 ∷ []

abbrev pub page_text : PageView → List ℕ
page_text page = page.bytes ++ last_line_end page.last

-- symbols as a text
unfoldable pub layout : List Symbol → List ℕ
layout ss = page_text (laid empty_page ss)

-- the canonical text of a program
abbrev pub canonical_text : Program → List ℕ
canonical_text program = layout (program_symbols program)
