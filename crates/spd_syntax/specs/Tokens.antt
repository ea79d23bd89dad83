-- How a text is cut into tokens.
use Rattle.std.specs.Prelude.{ℕ, zero, suc, ◌+◌, ◌-◌, ◌<◌, ◌≤◌, Bool, true, false, not, ◌&&◌, ◌||◌, if◌then◌else◌, ◌==◌, nat_le, List, [], ◌∷◌, ◌++◌, length, take, drop, slice_index, Option, Some, None, map, Result, Ok, Err}
use Rattle.std.specs.Char.{is_ascii_digit, is_ascii_alphanumeric, is_ascii_alphabetic}
use Rattle.std.specs.List.{prefix_len}
use Rattle.std.specs.Str.{bytes_eq}
use Rattle.spd_syntax.specs.declared.token.Word.{Word}
use Rattle.spd_syntax.specs.declared.token.Mark.{Mark}
use Rattle.spd_syntax.specs.declared.token.TokenKind.{TokenKind}
use Rattle.spd_syntax.specs.declared.token.TokenKind.TheVariants as kind
use Rattle.spd_syntax.specs.declared.token.Token.{Token}
use Rattle.spd_syntax.specs.declared.token.TheConstants.{WORDS, MARKS}
use Rattle.spd_syntax.specs.declared.lexing.LexFault.{LexFault}
use Rattle.spd_syntax.specs.declared.lexing.LexKind.{LexKind}
use Rattle.spd_syntax.specs.declared.lexing.LexKind.TheVariants.{BadByte, OpenString, BadEscape}

-- ---- what a token is to the grammar

-- a name, a number or a string with its bytes, a word, or a mark
pub data Symbol : Type 0 where
  name : (text : List ℕ) → Symbol
  number : (text : List ℕ) → Symbol
  lit : (text : List ℕ) → Symbol
  word : (which : Word) → Symbol
  mark : (which : Mark) → Symbol

-- a symbol and its line
abbrev pub Seen : Type 0
Seen = Symbol × ℕ

abbrev pub symbol : TokenKind → List ℕ → Symbol
symbol kind.Name text = name text
symbol kind.Number text = number text
symbol kind.Lit text = lit text
symbol (kind.Word which) text = word which
symbol (kind.Mark which) text = mark which

-- a token of a text, as the grammar sees it
abbrev pub seen : List ℕ → Token → Seen
seen text token = (symbol token.kind (take (token.end - token.start) (drop token.start text)), token.line)

-- Each token has a byte, and stands behind the one before it: all of them between two places.
abbrev pub AreInOrder : ℕ → List Token → ℕ → Type 0
AreInOrder from [] to = from ≤ to
AreInOrder from (token ∷ tokens) to = (from ≤ token.start) × (token.start < token.end) × AreInOrder token.end tokens to

-- ---- bytes

-- space, tab and CR; LF is a blank too, and ends a line
abbrev pub is_blank : ℕ → Bool
is_blank b = b == 32 || b == 9 || b == 13

abbrev pub begins_name : ℕ → Bool
begins_name b = is_ascii_alphabetic b || b == 95

abbrev pub is_in_name : ℕ → Bool
is_in_name b = is_ascii_alphanumeric b || b == 95

abbrev pub is_in_comment : ℕ → Bool
is_in_comment b = not (b == 10)

abbrev pub is_printable : ℕ → Bool
is_printable b = nat_le 32 b && nat_le b 126

-- ---- the token at the front of bytes

-- the entry of a table that is spelled so
abbrev pub lookup : {T : Type 0} → List (List ℕ × T) → List ℕ → Option T
lookup [] text = None
lookup (entry ∷ table) text = if bytes_eq entry.0 text then Some entry.1 else lookup table text

abbrev pub word_of : List ℕ → Option Word
word_of text = lookup (map (λ entry. (entry.0.now, entry.1)) WORDS) text

abbrev pub mark_of : List ℕ → Option Mark
mark_of text = lookup (map (λ entry. (entry.0.now, entry.1)) MARKS) text

abbrev pub kind_of_word : Option Word → TokenKind
kind_of_word None = kind.Name
kind_of_word (Some which) = kind.Word which

-- a word of the language, or a name
unfoldable pub word_or_name : List ℕ → TokenKind
word_or_name text = kind_of_word (word_of text)

abbrev pub or_else : {A : Type 0} → Option A → Option A → Option A
or_else None other = other
or_else (Some found) other = Some found

abbrev pub with_length : ℕ → Option Mark → Option (Mark × ℕ)
with_length n None = None
with_length n (Some which) = Some (which, n)

-- the mark that is spelled so, and its length
abbrev pub mark_and_length : List ℕ → Option (Mark × ℕ)
mark_and_length text = with_length (length text) (mark_of text)

-- The longest mark at the front, and its length. No mark has more than two bytes.
unfoldable pub longest_mark : List ℕ → Option (Mark × ℕ)
longest_mark z = or_else (mark_and_length (take 2 z)) (mark_and_length (take 1 z))

-- The place behind the closing quote, where the bytes begin at a place in the string, and behind a backslash or not.
abbrev pub string_end : Bool → ℕ → List ℕ → Result ℕ LexKind
string_end escaped at [] = Err OpenString
string_end true at (b ∷ z) =
    if b == 10 then Err OpenString else (if b == 34 || b == 92 then string_end false (at + 1) z else Err BadEscape)
string_end false at (b ∷ z) =
    if b == 10 then Err OpenString
    else (if b == 34 then Ok (at + 1)
    else (if b == 92 then string_end true (at + 1) z
    else (if is_printable b then string_end false (at + 1) z else Err BadByte)))

abbrev pub lit_to : Result ℕ LexKind → Result (TokenKind × ℕ) LexKind
lit_to (Ok end) = Ok (kind.Lit, end)
lit_to (Err fault) = Err fault

abbrev pub mark_to : Option (Mark × ℕ) → Result (TokenKind × ℕ) LexKind
mark_to (Some found) = Ok (kind.Mark found.0, found.1)
mark_to None = Err BadByte

-- the token at the front of bytes, of which there is one at least, and its length
unfoldable pub token : List ℕ → Result (TokenKind × ℕ) LexKind
token z =
    let b = slice_index z 0 in
    if begins_name b then Ok (word_or_name (take (prefix_len is_in_name z) z), prefix_len is_in_name z)
    else (if is_ascii_digit b then Ok (kind.Number, prefix_len is_ascii_digit z)
    else (if b == 34 then lit_to (string_end false 1 (drop 1 z))
    else mark_to (longest_mark z)))

-- ---- the tokens of a text

abbrev pub with_front : List Token → Result (List Token) LexFault → Result (List Token) LexFault
with_front front (Ok tokens) = Ok (front ++ tokens)
with_front front (Err fault) = Err fault

-- a token of this kind and length
abbrev pub token_of : ℕ → ℕ → TokenKind × ℕ → Token
token_of at line found = record { kind = found.0; start = at; end = at + found.1; line = line }

-- the token that was found at a place, and those behind it
abbrev pub token_then : ℕ → ℕ → Result (TokenKind × ℕ) LexKind → (ℕ → Result (List Token) LexFault) → Result (List Token) LexFault
token_then at line (Ok found) behind = with_front (token_of at line found ∷ []) (behind (found.1 - 1))
token_then at line (Err fault) behind = Err (record { line = line; kind = fault })

-- The tokens of bytes that begin at a place and on a line. So many of the bytes are passed over first, which belong to a
-- token or a comment.
unfoldable pub tokens_from : ℕ → ℕ → ℕ → List ℕ → Result (List Token) LexFault
tokens_from skip at line [] = Ok []
tokens_from (suc skip) at line (b ∷ z) = tokens_from skip (at + 1) line z
tokens_from zero at line (b ∷ z) =
    if b == 10 then tokens_from zero (at + 1) (line + 1) z
    else (if is_blank b then tokens_from zero (at + 1) line z
    else (if b == 35 then tokens_from (prefix_len is_in_comment z) (at + 1) line z
    else token_then at line (token (b ∷ z)) (λ skip. tokens_from skip (at + 1) line z)))

-- the tokens of a text, or its first fault
abbrev pub tokens_of : List ℕ → Result (List Token) LexFault
tokens_of text = tokens_from 0 0 1 text
