-- What the grammar knows of a token: its kind, its bytes, what they stand for, and whether they are lawful.
use Rattle.std.specs.Prelude.{◌≡◌, ℕ, ◌+◌, ◌-◌, ◌*◌, ◌≤◌, Bool, true, false, if◌then◌else◌, ◌==◌, ◌||◌, List, [], ◌∷◌, length, map, nat_le, not, None, Ok}
use Rattle.std.specs.List.{list_all}
use Rattle.std.specs.Char.{is_ascii_digit}
use denote.Enum.Bare.{sameb}
use Rattle.spd_syntax.specs.contracts.token.Word as words
use Rattle.spd_syntax.specs.contracts.token.Mark as marks
use Rattle.spd_syntax.specs.declared.token.Word.{Word}
use Rattle.spd_syntax.specs.declared.token.Mark.{Mark}
use Rattle.spd_syntax.specs.declared.token.TokenKind.{TokenKind}
use Rattle.spd_syntax.specs.declared.token.TokenKind.TheVariants as kind
use Rattle.spd_syntax.specs.declared.token.Token.{Token}
use Rattle.spd_syntax.specs.Tokens.{Symbol, name, number, lit, word, mark, Seen, seen, begins_name, is_in_name, word_of, string_end}

-- the tokens of a text, as the grammar sees them
abbrev pub all_seen : List ℕ → List Token → List Seen
all_seen text tokens = map (seen text) tokens

abbrev pub kind_of : Symbol → TokenKind
kind_of (name text) = kind.Name
kind_of (number text) = kind.Number
kind_of (lit text) = kind.Lit
kind_of (word which) = kind.Word which
kind_of (mark which) = kind.Mark which

-- the bytes of a name, a number or a string
abbrev pub bytes_of : Symbol → List ℕ
bytes_of (name text) = text
bytes_of (number text) = text
bytes_of (lit text) = text
bytes_of (word which) = []
bytes_of (mark which) = []

unfoldable pub same_word : Word → Word → Bool
same_word = sameb words.the_type

unfoldable pub same_mark : Mark → Mark → Bool
same_mark = sameb marks.the_type

abbrev pub same_kind : TokenKind → TokenKind → Bool
same_kind kind.Name kind.Name = true
same_kind kind.Number kind.Number = true
same_kind kind.Lit kind.Lit = true
same_kind (kind.Word a) (kind.Word b) = same_word a b
same_kind (kind.Mark a) (kind.Mark b) = same_mark a b
same_kind _ _ = false

-- ---- what a number and a string stand for

abbrev pub value_from : ℕ → List ℕ → ℕ
value_from so_far [] = so_far
value_from so_far (b ∷ z) = value_from (so_far * 10 + (b - 48)) z

-- the value of digits
abbrev pub value_of : List ℕ → ℕ
value_of digits = value_from 0 digits

abbrev pub greatest_literal : ℕ
greatest_literal = 9223372036854775807

-- a number that is too great
abbrev pub is_great : Symbol → Bool
is_great (number digits) = not (nat_le (value_of digits) greatest_literal)
is_great _ = false

-- the bytes up to the closing quote, without the backslashes of escapes
abbrev pub unquoted_from : Bool → List ℕ → List ℕ
unquoted_from escaped [] = []
unquoted_from true (b ∷ z) = b ∷ unquoted_from false z
unquoted_from false (b ∷ z) = if b == 34 then [] else (if b == 92 then unquoted_from true z else b ∷ unquoted_from false z)

-- the bytes of a string
abbrev pub unquoted : List ℕ → List ℕ
unquoted [] = []
unquoted (quote ∷ z) = unquoted_from false z

-- ---- lawful symbols

-- a letter or `_` with letters, digits and `_` behind it, and no word of the language
abbrev pub IsName : List ℕ → Type 0
IsName [] = ⊥
IsName (b ∷ z) = (begins_name b ≡ true) × (list_all is_in_name z ≡ true) × (word_of (b ∷ z) ≡ None)

-- one or more digits
abbrev pub IsNumeral : List ℕ → Type 0
IsNumeral [] = ⊥
IsNumeral (b ∷ z) = list_all is_ascii_digit (b ∷ z) ≡ true

-- a whole string, of which the closing quote is the last byte
abbrev pub IsQuoted : List ℕ → Type 0
IsQuoted [] = ⊥
IsQuoted (b ∷ z) = (b ≡ 34) × (string_end false 1 z ≡ Ok (length (b ∷ z)))

-- A text may hold the symbol, and a number isn't too great.
abbrev pub IsLawfulSymbol : Symbol → Type 0
IsLawfulSymbol (name text) = IsName text
IsLawfulSymbol (number digits) = IsNumeral digits × (value_of digits ≤ greatest_literal)
IsLawfulSymbol (lit text) = IsQuoted text
IsLawfulSymbol (word which) = Unit {0}
IsLawfulSymbol (mark which) = Unit {0}

-- every symbol, lawful or not
abbrev pub IsAnySymbol : Symbol → Type 0
IsAnySymbol s = Unit {0}

-- Each of the tokens is so.
abbrev pub Eachly : (Symbol → Type 0) → List Seen → Type 0
Eachly P [] = Unit {0}
Eachly P (t ∷ ts) = P t.0 × Eachly P ts

-- ---- sets of kinds

abbrev pub is_in : TokenKind → List TokenKind → Bool
is_in k [] = false
is_in k (other ∷ ks) = same_kind other k || is_in k ks
