-- The bytes of a symbol, with others behind them that don't go on with it, are cut off again.
use Rattle.std.proofs.Common.{◌≡◌, ℕ, ◌+◌, ◌-◌, ◌==◌, nat_eq, ◌&&◌, ◌||◌, Bool, true, false, cond, not, List, [], ◌∷◌, ◌++◌, length, take, None, Ok, Err, refl, ◌∙◌, ap, arith}
use Rattle.std.proofs.Math.Seq.{take-append_seam, drop-append_seam}
use Rattle.std.specs.List.{prefix_len, list_all}
use Rattle.std.specs.Char.{is_ascii_digit}
use Rattle.spd_syntax.specs.declared.token.Word.{Word}
use Rattle.spd_syntax.specs.declared.token.Word.TheVariants as w
use Rattle.spd_syntax.specs.declared.token.Mark.{Mark}
use Rattle.spd_syntax.specs.declared.token.Mark.TheVariants as m
use Rattle.spd_syntax.specs.declared.token.TokenKind.{TokenKind}
use Rattle.spd_syntax.specs.declared.token.TokenKind.TheVariants as kind
use Rattle.spd_syntax.specs.declared.lexing.LexKind.TheVariants.{OpenString, BadEscape, BadByte}
use Rattle.spd_syntax.specs.Tokens as t
use Rattle.spd_syntax.specs.Tokens.{Symbol, symbol, tokens_from, token, token_of, token_then, with_front, is_blank, begins_name, is_in_name, word_of, kind_of_word, word_or_name, string_end, lit_to, mark_to, longest_mark, is_printable}
use Rattle.spd_syntax.specs.Symbols.{kind_of, same_word, same_mark, IsLawfulSymbol}
use Rattle.spd_canonical.specs.Layout.{word_text, mark_text, symbol_text}
use Rattle.spd_syntax.proofs.Tokens.{tokens-skip}

-- The bytes don't begin with such a one.
abbrev pub Ends : (ℕ → Bool) → List ℕ → Type 0
Ends p [] = Unit {0}
Ends p (b ∷ z) = p b ≡ false

abbrev pub is_equals : ℕ → Bool
is_equals b = nat_eq 61 b

-- a mark that would be another with a `=` behind it
abbrev pub takes_equals : Mark → Bool
takes_equals m.Assign = true
takes_equals m.Not = true
takes_equals m.Less = true
takes_equals m.Greater = true
takes_equals _ = false

-- The bytes don't go on with a token of this kind.
abbrev pub StopsMark : Bool → List ℕ → Type 0
StopsMark true z = Ends is_equals z
StopsMark false z = Unit {0}

abbrev pub Stops : TokenKind → List ℕ → Type 0
Stops kind.Name z = Ends is_in_name z
Stops kind.Number z = Ends is_ascii_digit z
Stops kind.Lit z = Unit {0}
Stops (kind.Word which) z = Ends is_in_name z
Stops (kind.Mark which) z = StopsMark (takes_equals which) z

-- ---- names, words and numbers

prefix_len-append : (p : ℕ → Bool) (xs ys : List ℕ) → list_all p xs ≡ true → Ends p ys → prefix_len p (xs ++ ys) ≡ length xs
prefix_len-append p [] [] h e = refl
prefix_len-append p [] (y ∷ ys) h e = rw e refl
prefix_len-append p (x ∷ xs) ys h e = by_test (p x) refl h (λ g. prefix_len-append p xs ys g e)
  where
    by_test : (b : Bool) → p x ≡ b → (b && list_all p xs) ≡ true → (list_all p xs ≡ true → prefix_len p (xs ++ ys) ≡ length xs)
        → cond b (1 + prefix_len p (xs ++ ys)) 0 ≡ length (x ∷ xs)
    by_test true k h go = let q = go h in omega (arith, q)
    by_test false k h go = absurd cc

-- what a token is found to be
pub record IsFound (z text : List ℕ) (k : TokenKind) : Type 0 where
  pub is : token (text ++ z) ≡ Ok (k, length text)

name_found : (c : ℕ) (cs z : List ℕ) → begins_name c ≡ true → list_all is_in_name (c ∷ cs) ≡ true → Ends is_in_name z
    → token (c ∷ (cs ++ z)) ≡ Ok (word_or_name (c ∷ cs), length (c ∷ cs))
unfolding token
name_found c cs z b h e =
    let n : prefix_len is_in_name (c ∷ (cs ++ z)) ≡ length (c ∷ cs) = prefix_len-append is_in_name (c ∷ cs) z h e in
    let k : take (length (c ∷ cs)) (c ∷ (cs ++ z)) ≡ c ∷ cs = take-append_seam (c ∷ cs) z in
    rw (b, n, k) refl

digit_no_name : (c : ℕ) → is_ascii_digit c ≡ true → begins_name c ≡ false
digit_no_name c h = grind (arith, h)

number_found : (c : ℕ) (cs z : List ℕ) → list_all is_ascii_digit (c ∷ cs) ≡ true → is_ascii_digit c ≡ true → Ends is_ascii_digit z
    → token (c ∷ (cs ++ z)) ≡ Ok (kind.Number, length (c ∷ cs))
unfolding token
number_found c cs z h d e =
    let n : prefix_len is_ascii_digit (c ∷ (cs ++ z)) ≡ length (c ∷ cs) = prefix_len-append is_ascii_digit (c ∷ cs) z h e in
    rw (digit_no_name c d, d) (ap (λ (i : ℕ). Ok (kind.Number, i)) (rw d at n))

-- ---- strings

string_end-append : (e : Bool) (at n : ℕ) (z y : List ℕ) → string_end e at z ≡ Ok n → string_end e at (z ++ y) ≡ Ok n
string_end-append e at n [] y h = absurd cc
string_end-append true at n (b ∷ z) y h = by_tests (b == 10) (b == 34 || b == 92) h (λ g. string_end-append false (at + 1) n z y g)
  where
    by_tests : (s d : Bool) → cond s (Err OpenString) (cond d (string_end false (at + 1) z) (Err BadEscape)) ≡ Ok n
        → (string_end false (at + 1) z ≡ Ok n → string_end false (at + 1) (z ++ y) ≡ Ok n)
        → cond s (Err OpenString) (cond d (string_end false (at + 1) (z ++ y)) (Err BadEscape)) ≡ Ok n
    by_tests true d h go = h
    by_tests false true h go = go h
    by_tests false false h go = h
string_end-append false at n (b ∷ z) y h = by_tests (b == 10) (b == 34) (b == 92) (is_printable b) h (λ g. string_end-append false (at + 1) n z y g)
    (λ g. string_end-append true (at + 1) n z y g)
  where
    by_tests : (s d f p : Bool) → cond s (Err OpenString) (cond d (Ok (at + 1))
        (cond f (string_end true (at + 1) z) (cond p (string_end false (at + 1) z) (Err BadByte)))) ≡ Ok n
        → (string_end false (at + 1) z ≡ Ok n → string_end false (at + 1) (z ++ y) ≡ Ok n)
        → (string_end true (at + 1) z ≡ Ok n → string_end true (at + 1) (z ++ y) ≡ Ok n)
        → cond s (Err OpenString) (cond d (Ok (at + 1)) (cond f (string_end true (at + 1) (z ++ y))
        (cond p (string_end false (at + 1) (z ++ y)) (Err BadByte)))) ≡ Ok n
    by_tests true d f p h go escape = h
    by_tests false true f p h go escape = h
    by_tests false false true p h go escape = escape h
    by_tests false false false true h go escape = go h
    by_tests false false false false h go escape = h

lit_found : (cs z : List ℕ) → string_end false 1 cs ≡ Ok (length (34 ∷ cs)) → token (34 ∷ (cs ++ z)) ≡ Ok (kind.Lit, length (34 ∷ cs))
unfolding token
lit_found cs z h = rw (string_end-append false 1 (length (34 ∷ cs)) cs z h) refl

-- ---- words and marks

word_is : (which : Word) → word_or_name (word_text which) ≡ kind.Word which
unfolding word_text same_word word_or_name
word_is w.Column = refl
word_is w.Int = refl
word_is w.Text = refl
word_is w.From = refl
word_is w.Field = refl
word_is w.Lines = refl
word_is w.Fn = refl
word_is w.Task = refl
word_is w.Main = refl
word_is w.Let = refl
word_is w.Finish = refl
word_is w.Sum = refl
word_is w.Least = refl
word_is w.Greatest = refl
word_is w.If = refl
word_is w.Else = refl
word_is w.For = refl
word_is w.In = refl
word_is w.Async = refl
word_is w.Offer = refl
word_is w.Run = refl
word_is w.Return = refl
word_is w.Print = refl
word_is w.Len = refl
word_is w.Size = refl
word_is w.At = refl
word_is w.Same = refl
word_is w.Begins = refl

mark_found : (which : Mark) (z : List ℕ) → StopsMark (takes_equals which) z → token (mark_text which ++ z) ≡ Ok (kind.Mark which, length (mark_text which))
unfolding token longest_mark mark_text same_mark
mark_found m.LeftParen [] h = refl
mark_found m.LeftParen (b ∷ z) h = refl
mark_found m.RightParen [] h = refl
mark_found m.RightParen (b ∷ z) h = refl
mark_found m.LeftBrace [] h = refl
mark_found m.LeftBrace (b ∷ z) h = refl
mark_found m.RightBrace [] h = refl
mark_found m.RightBrace (b ∷ z) h = refl
mark_found m.LeftBracket [] h = refl
mark_found m.LeftBracket (b ∷ z) h = refl
mark_found m.RightBracket [] h = refl
mark_found m.RightBracket (b ∷ z) h = refl
mark_found m.Comma [] h = refl
mark_found m.Comma (b ∷ z) h = refl
mark_found m.Semicolon [] h = refl
mark_found m.Semicolon (b ∷ z) h = refl
mark_found m.Colon [] h = refl
mark_found m.Colon (b ∷ z) h = refl
mark_found m.Plus [] h = refl
mark_found m.Plus (b ∷ z) h = refl
mark_found m.Minus [] h = refl
mark_found m.Minus (b ∷ z) h = refl
mark_found m.Star [] h = refl
mark_found m.Star (b ∷ z) h = refl
mark_found m.Slash [] h = refl
mark_found m.Slash (b ∷ z) h = refl
mark_found m.Percent [] h = refl
mark_found m.Percent (b ∷ z) h = refl
mark_found m.Assign [] h = refl
mark_found m.Assign (b ∷ z) h = rw h refl
mark_found m.Less [] h = refl
mark_found m.Less (b ∷ z) h = rw h refl
mark_found m.Greater [] h = refl
mark_found m.Greater (b ∷ z) h = rw h refl
mark_found m.Not [] h = refl
mark_found m.Not (b ∷ z) h = rw h refl
mark_found m.Equal z h = refl
mark_found m.NotEqual z h = refl
mark_found m.LessEqual z h = refl
mark_found m.GreaterEqual z h = refl
mark_found m.AndAnd z h = refl
mark_found m.OrOr z h = refl
mark_found m.DotDot z h = refl

-- ---- one symbol

-- A token may begin so.
abbrev pub starts : List ℕ → Bool
starts [] = false
starts (c ∷ z) = not (c == 10) && (not (is_blank c) && not (c == 35))

is_like_name : List ℕ → Bool
is_like_name [] = false
is_like_name (c ∷ z) = begins_name c && list_all is_in_name z

word_like : (which : Word) → is_like_name (word_text which) ≡ true
unfolding word_text same_word is_like_name
word_like w.Column = refl
word_like w.Int = refl
word_like w.Text = refl
word_like w.From = refl
word_like w.Field = refl
word_like w.Lines = refl
word_like w.Fn = refl
word_like w.Task = refl
word_like w.Main = refl
word_like w.Let = refl
word_like w.Finish = refl
word_like w.Sum = refl
word_like w.Least = refl
word_like w.Greatest = refl
word_like w.If = refl
word_like w.Else = refl
word_like w.For = refl
word_like w.In = refl
word_like w.Async = refl
word_like w.Offer = refl
word_like w.Run = refl
word_like w.Return = refl
word_like w.Print = refl
word_like w.Len = refl
word_like w.Size = refl
word_like w.At = refl
word_like w.Same = refl
word_like w.Begins = refl

mark_starts : (which : Mark) → starts (mark_text which) ≡ true
unfolding mark_text same_mark
mark_starts m.LeftParen = refl
mark_starts m.RightParen = refl
mark_starts m.LeftBrace = refl
mark_starts m.RightBrace = refl
mark_starts m.LeftBracket = refl
mark_starts m.RightBracket = refl
mark_starts m.Comma = refl
mark_starts m.Semicolon = refl
mark_starts m.Colon = refl
mark_starts m.Assign = refl
mark_starts m.Equal = refl
mark_starts m.NotEqual = refl
mark_starts m.Less = refl
mark_starts m.LessEqual = refl
mark_starts m.Greater = refl
mark_starts m.GreaterEqual = refl
mark_starts m.Plus = refl
mark_starts m.Minus = refl
mark_starts m.Star = refl
mark_starts m.Slash = refl
mark_starts m.Percent = refl
mark_starts m.AndAnd = refl
mark_starts m.OrOr = refl
mark_starts m.Not = refl
mark_starts m.DotDot = refl

and_parts : (a b : Bool) → (a && b) ≡ true → (a ≡ true) × (b ≡ true)
and_parts true b e = (refl, e)
and_parts false b e = absurd cc

name_starts : (c : ℕ) → begins_name c ≡ true → (not (c == 10) && (not (is_blank c) && not (c == 35))) ≡ true
name_starts c h = grind (arith, h)

digit_starts : (c : ℕ) → is_ascii_digit c ≡ true → (not (c == 10) && (not (is_blank c) && not (c == 35))) ≡ true
digit_starts c h = grind (arith, h)

in_name_if : (c : ℕ) → begins_name c ≡ true → is_in_name c ≡ true
in_name_if c h = grind (arith, h)

like_starts : (text : List ℕ) → is_like_name text ≡ true → starts text ≡ true
unfolding is_like_name
like_starts [] h = absurd cc
like_starts (c ∷ z) h = name_starts c (and_parts (begins_name c) (list_all is_in_name z) h).0

pub symbol_starts : (s : Symbol) → IsLawfulSymbol s → starts (symbol_text s) ≡ true
symbol_starts (t.name []) h = absurd h
symbol_starts (t.name (c ∷ cs)) h = name_starts c h.0
symbol_starts (t.number []) h = absurd h.0
symbol_starts (t.number (c ∷ cs)) h = digit_starts c (and_parts (is_ascii_digit c) (list_all is_ascii_digit cs) h.0).0
symbol_starts (t.lit []) h = absurd h
symbol_starts (t.lit (c ∷ cs)) h = rw h.0 refl
symbol_starts (t.word which) h = like_starts (word_text which) (word_like which)
symbol_starts (t.mark which) h = mark_starts which

like_found : (text z : List ℕ) → is_like_name text ≡ true → Ends is_in_name z → token (text ++ z) ≡ Ok (word_or_name text, length text)
unfolding is_like_name
like_found [] z h e = absurd cc
like_found (c ∷ cs) z h e = let k = and_parts (begins_name c) (list_all is_in_name cs) h in name_found c cs z k.0 (rw (in_name_if c k.0) k.1) e

name_is : (text : List ℕ) → word_of text ≡ None → word_or_name text ≡ kind.Name
unfolding word_or_name
name_is text h = rw h refl

pub found : (s : Symbol) (z : List ℕ) → IsLawfulSymbol s → Stops (kind_of s) z → token (symbol_text s ++ z) ≡ Ok (kind_of s, length (symbol_text s))
found (t.name []) z h e = absurd h
found (t.name (c ∷ cs)) z h e = name_found c cs z h.0 (rw (in_name_if c h.0) h.1) e ∙ ap (λ (k : TokenKind). Ok (k, length (c ∷ cs))) (name_is (c ∷ cs) h.2)
found (t.number []) z h e = absurd h.0
found (t.number (c ∷ cs)) z h e = number_found c cs z h.0 (and_parts (is_ascii_digit c) (list_all is_ascii_digit cs) h.0).0 e
found (t.lit []) z h e = absurd h
found (t.lit (c ∷ cs)) z h e = rw h.0 (lit_found cs z h.1)
found (t.word which) z h e = like_found (word_text which) z (word_like which) e ∙ ap (λ (k : TokenKind). Ok (k, length (word_text which))) (word_is which)
found (t.mark which) z h e = mark_found which z e

-- ---- the tokens of bytes

at_token : (at line : ℕ) (c : ℕ) (cs z : List ℕ) (k : TokenKind) → starts (c ∷ cs) ≡ true → token (c ∷ (cs ++ z)) ≡ Ok (k, length (c ∷ cs))
    → tokens_from 0 at line (c ∷ (cs ++ z)) ≡ with_front (token_of at line (k, length (c ∷ cs)) ∷ []) (tokens_from 0 (at + length (c ∷ cs)) line z)
unfolding tokens_from
at_token at line c cs z k s h = by_tests (c == 10) (is_blank c) (c == 35) s
  where
    less : length (c ∷ cs) - 1 ≡ length cs
    less = omega arith

    rest : tokens_from (length (c ∷ cs) - 1) (at + 1) line (cs ++ z) ≡ tokens_from 0 (at + length (c ∷ cs)) line z
    rest = rw less (tokens-skip (length cs) (at + 1) line (cs ++ z) ∙ ap (tokens_from 0 (at + 1 + length cs) line) (drop-append_seam cs z)
        ∙ ap (λ (i : ℕ). tokens_from 0 i line z) (omega arith))

    by_tests : (n b d : Bool) → (not n && (not b && not d)) ≡ true
        → cond n (tokens_from 0 (at + 1) (line + 1) (cs ++ z)) (cond b (tokens_from 0 (at + 1) line (cs ++ z))
        (cond d (tokens_from (prefix_len (λ (x : ℕ). not (x == 10)) (cs ++ z)) (at + 1) line (cs ++ z))
        (token_then at line (token (c ∷ (cs ++ z))) (λ skip. tokens_from skip (at + 1) line (cs ++ z)))))
        ≡ with_front (token_of at line (k, length (c ∷ cs)) ∷ []) (tokens_from 0 (at + length (c ∷ cs)) line z)
    by_tests true b d e = absurd cc
    by_tests false true d e = absurd cc
    by_tests false false true e = absurd cc
    by_tests false false false e = rw h (ap (with_front (token_of at line (k, length (c ∷ cs)) ∷ [])) rest)

pub at_text : (at line : ℕ) (text z : List ℕ) (k : TokenKind) → starts text ≡ true → token (text ++ z) ≡ Ok (k, length text)
    → tokens_from 0 at line (text ++ z) ≡ with_front (token_of at line (k, length text) ∷ []) (tokens_from 0 (at + length text) line z)
at_text at line [] z k s h = absurd cc
at_text at line (c ∷ cs) z k s h = at_token at line c cs z k s h

pub at_space : (at line : ℕ) (z : List ℕ) → tokens_from 0 at line (32 ∷ z) ≡ tokens_from 0 (at + 1) line z
unfolding tokens_from
at_space at line z = refl

pub at_line_end : (at line : ℕ) (z : List ℕ) → tokens_from 0 at line (10 ∷ z) ≡ tokens_from 0 (at + 1) (line + 1) z
unfolding tokens_from
at_line_end at line z = refl
