-- A layout of lawful symbols is cut into tokens again, whose symbols are these.
use Rattle.std.proofs.Common.{◌≡◌, ℕ, zero, suc, ◌+◌, ◌-◌, ◌&&◌, ◌||◌, Bool, true, false, nat_eq, List, [], ◌∷◌, ◌++◌, length, Ok, refl, sym, ◌∙◌, ap, subst, arith, append_assoc, length-append}
use Rattle.std.proofs.Math.Seq.{take-append_seam, drop-append_seam}
use Rattle.std.specs.Char.{is_ascii_digit}
use Rattle.spd_syntax.specs.declared.token.Word.{Word}
use Rattle.spd_syntax.specs.declared.token.Word.TheVariants as w
use Rattle.spd_syntax.specs.declared.token.Mark.{Mark}
use Rattle.spd_syntax.specs.declared.token.Mark.TheVariants as m
use Rattle.spd_syntax.specs.declared.token.TokenKind.{TokenKind}
use Rattle.spd_syntax.specs.declared.token.TokenKind.TheVariants as kind
use Rattle.spd_syntax.specs.declared.token.Token.{Token}
use Rattle.spd_canonical.specs.declared.page.Last.{Last}
use Rattle.spd_canonical.specs.declared.page.Last.TheVariants as last
use Rattle.spd_canonical.specs.declared.page.Gap.{Gap}
use Rattle.spd_canonical.specs.declared.page.Gap.TheVariants as gap
use Rattle.spd_syntax.specs.Tokens as t
use Rattle.spd_syntax.specs.Tokens.{Symbol, symbol, seen, tokens_from, tokens_of, token, token_of, with_front, begins_name, is_in_name}
use Rattle.spd_syntax.specs.Symbols.{all_seen, kind_of, same_word, same_mark, IsLawfulSymbol}
use Rattle.spd_canonical.specs.Layout.{word_text, mark_text, symbol_text, last_with, sticks_to_last, opens_call, is_called, begins_primary, unless, gap_between, spaces, braces_at, gap_text, PageView, empty_page, with_symbol, laid, last_line_end, page_text, layout}
use Rattle.spd_canonical.proofs.Says.{symbols}
use Rattle.spd_canonical.proofs.CutAgain.{Ends, is_equals, takes_equals, StopsMark, Stops, symbol_starts, found, at_text, at_space, at_line_end}

-- ---- what stands behind a page

-- the bytes that symbols and the end add to a page
abbrev pub rest : PageView → List Symbol → List ℕ
rest page [] = last_line_end page.last
rest page (s ∷ ss) = gap_text (gap_between page.last (kind_of s)) (braces_at page.braces (kind_of s)) ++ (symbol_text s ++ rest (with_symbol page s) ss)

rest_is : (page : PageView) (ss : List Symbol) → page_text (laid page ss) ≡ page.bytes ++ rest page ss
rest_is page [] = refl
rest_is page (s ∷ ss) =
    let g = gap_text (gap_between page.last (kind_of s)) (braces_at page.braces (kind_of s)) in
    rest_is (with_symbol page s) ss ∙ append_assoc (page.bytes ++ g) (symbol_text s) (rest (with_symbol page s) ss)
    ∙ append_assoc page.bytes g (symbol_text s ++ rest (with_symbol page s) ss)

abbrev pub Lawfuls : List Symbol → Type 0
Lawfuls [] = Unit {0}
Lawfuls (s ∷ ss) = IsLawfulSymbol s × Lawfuls ss

-- ---- no symbol goes on with the one before it

-- bytes that go on with no token
abbrev Loose : List ℕ → Type 0
Loose z = Ends is_in_name z × Ends is_ascii_digit z × Ends is_equals z

mark_stops : (b : Bool) (z : List ℕ) → Ends is_equals z → StopsMark b z
mark_stops true z h = h
mark_stops false z h = tt

loose_stops : (k : TokenKind) (z : List ℕ) → Loose z → Stops k z
loose_stops kind.Name z h = h.0
loose_stops kind.Number z h = h.1
loose_stops kind.Lit z h = tt
loose_stops (kind.Word which) z h = h.0
loose_stops (kind.Mark which) z h = mark_stops (takes_equals which) z h.2

or_and : (a b c : Bool) → (a || (b && c)) ≡ true → (a || c) ≡ true
or_and true b c h = refl
or_and false true c h = h
or_and false false c h = absurd cc

or_false : (a : Bool) → (a || false) ≡ true → a ≡ true
or_false true h = refl
or_false false h = absurd cc

or_left : (a b : Bool) → a ≡ true → (a || b) ≡ true
or_left true b h = refl
or_left false b h = absurd cc

unless_nothing : (b : Bool) → unless b ≡ gap.Nothing → b ≡ true
unless_nothing true h = refl
unless_nothing false h = absurd cc

loose_mark : (which : Mark) (z : List ℕ) → (sticks_to_last (kind.Mark which) || opens_call (kind.Mark which)) ≡ true → Loose (mark_text which ++ z)
unfolding mark_text same_mark
loose_mark m.LeftParen z h = (refl, refl, refl)
loose_mark m.RightParen z h = (refl, refl, refl)
loose_mark m.LeftBrace z h = absurd cc
loose_mark m.RightBrace z h = absurd cc
loose_mark m.LeftBracket z h = (refl, refl, refl)
loose_mark m.RightBracket z h = (refl, refl, refl)
loose_mark m.Comma z h = (refl, refl, refl)
loose_mark m.Semicolon z h = (refl, refl, refl)
loose_mark m.Colon z h = (refl, refl, refl)
loose_mark m.Assign z h = absurd cc
loose_mark m.Equal z h = absurd cc
loose_mark m.NotEqual z h = absurd cc
loose_mark m.Less z h = absurd cc
loose_mark m.LessEqual z h = absurd cc
loose_mark m.Greater z h = absurd cc
loose_mark m.GreaterEqual z h = absurd cc
loose_mark m.Plus z h = absurd cc
loose_mark m.Minus z h = absurd cc
loose_mark m.Star z h = absurd cc
loose_mark m.Slash z h = absurd cc
loose_mark m.Percent z h = absurd cc
loose_mark m.AndAnd z h = absurd cc
loose_mark m.OrOr z h = absurd cc
loose_mark m.Not z h = absurd cc
loose_mark m.DotDot z h = (refl, refl, refl)

loose_symbol : (s : Symbol) (z : List ℕ) → (sticks_to_last (kind_of s) || opens_call (kind_of s)) ≡ true → Loose (symbol_text s ++ z)
loose_symbol (t.name text) z h = absurd cc
loose_symbol (t.number text) z h = absurd cc
loose_symbol (t.lit text) z h = absurd cc
loose_symbol (t.word which) z h = absurd cc
loose_symbol (t.mark which) z h = loose_mark which z h

primary_mark : (which : Mark) (z : List ℕ) → begins_primary (kind.Mark which) ≡ true → Ends is_equals (mark_text which ++ z)
unfolding mark_text same_mark
primary_mark m.LeftParen z h = refl
primary_mark m.RightParen z h = absurd cc
primary_mark m.LeftBrace z h = absurd cc
primary_mark m.RightBrace z h = absurd cc
primary_mark m.LeftBracket z h = absurd cc
primary_mark m.RightBracket z h = absurd cc
primary_mark m.Comma z h = absurd cc
primary_mark m.Semicolon z h = absurd cc
primary_mark m.Colon z h = absurd cc
primary_mark m.Assign z h = absurd cc
primary_mark m.Equal z h = absurd cc
primary_mark m.NotEqual z h = absurd cc
primary_mark m.Less z h = absurd cc
primary_mark m.LessEqual z h = absurd cc
primary_mark m.Greater z h = absurd cc
primary_mark m.GreaterEqual z h = absurd cc
primary_mark m.Plus z h = absurd cc
primary_mark m.Minus z h = absurd cc
primary_mark m.Star z h = absurd cc
primary_mark m.Slash z h = absurd cc
primary_mark m.Percent z h = absurd cc
primary_mark m.AndAnd z h = absurd cc
primary_mark m.OrOr z h = absurd cc
primary_mark m.Not z h = absurd cc
primary_mark m.DotDot z h = absurd cc

name_no_equals : (c : ℕ) → begins_name c ≡ true → nat_eq 61 c ≡ false
name_no_equals c h = grind (arith, h)

digit_no_equals : (c : ℕ) → is_ascii_digit c ≡ true → nat_eq 61 c ≡ false
digit_no_equals c h = grind (arith, h)

first_true : (a b : Bool) → (a && b) ≡ true → a ≡ true
first_true true b h = refl
first_true false b h = absurd cc

word_no_equals : (which : Word) (z : List ℕ) → Ends is_equals (word_text which ++ z)
unfolding word_text same_word
word_no_equals w.Column z = refl
word_no_equals w.Int z = refl
word_no_equals w.Text z = refl
word_no_equals w.From z = refl
word_no_equals w.Field z = refl
word_no_equals w.Lines z = refl
word_no_equals w.Fn z = refl
word_no_equals w.Task z = refl
word_no_equals w.Main z = refl
word_no_equals w.Let z = refl
word_no_equals w.Finish z = refl
word_no_equals w.Sum z = refl
word_no_equals w.Least z = refl
word_no_equals w.Greatest z = refl
word_no_equals w.If z = refl
word_no_equals w.Else z = refl
word_no_equals w.For z = refl
word_no_equals w.In z = refl
word_no_equals w.Async z = refl
word_no_equals w.Offer z = refl
word_no_equals w.Run z = refl
word_no_equals w.Return z = refl
word_no_equals w.Print z = refl
word_no_equals w.Len z = refl
word_no_equals w.Size z = refl
word_no_equals w.At z = refl
word_no_equals w.Same z = refl
word_no_equals w.Begins z = refl

primary_symbol : (s : Symbol) (z : List ℕ) → IsLawfulSymbol s → begins_primary (kind_of s) ≡ true → Ends is_equals (symbol_text s ++ z)
primary_symbol (t.name []) z l h = absurd l
primary_symbol (t.name (c ∷ cs)) z l h = name_no_equals c l.0
primary_symbol (t.number []) z l h = absurd l.0
primary_symbol (t.number (c ∷ cs)) z l h = digit_no_equals c (first_true (is_ascii_digit c) _ l.0)
primary_symbol (t.lit text) z l h = absurd cc
primary_symbol (t.word which) z l h = word_no_equals which z
primary_symbol (t.mark which) z l h = primary_mark which z h

-- Where nothing stands between two tokens, the second doesn't go on with the first.
beside : (before : Last) (k : TokenKind) (s : Symbol) (z : List ℕ) → IsLawfulSymbol s → gap_between (last_with before k) (kind_of s) ≡ gap.Nothing
    → Stops k (symbol_text s ++ z)
beside before kind.Lit s z l h = tt
beside before kind.Name s z l h = (loose_symbol s z (unless_nothing (sticks_to_last (kind_of s) || opens_call (kind_of s)) h)).0
beside before kind.Number s z l h = (loose_symbol s z (or_left (sticks_to_last (kind_of s)) (opens_call (kind_of s))
    (or_false (sticks_to_last (kind_of s)) (unless_nothing (sticks_to_last (kind_of s) || false) h)))).1
beside before (kind.Word which) s z l h = (loose_symbol s z (or_and (sticks_to_last (kind_of s)) (is_called (kind.Word which)) (opens_call (kind_of s))
    (unless_nothing (sticks_to_last (kind_of s) || (is_called (kind.Word which) && opens_call (kind_of s))) h))).0
beside before (kind.Mark m.Not) s z l h = primary_symbol s z l (unless_nothing (begins_primary (kind_of s)) h)
beside before (kind.Mark m.Assign) s z l h = (loose_symbol s z (or_left (sticks_to_last (kind_of s)) (opens_call (kind_of s))
    (or_false (sticks_to_last (kind_of s)) (unless_nothing (sticks_to_last (kind_of s) || false) h)))).2
beside before (kind.Mark m.Less) s z l h = (loose_symbol s z (or_left (sticks_to_last (kind_of s)) (opens_call (kind_of s))
    (or_false (sticks_to_last (kind_of s)) (unless_nothing (sticks_to_last (kind_of s) || false) h)))).2
beside before (kind.Mark m.Greater) s z l h = (loose_symbol s z (or_left (sticks_to_last (kind_of s)) (opens_call (kind_of s))
    (or_false (sticks_to_last (kind_of s)) (unless_nothing (sticks_to_last (kind_of s) || false) h)))).2
beside before (kind.Mark _) s z l h = tt

stops_gap : (k : TokenKind) (g : Gap) (n : ℕ) (z : List ℕ) → (g ≡ gap.Nothing → Stops k z) → Stops k (gap_text g n ++ z)
stops_gap k gap.Nothing n z h = h refl
stops_gap k gap.Space n z h = loose_stops k (32 ∷ z) (refl, refl, refl)
stops_gap k gap.Line n z h = loose_stops k (10 ∷ (spaces n ++ z)) (refl, refl, refl)

stops_end : (before : Last) (k : TokenKind) → Stops k (last_line_end (last_with before k))
stops_end before k = loose_stops k (last_line_end (last_with before k)) (loose_end (last_with before k))
  where
    loose_end : (l : Last) → Loose (last_line_end l)
    loose_end last.Nothing = (tt, tt, tt)
    loose_end last.Unary = (refl, refl, refl)
    loose_end (last.Token k) = (refl, refl, refl)

stops_rest : (page : PageView) (s : Symbol) (ss : List Symbol) → Lawfuls ss → Stops (kind_of s) (rest (with_symbol page s) ss)
stops_rest page s [] l = stops_end page.last (kind_of s)
stops_rest page s (next ∷ ss) l =
    let after = with_symbol page s in
    stops_gap (kind_of s) (gap_between after.last (kind_of next)) (braces_at after.braces (kind_of next))
    (symbol_text next ++ rest (with_symbol after next) ss) (λ nothing. beside page.last (kind_of s) next (rest (with_symbol after next) ss) l.0 nothing)

-- ---- gaps are passed over

record Skipped (at line : ℕ) (front z : List ℕ) : Type 0 where
  next : ℕ
  is : tokens_from 0 at line (front ++ z) ≡ tokens_from 0 (at + length front) next z

spaces_skipped : (n at line : ℕ) (z : List ℕ) → tokens_from 0 at line (spaces n ++ z) ≡ tokens_from 0 (at + length (spaces n)) line z
spaces_skipped zero at line z = ap (λ (i : ℕ). tokens_from 0 i line z) (omega arith)
spaces_skipped (suc n) at line z =
    at_space at line (32 ∷ (spaces n ++ z)) ∙ at_space (at + 1) line (spaces n ++ z) ∙ spaces_skipped n (at + 1 + 1) line z
    ∙ ap (λ (i : ℕ). tokens_from 0 i line z) (omega arith)

gap_skipped : (g : Gap) (n at line : ℕ) (z : List ℕ) → Skipped at line (gap_text g n) z
gap_skipped gap.Nothing n at line z = record { next = line; is = ap (λ (i : ℕ). tokens_from 0 i line z) (omega arith) }
gap_skipped gap.Space n at line z = record { next = line; is = at_space at line z ∙ ap (λ (i : ℕ). tokens_from 0 i line z) (omega arith) }
gap_skipped gap.Line n at line z = record {
  next = line + 1;
  is = at_line_end at line (spaces n ++ z) ∙ spaces_skipped n (at + 1) (line + 1) z
      ∙ ap (λ (i : ℕ). tokens_from 0 i (line + 1) z) (omega arith);
}

-- ---- symbol by symbol

-- The bytes, in a text and from a place and a line on, are cut into tokens of these symbols.
pub record AreCut (text : List ℕ) (at line : ℕ) (z : List ℕ) (ss : List Symbol) : Type 0 where
  pub tokens : List Token
  pub is : tokens_from 0 at line z ≡ Ok tokens
  pub are : symbols (all_seen text tokens) ≡ ss

end_cut : (text : List ℕ) (at line : ℕ) (l : Last) → AreCut text at line (last_line_end l) []
unfolding tokens_from
end_cut text at line last.Nothing = record { tokens = []; is = refl; are = refl }
end_cut text at line last.Unary = record { tokens = []; is = refl; are = refl }
end_cut text at line (last.Token k) = record { tokens = []; is = refl; are = refl }

symbol_is : (s : Symbol) → symbol (kind_of s) (symbol_text s) ≡ s
symbol_is (t.name text) = refl
symbol_is (t.number text) = refl
symbol_is (t.lit text) = refl
symbol_is (t.word which) = refl
symbol_is (t.mark which) = refl

-- a token behind the bytes before it
seen_is : (front z : List ℕ) (s : Symbol) (line : ℕ) → (seen (front ++ (symbol_text s ++ z))
    (token_of (length front) line (kind_of s, length (symbol_text s)))).0 ≡ s
seen_is front z s line =
    let n : length front + length (symbol_text s) - length front ≡ length (symbol_text s) = omega arith in
    rw (n, drop-append_seam front (symbol_text s ++ z), take-append_seam (symbol_text s) z) (symbol_is s)

pub cut_again : (page : PageView) (ss : List Symbol) (line : ℕ) → Lawfuls ss → AreCut (page.bytes ++ rest page ss) (length page.bytes) line (rest page ss) ss
cut_again page [] line l = end_cut (page.bytes ++ last_line_end page.last) (length page.bytes) line page.last
cut_again page (s ∷ ss) line l =
    let g = gap_text (gap_between page.last (kind_of s)) (braces_at page.braces (kind_of s)) in
    let after = with_symbol page s in
    let z = rest after ss in
    let skip = gap_skipped (gap_between page.last (kind_of s)) (braces_at page.braces (kind_of s)) (length page.bytes) line (symbol_text s ++ z) in
    let more = cut_again after ss skip.next l.1 in
    let place : length page.bytes + length g ≡ length (page.bytes ++ g) = sym (length-append page.bytes g) in
    let one = at_text (length (page.bytes ++ g)) skip.next (symbol_text s) z (kind_of s) (symbol_starts s l.0) (found s z l.0 (stops_rest page s ss l.1)) in
    let end : length (page.bytes ++ g) + length (symbol_text s) ≡ length after.bytes = sym (length-append (page.bytes ++ g) (symbol_text s)) in
    let text : page.bytes ++ (g ++ (symbol_text s ++ z)) ≡ (page.bytes ++ g) ++ (symbol_text s ++ z) = sym (append_assoc page.bytes g (symbol_text s ++ z)) in
    let whole : (page.bytes ++ g) ++ (symbol_text s ++ z) ≡ after.bytes ++ z = sym (append_assoc (page.bytes ++ g) (symbol_text s) z) in
    record {
      tokens = token_of (length (page.bytes ++ g)) skip.next (kind_of s, length (symbol_text s)) ∷ more.tokens;
      is = skip.is ∙ ap (λ (i : ℕ). tokens_from 0 i skip.next (symbol_text s ++ z)) place ∙ one
          ∙ ap (λ (i : ℕ). with_front (token_of (length (page.bytes ++ g)) skip.next (kind_of s, length (symbol_text s)) ∷ [])
          (tokens_from 0 i skip.next z)) end
          ∙ ap (with_front (token_of (length (page.bytes ++ g)) skip.next (kind_of s, length (symbol_text s)) ∷ [])) more.is;
      are = ap (λ (all : List ℕ). symbols (all_seen all (token_of (length (page.bytes ++ g)) skip.next (kind_of s, length (symbol_text s)) ∷ more.tokens))) text
          ∙ ap (λ (x : Symbol). x ∷ symbols (all_seen ((page.bytes ++ g) ++ (symbol_text s ++ z)) more.tokens)) (seen_is (page.bytes ++ g) z s skip.next)
          ∙ ap (λ (us : List Symbol). s ∷ us) (ap (λ (all : List ℕ). symbols (all_seen all more.tokens)) whole ∙ more.are);
    }

-- A layout is cut into tokens whose symbols are those that were laid out.
pub layout_again : (ss : List Symbol) → Lawfuls ss → AreCut (layout ss) 0 1 (layout ss) ss
unfolding layout
layout_again ss l = subst (λ (z : List ℕ). AreCut z 0 1 z ss) (sym (rest_is empty_page ss)) (cut_again empty_page ss 1 l)
