-- The tokens of a text are symbols that a text may hold.
use Rattle.std.proofs.Common.{◌≡◌, ℕ, zero, suc, ◌+◌, ◌-◌, ◌<◌, ◌≤◌, ◌==◌, ◌&&◌, ◌||◌, Bool, true, false, cond, not, nat_le, List, [], ◌∷◌, length, take, drop, Option, Some, None, Result, Ok, Err, refl, sym, ◌∙◌, ap, subst, arith}
use Rattle.std.proofs.lemmas.Bool.{eqb-true, leb-true}
use Rattle.std.proofs.lemmas.List.{drop-drop}
use Rattle.std.specs.Char.{is_ascii_digit}
use Rattle.std.specs.List.{prefix_len, list_all}
use Rattle.spd_syntax.specs.declared.token.Word.{Word}
use Rattle.spd_syntax.specs.declared.token.Mark.{Mark}
use Rattle.spd_syntax.specs.declared.token.TokenKind.{TokenKind}
use Rattle.spd_syntax.specs.declared.token.TokenKind.TheVariants as kind
use Rattle.spd_syntax.specs.declared.token.Token.{Token}
use Rattle.spd_syntax.specs.declared.lexing.LexFault.{LexFault}
use Rattle.spd_syntax.specs.declared.lexing.LexKind.{LexKind}
use Rattle.spd_syntax.specs.declared.lexing.LexKind.TheVariants.{BadByte, OpenString, BadEscape}
use Rattle.spd_syntax.specs.Tokens.{Symbol, name, number, lit, word, mark, symbol, Seen, is_blank, begins_name, is_in_name, is_in_comment, is_printable, word_of, kind_of_word, word_or_name, string_end, lit_to, mark_to, longest_mark, token, with_front, token_of, token_then, tokens_from, tokens_of}
use Rattle.spd_syntax.specs.Symbols.{all_seen, IsName, IsNumeral, IsQuoted, IsLawfulSymbol, Eachly, is_great, value_of, greatest_literal, is_in, kind_of}
use Rattle.spd_syntax.specs.declared.fault.ParseKind.TheVariants as fault
use Rattle.spd_syntax.specs.Limits.{opening, open_with, Keeps}

-- A text may hold the symbol.
abbrev pub IsTextSymbol : Symbol → Type 0
IsTextSymbol (name text) = IsName text
IsTextSymbol (number digits) = IsNumeral digits
IsTextSymbol (lit text) = IsQuoted text
IsTextSymbol (word which) = Unit {0}
IsTextSymbol (mark which) = Unit {0}

-- ---- parts of a token

all_of_prefix : (p : ℕ → Bool) (z : List ℕ) → list_all p (take (prefix_len p z) z) ≡ true
all_of_prefix p [] = refl
all_of_prefix p (b ∷ z) = by_test (p b) refl (all_of_prefix p z)
  where
    by_test : (t : Bool) → p b ≡ t → list_all p (take (prefix_len p z) z) ≡ true → list_all p (take (cond t (1 + prefix_len p z) 0) (b ∷ z)) ≡ true
    by_test true e h = let k : 1 + prefix_len p z ≡ suc (prefix_len p z) = omega arith in rw (k, e, h) refl
    by_test false e h = refl

in_name : (b : ℕ) → begins_name b ≡ true → is_in_name b ≡ true
in_name b h = grind (arith, h)

-- the bytes of a string up to its end are a whole string
whole_string : (e : Bool) (at : ℕ) (z : List ℕ) (n : ℕ) → string_end e at z ≡ Ok n → (at < n) × (n - at ≤ length z) × (string_end e at (take (n - at) z) ≡ Ok n)
whole_string e at [] n h = absurd cc
whole_string true at (b ∷ z) n h = by_tests (b == 10) (b == 34 || b == 92) refl refl h (λ g. whole_string false (at + 1) z n g)
  where
    by_tests : (s t : Bool) → (b == 10) ≡ s → (b == 34 || b == 92) ≡ t → cond s (Err OpenString) (cond t (string_end false (at + 1) z) (Err BadEscape)) ≡ Ok n
        → (string_end false (at + 1) z ≡ Ok n → (at + 1 < n) × (n - (at + 1) ≤ length z) × (string_end false (at + 1) (take (n - (at + 1)) z) ≡ Ok n))
        → (at < n) × (n - at ≤ length (b ∷ z)) × (string_end true at (take (n - at) (b ∷ z)) ≡ Ok n)
    by_tests true t es et h go = absurd cc
    by_tests false false es et h go = absurd cc
    by_tests false true es et h go =
        let g = go h in
        let k : n - at ≡ suc (n - (at + 1)) = omega (arith, g.0) in
        (omega (arith, g.0), omega (arith, g.0, g.1), rw (k, es, et) g.2)
whole_string false at (b ∷ z) n h = by_tests (b == 10) (b == 34) (b == 92) (is_printable b) refl refl refl refl h (λ e g. whole_string e (at + 1) z n g)
  where
    by_tests : (s q t p : Bool) → (b == 10) ≡ s → (b == 34) ≡ q → (b == 92) ≡ t → is_printable b ≡ p
        → cond s (Err OpenString) (cond q (Ok (at + 1)) (cond t (string_end true (at + 1) z) (cond p (string_end false (at + 1) z) (Err BadByte)))) ≡ Ok n
        → ((e : Bool) → string_end e (at + 1) z ≡ Ok n → (at + 1 < n) × (n - (at + 1) ≤ length z) × (string_end e (at + 1) (take (n - (at + 1)) z) ≡ Ok n))
        → (at < n) × (n - at ≤ length (b ∷ z)) × (string_end false at (take (n - at) (b ∷ z)) ≡ Ok n)
    by_tests true q t p es eq et ep h go = absurd cc
    by_tests false true t p es eq et ep h go =
        let e : at + 1 ≡ n = cc in
        let k : n - at ≡ suc 0 = omega (arith, e) in
        (omega (arith, e), omega (arith, e), rw (k, es, eq) (ap (λ (i : ℕ). Ok i) e))
    by_tests false false true p es eq et ep h go =
        let g = go true h in
        let k : n - at ≡ suc (n - (at + 1)) = omega (arith, g.0) in
        (omega (arith, g.0), omega (arith, g.0, g.1), rw (k, es, eq, et) g.2)
    by_tests false false false true es eq et ep h go =
        let g = go false h in
        let k : n - at ≡ suc (n - (at + 1)) = omega (arith, g.0) in
        (omega (arith, g.0), omega (arith, g.0, g.1), rw (k, es, eq, et, ep) g.2)
    by_tests false false false false es eq et ep h go = absurd cc

take_length : (n : ℕ) (z : List ℕ) → n ≤ length z → length (take n z) ≡ n
take_length zero z h = refl
take_length (suc n) [] h = absurd (omega (arith, h))
take_length (suc n) (b ∷ z) h = ap suc (take_length n z (omega (arith, h)))

-- ---- one token

token_holds : (b : ℕ) (z : List ℕ) (k : TokenKind) (n : ℕ) → token (b ∷ z) ≡ Ok (k, n) → IsTextSymbol (symbol k (take n (b ∷ z)))
unfolding token word_or_name
token_holds b z k n h = by_tests (begins_name b) (is_ascii_digit b) (b == 34) refl refl refl h
  where
    by_word : (o : Option Word) → begins_name b ≡ true → word_of (b ∷ take (prefix_len is_in_name z) z) ≡ o
        → IsTextSymbol (symbol (kind_of_word o) (b ∷ take (prefix_len is_in_name z) z))
    by_word (Some which) e w = tt
    by_word None e w = (e, all_of_prefix is_in_name z, w)

    by_mark : (o : Option (Mark × ℕ)) → mark_to o ≡ Ok (k, n) → IsTextSymbol (symbol k (take n (b ∷ z)))
    by_mark None e = absurd cc
    by_mark (Some found) e = let same : (kind.Mark found.0, found.1) ≡ (k, n) = cc in
        subst (λ (p : TokenKind × ℕ). IsTextSymbol (symbol p.0 (take p.1 (b ∷ z)))) same tt

    by_string : (o : Result ℕ LexKind) → (b == 34) ≡ true → string_end false 1 z ≡ o → lit_to o ≡ Ok (k, n) → IsTextSymbol (symbol k (take n (b ∷ z)))
    by_string (Err f) e s h = absurd cc
    by_string (Ok end) e s h =
        let g = whole_string false 1 z end s in
        let m : end ≡ suc (end - 1) = omega (arith, g.0) in
        let size : length (take (end - 1) z) ≡ end - 1 = take_length (end - 1) z g.1 in
        let full : suc (length (take (end - 1) z)) ≡ end = omega (arith, size, m) in
        let same : (kind.Lit, end) ≡ (k, n) = cc in
        subst (λ (p : TokenKind × ℕ). IsTextSymbol (symbol p.0 (take p.1 (b ∷ z)))) same
        (subst (λ (i : ℕ). IsQuoted (take i (b ∷ z))) (sym m) (eqb-true b 34 e, g.2 ∙ ap (λ (i : ℕ). Ok i) (sym full)))

    by_tests : (s d q : Bool) → begins_name b ≡ s → is_ascii_digit b ≡ d → (b == 34) ≡ q
        → cond s (Ok (word_or_name (take (prefix_len is_in_name (b ∷ z)) (b ∷ z)), prefix_len is_in_name (b ∷ z)))
        (cond d (Ok (kind.Number, prefix_len is_ascii_digit (b ∷ z))) (cond q (lit_to (string_end false 1 z)) (mark_to (longest_mark (b ∷ z))))) ≡ Ok (k, n)
        → IsTextSymbol (symbol k (take n (b ∷ z)))
    by_tests true d q es ed eq h =
        let m : prefix_len is_in_name (b ∷ z) ≡ suc (prefix_len is_in_name z) = rw (in_name b es) (omega arith) in
        let same : (word_or_name (take (prefix_len is_in_name (b ∷ z)) (b ∷ z)), prefix_len is_in_name (b ∷ z)) ≡ (k, n) = cc in
        subst (λ (p : TokenKind × ℕ). IsTextSymbol (symbol p.0 (take p.1 (b ∷ z)))) same
        (subst (λ (i : ℕ). IsTextSymbol (symbol (word_or_name (take i (b ∷ z))) (take i (b ∷ z)))) (sym m)
        (by_word (word_of (b ∷ take (prefix_len is_in_name z) z)) es refl))
    by_tests false true q es ed eq h =
        let m : prefix_len is_ascii_digit (b ∷ z) ≡ suc (prefix_len is_ascii_digit z) = rw ed (omega arith) in
        let same : (kind.Number, prefix_len is_ascii_digit (b ∷ z)) ≡ (k, n) = cc in
        subst (λ (p : TokenKind × ℕ). IsTextSymbol (symbol p.0 (take p.1 (b ∷ z)))) same
        (subst (λ (i : ℕ). IsNumeral (take i (b ∷ z))) (sym m) (rw (ed, all_of_prefix is_ascii_digit z) refl))
    by_tests false false true es ed eq h = by_string (string_end false 1 z) eq refl h
    by_tests false false false es ed eq h = by_mark (longest_mark (b ∷ z)) h

-- ---- all tokens

next : (text : List ℕ) (b : ℕ) (z : List ℕ) (at : ℕ) → drop at text ≡ b ∷ z → drop (at + 1) text ≡ z
next text b z at e = sym (drop-drop 1 at text) ∙ ap (drop 1) e

module _ (text : List ℕ) where
  tokens_hold : (skip at line : ℕ) (z : List ℕ) → drop at text ≡ z → (ts : List Token) → tokens_from skip at line z ≡ Ok ts
      → Eachly IsTextSymbol (all_seen text ts)
  unfolding tokens_from
  tokens_hold skip at line [] here ts h = let none : [] ≡ ts = cc in subst (λ (us : List Token). Eachly IsTextSymbol (all_seen text us)) none tt
  tokens_hold (suc skip) at line (b ∷ z) here ts h = tokens_hold skip (at + 1) line z (next text b z at here) ts h
  tokens_hold zero at line (b ∷ z) here ts h =
      by_tests (b == 10) (is_blank b) (b == 35) (token (b ∷ z)) refl h (λ skip l us g. tokens_hold skip (at + 1) l z (next text b z at here) us g)
    where
      by_rest : (k : TokenKind) (n : ℕ) (o : Result (List Token) LexFault) → token (b ∷ z) ≡ Ok (k, n) → with_front (token_of at line (k, n) ∷ []) o ≡ Ok ts
          → ((us : List Token) → o ≡ Ok us → Eachly IsTextSymbol (all_seen text us)) → Eachly IsTextSymbol (all_seen text ts)
      by_rest k n (Err f) is e go = absurd cc
      by_rest k n (Ok us) is e go =
          let same : token_of at line (k, n) ∷ us ≡ ts = cc in
          let size : at + n - at ≡ n = omega arith in
          subst (λ (vs : List Token). Eachly IsTextSymbol (all_seen text vs)) same ((rw (size, here) (token_holds b z k n is)), go us refl)

      by_token : (o : Result (TokenKind × ℕ) LexKind) → token (b ∷ z) ≡ o → token_then at line o (λ skip. tokens_from skip (at + 1) line z) ≡ Ok ts
          → ((skip l : ℕ) (us : List Token) → tokens_from skip (at + 1) l z ≡ Ok us → Eachly IsTextSymbol (all_seen text us))
          → Eachly IsTextSymbol (all_seen text ts)
      by_token (Err f) is e go = absurd cc
      by_token (Ok found) is e go = by_rest found.0 found.1 (tokens_from (found.1 - 1) (at + 1) line z) is e (λ us g. go (found.1 - 1) line us g)

      by_tests : (n k c : Bool) (o : Result (TokenKind × ℕ) LexKind) → token (b ∷ z) ≡ o
          → cond n (tokens_from zero (at + 1) (line + 1) z) (cond k (tokens_from zero (at + 1) line z)
          (cond c (tokens_from (prefix_len is_in_comment z) (at + 1) line z) (token_then at line o (λ skip. tokens_from skip (at + 1) line z)))) ≡ Ok ts
          → ((skip l : ℕ) (us : List Token) → tokens_from skip (at + 1) l z ≡ Ok us → Eachly IsTextSymbol (all_seen text us))
          → Eachly IsTextSymbol (all_seen text ts)
      by_tests true k c o is e go = go zero (line + 1) ts e
      by_tests false true c o is e go = go zero line ts e
      by_tests false false true o is e go = go (prefix_len is_in_comment z) line ts e
      by_tests false false false o is e go = by_token o is e go

pub lexed : (text : List ℕ) (tokens : List Token) → tokens_of text ≡ Ok tokens → Eachly IsTextSymbol (all_seen text tokens)
lexed text tokens h = tokens_hold text 0 0 1 text refl tokens h

-- ---- and those that are no number too great are lawful

lawful_of : (s : Symbol) → IsTextSymbol s → is_great s ≡ false → IsLawfulSymbol s
lawful_of (name z) h g = h
lawful_of (number z) h g = (h, leb-true (value_of z) greatest_literal (by_test (nat_le (value_of z) greatest_literal) g))
  where
    by_test : (b : Bool) → not b ≡ false → b ≡ true
    by_test true e = refl
    by_test false e = absurd cc
lawful_of (lit z) h g = h
lawful_of (word which) h g = tt
lawful_of (mark which) h g = tt

pub kept_lawful : (limit n : ℕ) (ts : List Seen) → Eachly IsTextSymbol ts → Keeps limit n ts → Eachly IsLawfulSymbol ts
kept_lawful limit n [] h k = tt
kept_lawful limit n (t ∷ ts) h k = (
  lawful_of t.0 h.0 (by_tests (is_great t.0) (is_in (kind_of t.0) opening && nat_le limit n) k.0),
  kept_lawful limit
      (open_with n t.0) ts h.1 k.1,
)
  where
    by_tests : (g d : Bool) → cond g (Some fault.Literal) (cond d (Some fault.TooDeep) None) ≡ None → g ≡ false
    by_tests true d e = absurd cc
    by_tests false d e = refl
