-- Cutting a text step by step.
use Rattle.std.proofs.Common.{◌≡◌, ◌≢◌, ℕ, zero, suc, ◌+◌, ◌-◌, ◌<◌, ◌≤◌, true, false, List, [], ◌∷◌, ◌++◌, drop, length, get_or, Result, Ok, Err, refl, sym, ap, ◌∙◌, append_assoc, arith, add-one, drop-cons}
use Rattle.std.specs.List.{prefix_len}
use Rattle.std.proofs.lemmas.Bool.{ne_eqb}
use Rattle.std.proofs.lemmas.List.{append-nil, drop-drop}
use Rattle.std.proofs.Math.ListN.{drop_of_length-le}
use Rattle.spd_syntax.specs.declared.token.Token.{Token}
use Rattle.spd_syntax.specs.declared.lexing.LexFault.{LexFault}
use Rattle.spd_syntax.specs.Tokens.{tokens_from, token, token_of, token_then, with_front, is_blank, is_in_comment, AreInOrder}

-- Passing over bytes is dropping them.
pub tokens-skip : (n at line : ℕ) (z : List ℕ) → tokens_from n at line z ≡ tokens_from 0 (at + n) line (drop n z)
unfolding tokens_from
tokens-skip zero at line z = ap (λ (i : ℕ). tokens_from 0 i line z) (omega arith)
tokens-skip (suc n) at line [] = refl
tokens-skip (suc n) at line (b ∷ z) =
    tokens-skip n (at + 1) line z ∙ ap (λ (i : ℕ). tokens_from 0 i line (drop n z)) (omega arith)

-- Two lists in front are one.
pub with_front-append : (front more : List Token) (found : Result (List Token) LexFault) →
    with_front front (with_front more found) ≡ with_front (front ++ more) found
with_front-append front more (Ok tokens) = ap (λ (all : List Token). Ok all) (sym (append_assoc front more tokens))
with_front-append front more (Err fault) = refl

-- Tokens up to a place are in order up to each later one.
pub in_order-to : (from at to : ℕ) (tokens : List Token) → AreInOrder from tokens at → at ≤ to → AreInOrder from tokens to
in_order-to from at to [] order le = omega arith
in_order-to from at to (token ∷ tokens) order le = (order.0, order.1, in_order-to token.end at to tokens order.2 le)

-- One more token stands behind those up to its start.
pub in_order-push : (from : ℕ) (tokens : List Token) (token : Token) → AreInOrder from tokens token.start → token.start < token.end
    → AreInOrder from (tokens ++ token ∷ []) token.end
in_order-push from [] token order some = (order, some, omega arith)
in_order-push from (first ∷ tokens) token order some = (order.0, order.1, in_order-push first.end tokens token order.2 some)

-- a byte where a token has to begin
pub record BeginsToken (b : ℕ) : Type 0 where
  pub not_newline : b ≢ 10
  pub not_blank : is_blank b ≡ false
  pub not_comment : b ≢ 35

-- what was found is a token, where it has this place, end and line
token_is : (at line : ℕ) (found : Token) → found.start ≡ at → found.line ≡ line → at < found.end →
    token_of at line (found.kind, found.end - at) ≡ found
token_is at line found start on some =
    let end : at + (found.end - at) ≡ found.end = omega arith in
    ap (λ (i : ℕ). record { kind = found.kind; start = at; end = i; line = line }) end
    ∙ ap (λ (i : ℕ). record { kind = found.kind; start = i; end = found.end; line = line }) (sym start)
    ∙ ap (λ (i : ℕ). record { kind = found.kind; start = found.start; end = found.end; line = i }) (sym on)

-- a text from a place in it
module _ (text : List ℕ) (at line : ℕ) (inside : at < length text) where
  cell : drop at text ≡ get_or text at 0 ∷ drop (at + 1) text
  cell = rw (add-one) (drop-cons text at 0 inside)

  behind : (n : ℕ) → tokens_from n (at + 1) line (drop (at + 1) text) ≡ tokens_from 0 (at + 1 + n) line (drop (at + 1 + n) text)
  behind n =
      tokens-skip n (at + 1) line (drop (at + 1) text)
      ∙ ap (tokens_from 0 (at + 1 + n) line) (drop-drop n (at + 1) text ∙ ap (λ (i : ℕ). drop i text) (omega arith))

  -- the end of a line
  pub at_newline : get_or text at 0 ≡ 10 → tokens_from 0 at line (drop at text) ≡ tokens_from 0 (at + 1) (line + 1) (drop (at + 1) text)
  unfolding tokens_from
  at_newline h = rw (cell, h) refl

  -- a blank
  pub at_blank : get_or text at 0 ≢ 10 → is_blank (get_or text at 0) ≡ true →
      tokens_from 0 at line (drop at text) ≡ tokens_from 0 (at + 1) line (drop (at + 1) text)
  unfolding tokens_from
  at_blank newline h = rw (cell, ne_eqb _ _ newline, h) refl

  -- a comment with so many bytes behind its mark
  pub at_comment : (n : ℕ) → get_or text at 0 ≢ 10 → is_blank (get_or text at 0) ≡ false → get_or text at 0 ≡ 35
      → n ≡ prefix_len is_in_comment (drop (at + 1) text)
      → tokens_from 0 at line (drop at text) ≡ tokens_from 0 (at + 1 + n) line (drop (at + 1 + n) text)
  unfolding tokens_from
  at_comment n newline blank h e =
      let one : tokens_from 0 at line (drop at text) ≡ tokens_from n (at + 1) line (drop (at + 1) text) = rw (cell, ne_eqb _ _ newline, blank, h, e) refl in
      one ∙ behind n

  -- what stands where a token has to begin
  at_token : BeginsToken (get_or text at 0) →
      tokens_from 0 at line (drop at text) ≡ token_then at line (token (drop at text)) (λ skip. tokens_from skip (at + 1) line (drop (at + 1) text))
  unfolding tokens_from
  at_token begins = rw (cell, ne_eqb _ _ begins.not_newline, begins.not_blank, ne_eqb _ _ begins.not_comment) refl

  -- the first fault
  pub at_fault : (fault : LexFault) (front : List Token) → BeginsToken (get_or text at 0) → token (drop at text) ≡ Err fault.kind → fault.line ≡ line
      → with_front front (tokens_from 0 at line (drop at text)) ≡ Err fault
  at_fault fault front begins h on = rw (at_token begins, h, ← on) refl

  -- one more token
  pub next_token : (found : Token) (tokens : List Token) → BeginsToken (get_or text at 0) → token (drop at text) ≡ Ok (found.kind, found.end - at)
      → found.start ≡ at → found.line ≡ line → at < found.end
      → with_front (tokens ++ found ∷ []) (tokens_from 0 found.end line (drop found.end text)) ≡ with_front tokens (tokens_from 0 at line (drop at text))
  next_token found tokens begins h start on some =
      let place : at + 1 + (found.end - at - 1) ≡ found.end = omega arith in
      let rest : tokens_from (found.end - at - 1) (at + 1) line (drop (at + 1) text) ≡ tokens_from 0 found.end line (drop found.end text) =
      behind (found.end - at - 1) ∙ ap (λ (i : ℕ). tokens_from 0 i line (drop i text)) place in
      rw (at_token begins, h, rest, token_is at line found start on some)
      (sym (with_front-append tokens (found ∷ []) (tokens_from 0 found.end line (drop found.end text))))

-- the end of a text
pub ended : (text : List ℕ) (at line : ℕ) (front : List Token) → length text ≤ at → with_front front (tokens_from 0 at line (drop at text)) ≡ Ok front
unfolding tokens_from
ended text at line front h =
    let e : drop at text ≡ [] = drop_of_length-le text h in
    rw e (ap (λ (x : List Token). Ok x) (append-nil front))
