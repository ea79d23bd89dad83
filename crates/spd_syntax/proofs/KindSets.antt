-- Lists of kinds of tokens as sets.
use Rattle.std.proofs.Common.{◌≡◌, Bool, true, false, cond, ◌&&◌, ◌||◌, not, List, [], ◌∷◌, ◌++◌, Some, map, refl, sym, ◌∙◌, ap, rules, eq-eqb}
use denote.Enum.Bare.{same_true}
use Rattle.spd_syntax.specs.contracts.token.Word as words
use Rattle.spd_syntax.specs.contracts.token.Mark as marks
use Rattle.spd_syntax.specs.declared.token.TokenKind.{TokenKind}
use Rattle.spd_syntax.specs.declared.token.TokenKind.TheVariants as kind
use Rattle.spd_syntax.specs.Symbols.{same_word, same_mark, same_kind, is_in}
use Rattle.spd_syntax.specs.Shape.{fst, entry_of}
use Rattle.spd_syntax.specs.OneAhead.{apart, within}
use Rattle.spd_syntax.specs.Limits.{opening, closing}

pub both : (a b : Bool) → (a && b) ≡ true → (a ≡ true) × (b ≡ true)
both true b e = (refl, e)
both false b e = absurd cc

pub not-true : (a : Bool) → not a ≡ true → a ≡ false
not-true true e = absurd cc
not-true false e = refl

pub neither : (a b : Bool) → (a || b) ≡ false → (a ≡ false) × (b ≡ false)
neither true b e = absurd cc
neither false b e = (refl, e)

pub or-right : (a b : Bool) → b ≡ true → (a || b) ≡ true
or-right true b e = refl
or-right false b e = e

pub same_kind-true : (j k : TokenKind) → same_kind j k ≡ true → j ≡ k
unfolding same_word same_mark
same_kind-true kind.Name kind.Name e = refl
same_kind-true kind.Number kind.Number e = refl
same_kind-true kind.Lit kind.Lit e = refl
same_kind-true (kind.Word a) (kind.Word b) e = ap kind.Word (same_true words.the_type (search rules) a b e)
same_kind-true (kind.Mark a) (kind.Mark b) e = ap kind.Mark (same_true marks.the_type (search rules) a b e)
same_kind-true _ _ e = absurd cc

pub same_kind-same : (k : TokenKind) → same_kind k k ≡ true
unfolding same_word same_mark
same_kind-same kind.Name = refl
same_kind-same kind.Number = refl
same_kind-same kind.Lit = refl
same_kind-same (kind.Word a) = eq-eqb _ _ refl
same_kind-same (kind.Mark a) = eq-eqb _ _ refl

pub is_in-append : (k : TokenKind) (xs ys : List TokenKind) → is_in k (xs ++ ys) ≡ (is_in k xs || is_in k ys)
is_in-append k [] ys = refl
is_in-append k (x ∷ xs) ys = by_test (same_kind x k) (is_in-append k xs ys)
  where
    by_test : (b : Bool) → is_in k (xs ++ ys) ≡ (is_in k xs || is_in k ys) → (b || is_in k (xs ++ ys)) ≡ ((b || is_in k xs) || is_in k ys)
    by_test true h = refl
    by_test false h = h

-- in neither part
pub not_in_parts : (k : TokenKind) (xs ys : List TokenKind) → is_in k (xs ++ ys) ≡ false → (is_in k xs ≡ false) × (is_in k ys ≡ false)
not_in_parts k xs ys e = neither (is_in k xs) (is_in k ys) (sym (is_in-append k xs ys) ∙ e)

pub in_left : (k : TokenKind) (xs ys : List TokenKind) → is_in k xs ≡ true → is_in k (xs ++ ys) ≡ true
in_left k xs ys e = rw (is_in-append k xs ys, e) refl

pub in_right : (k : TokenKind) (xs ys : List TokenKind) → is_in k ys ≡ true → is_in k (xs ++ ys) ≡ true
in_right k xs ys e = is_in-append k xs ys ∙ or-right (is_in k xs) (is_in k ys) e

pub apart_from : (k : TokenKind) (xs ys : List TokenKind) → apart xs ys ≡ true → is_in k ys ≡ true → is_in k xs ≡ false
apart_from k [] ys e there = refl
apart_from k (x ∷ xs) ys e there =
    let p = both (not (is_in x ys)) (apart xs ys) e in
    by_test (same_kind x k) refl (apart_from k xs ys p.1 there) (not-true (is_in x ys) p.0)
  where
    by_test : (b : Bool) → same_kind x k ≡ b → is_in k xs ≡ false → is_in x ys ≡ false → (b || is_in k xs) ≡ false
    by_test true same h away = let y : is_in x ys ≡ true = rw (same_kind-true x k same) there in absurd cc
    by_test false same h away = h

pub within_in : (k : TokenKind) (xs ys : List TokenKind) → within xs ys ≡ true → is_in k xs ≡ true → is_in k ys ≡ true
within_in k [] ys e there = absurd cc
within_in k (x ∷ xs) ys e there =
    let p = both (is_in x ys) (within xs ys) e in
    by_test (same_kind x k) refl there p.0 (λ h. within_in k xs ys p.1 h)
  where
    by_test : (b : Bool) → same_kind x k ≡ b → (b || is_in k xs) ≡ true → is_in x ys ≡ true → (is_in k xs ≡ true → is_in k ys ≡ true) → is_in k ys ≡ true
    by_test true same there at go = rw (← same_kind-true x k same) at
    by_test false same there at go = go there

-- what a table has a row for
pub in_table : {A : Type 0} (k : TokenKind) (table : List (TokenKind × A)) (a : A) → entry_of k table ≡ Some a → is_in k (map fst table) ≡ true
in_table k [] a e = absurd cc
in_table k (row ∷ rows) a e = by_test (same_kind row.0 k) (λ h. in_table k rows a h) e
  where
    by_test : (b : Bool) → (entry_of k rows ≡ Some a → is_in k (map fst rows) ≡ true) → cond b (Some row.1) (entry_of k rows) ≡ Some a
        → (b || is_in k (map fst rows)) ≡ true
    by_test true go e = refl
    by_test false go e = go e

pub apart_to : (k : TokenKind) (xs ys : List TokenKind) → apart xs ys ≡ true → is_in k xs ≡ true → is_in k ys ≡ false
apart_to k xs ys e there = by_test (is_in k ys) refl
  where
    by_test : (b : Bool) → is_in k ys ≡ b → b ≡ false
    by_test false h = refl
    by_test true h = let away : is_in k xs ≡ false = apart_from k xs ys e h in absurd cc

pub opening_closing : apart opening closing ≡ true
unfolding same_mark
opening_closing = refl
