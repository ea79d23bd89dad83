-- Brackets of a spelling, and the limit that its tokens keep.
use Rattle.std.proofs.Common.{◌≡◌, ℕ, zero, suc, ◌+◌, ◌<◌, ◌≤◌, nat_le, Bool, true, false, cond, ◌&&◌, List, [], ◌∷◌, ◌++◌, map, Some, None, refl, sym, ◌∙◌, ap, subst, inl, inr, arith}
use Rattle.std.proofs.lemmas.Bool.{leb-false}
use Rattle.spd_syntax.specs.declared.token.Mark.{Mark}
use Rattle.spd_syntax.specs.declared.token.TokenKind.TheVariants as kind
use Rattle.spd_syntax.specs.declared.fault.ParseKind.TheVariants.{TooDeep}
use Rattle.spd_syntax.specs.Tokens.{Symbol, mark, Seen}
use Rattle.spd_syntax.specs.Symbols.{kind_of, is_great, is_in}
use Rattle.spd_syntax.specs.Shape.{fst, Shape, token, give, seq, either, folds, nest, Nonterminal, NonterminalValue, EachPart, texts, Spelling, Spells}
use Rattle.spd_syntax.specs.OneAhead.{one_ahead, some, apart}
use Rattle.spd_syntax.specs.Limits.{opening, closing, open_with, open_behind, broken, Keeps}
use Rattle.spd_syntax.specs.Faults.{nested}
use Rattle.spd_syntax.specs.Grammar.{grammar}
use Rattle.spd_syntax.proofs.KindSets.{both, in_table, apart_to, opening_closing}
use Rattle.spd_syntax.proofs.Scan.{Level, level_both, level_plain, level_open, level_close}
use Rattle.spd_syntax.proofs.OneToken.{grammar_ahead}

closing_not_open : (c : Mark) → is_in (kind.Mark c) closing ≡ true → is_in (kind.Mark c) opening ≡ false
closing_not_open c h = by_test (is_in (kind.Mark c) opening) refl
  where
    by_test : (b : Bool) → is_in (kind.Mark c) opening ≡ b → b ≡ false
    by_test false e = refl
    by_test true e = let no = apart_to (kind.Mark c) opening closing opening_closing e in absurd cc

-- no number that fits is too great
abbrev pub AreSmall : (Symbol → Type 0) → Type 0
AreSmall Fits = (s : Symbol) → Fits s → is_great s ≡ false

module _ (Fits : Symbol → Type 0) (small : AreSmall Fits) (limit n : ℕ) (inner : Spelling)
    (inside : (rule : Nonterminal) (a : NonterminalValue rule) (us : List Seen) → inner rule a us → (n < limit) × Level limit (suc n) us (suc n)) where
  each_level : {B : Type 0} (Q : B → List Seen → Type 0) → ((b : B) (us : List Seen) → Q b us → Level limit n us n) → (bs : List (B × List Seen))
      → EachPart Q bs → Level limit n (texts bs) n
  each_level Q h [] k = (tt, refl)
  each_level Q h (b ∷ bs) k = level_both limit n n n b.1 (texts bs) (h b.0 b.1 k.0) (each_level Q h bs k.1)

  pub level : {A : Type 0} (p : Shape A) → one_ahead p ≡ true → (a : A) (us : List Seen) → Spells Fits inner p a us → Level limit n us n
  level (token table) fits a us s =
      let h = both (some table) _ fits in
      let k = both (apart (map fst table) opening) _ h.1 in
      let there = in_table (kind_of s.token.0) table s.make s.row in
      subst (λ (vs : List Seen). Level limit n vs n) (sym s.text) (level_plain limit n s.token (small s.token.0 s.fits)
      (apart_to (kind_of s.token.0) (map fst table) opening k.0 there) (apart_to (kind_of s.token.0) (map fst table) closing k.1 there))
  level (give b) fits a us s = subst (λ (vs : List Seen). Level limit n vs n) (sym s.1) (tt, refl)
  level (seq p q) fits a us s =
      let h = both (one_ahead p) _ fits in
      let k = both (one_ahead q) _ h.1 in
      subst (λ (vs : List Seen). Level limit n vs n) (sym s.text) (level_both limit n n n s.front s.back (level p h.0 s.make s.front s.first)
      (level q k.0 s.part s.back s.second))
  level (either ks p q) fits a us (inl s) = level p (both (one_ahead p) _ fits).0 a us s
  level (either ks p q) fits a us (inr s) = level q (both (one_ahead q) _ (both (one_ahead p) _ fits).1).0 a us s
  level (folds ks f p q) fits a us s =
      let h = both (one_ahead p) _ fits in
      let k = both (one_ahead q) _ h.1 in
      subst (λ (vs : List Seen). Level limit n vs n) (sym s.text) (level_both limit n n n s.front (texts s.parts) (level p h.0 s.base s.front s.first)
      (each_level (Spells Fits inner q) (λ b vs g. level q k.0 b vs g) s.parts s.each))
  level (nest rule o c f) fits a us s =
      let h = both (is_in (kind.Mark o) opening) _ fits in
      let k = inside rule s.part s.middle s.is in
      subst (λ (vs : List Seen). Level limit n vs n) (sym s.text)
      (level_both limit n (suc n) n ((mark o, s.line) ∷ []) (s.middle ++ (mark c, s.end_line) ∷ []) (level_open limit n o s.line k.0 h.0)
      (level_both limit (suc n) (suc n) n s.middle ((mark c, s.end_line) ∷ []) k.1 (level_close limit n c s.end_line (closing_not_open c h.1) h.1)))

-- Tokens that are spelled with so few brackets open at once keep the limit.
inside_keeps : (Fits : Symbol → Type 0) → AreSmall Fits → (limit m n : ℕ) → n + m ≤ limit
    → (rule : Nonterminal) (a : NonterminalValue rule) (us : List Seen) → nested Fits m rule a us → (n < limit) × Level limit (suc n) us (suc n)
inside_keeps Fits small limit zero n le rule a us s = absurd s
inside_keeps Fits small limit (suc m) n le rule a us s = (
  omega (arith, le),
  level Fits small limit (suc n) (nested Fits m)
      (λ r y vs k. inside_keeps Fits small limit m (suc n) (omega (arith, le)) r y vs k) (grammar rule) (grammar_ahead rule) a us s,
)

pub keeps : (Fits : Symbol → Type 0) → AreSmall Fits → {A : Type 0} (p : Shape A) → one_ahead p ≡ true → (limit m : ℕ) → m ≤ limit
    → (a : A) (us : List Seen) → Spells Fits (nested Fits m) p a us → Keeps limit 0 us
keeps Fits small p fits limit m le a us s = (level Fits small limit 0 (nested Fits m)
    (λ r y vs k. inside_keeps Fits small limit m 0 (omega (arith, le)) r y vs k) p fits a us s).0

-- ---- and back: tokens that keep the limit are spelled with no more brackets open than it

-- what stands behind an opening bracket is spelled with one fewer, and closes what it opens
abbrev pub Fewer : Spelling → Spelling → ℕ → ℕ → Type 0
Fewer inner outer limit n = (rule : Nonterminal) (a : NonterminalValue rule) (us : List Seen) → inner rule a us → Keeps limit (suc n) us → n < limit
    → outer rule a us × (open_behind (suc n) us ≡ suc n)

keeps_both : (limit n m : ℕ) (us vs : List Seen) → Keeps limit n (us ++ vs) → open_behind n us ≡ m → Keeps limit m vs
keeps_both limit n m [] vs h e = subst (λ (k : ℕ). Keeps limit k vs) e h
keeps_both limit n m (t ∷ us) vs h e = keeps_both limit (open_with n t.0) m us vs h.1 e

keeps_front : (limit n : ℕ) (us vs : List Seen) → Keeps limit n (us ++ vs) → Keeps limit n us
keeps_front limit n [] vs h = tt
keeps_front limit n (t ∷ us) vs h = (h.0, keeps_front limit (open_with n t.0) us vs h.1)

open_both : (n m k : ℕ) (us vs : List Seen) → open_behind n us ≡ m → open_behind m vs ≡ k → open_behind n (us ++ vs) ≡ k
open_both n m k [] vs h g = rw h g
open_both n m k (t ∷ us) vs h g = open_both (open_with n t.0) m k us vs h g

not_deep : (limit n : ℕ) (o : Mark) → is_in (kind.Mark o) opening ≡ true → broken limit n (mark o) ≡ None → n < limit
not_deep limit n o opens h = leb-false limit n (by_tests (is_in (kind.Mark o) opening) (nat_le limit n) opens h)
  where
    by_tests : (b c : Bool) → b ≡ true → cond (b && c) (Some TooDeep) None ≡ None → c ≡ false
    by_tests true true e h = absurd cc
    by_tests true false e h = refl
    by_tests false c e h = absurd cc

module _ (Fits : Symbol → Type 0) (inner outer : Spelling) (limit n : ℕ) (fewer : Fewer inner outer limit n) where
  -- spelled so, and as many brackets open behind as before
  abbrev Both : {A : Type 0} → Shape A → A → List Seen → Type 0
  Both p a us = Spells Fits outer p a us × (open_behind n us ≡ n)

  each_fewer : {B : Type 0} (Q R : B → List Seen → Type 0) → ((b : B) (us : List Seen) → Q b us → Keeps limit n us → R b us × (open_behind n us ≡ n))
      → (bs : List (B × List Seen)) → EachPart Q bs → Keeps limit n (texts bs) → EachPart R bs × (open_behind n (texts bs) ≡ n)
  each_fewer Q R h [] k keep = (tt, refl)
  each_fewer Q R h (b ∷ bs) k keep =
      let x = h b.0 b.1 k.0 (keeps_front limit n b.1 (texts bs) keep) in
      let y = each_fewer Q R h bs k.1 (keeps_both limit n n b.1 (texts bs) keep x.1) in
      ((x.0, y.0), open_both n n n b.1 (texts bs) x.1 y.1)

  behind_is : (us vs : List Seen) → us ≡ vs → open_behind n vs ≡ n → open_behind n us ≡ n
  behind_is us vs e h = ap (λ (ws : List Seen). open_behind n ws) e ∙ h

  pub fewer_open : {A : Type 0} (p : Shape A) → one_ahead p ≡ true → (a : A) (us : List Seen) → Spells Fits inner p a us → Keeps limit n us → Both p a us
  fewer_open (token table) fits a us s keep =
      let h = both (some table) _ fits in
      let k = both (apart (map fst table) opening) _ h.1 in
      let there = in_table (kind_of s.token.0) table s.make s.row in (
        s,
        behind_is us (s.token ∷ []) s.text (rw (
          apart_to (kind_of s.token.0) (map fst table) opening k.0 there,
          apart_to (kind_of s.token.0)
              (map fst table) closing k.1 there,
        ) refl),
      )
  fewer_open (give b) fits a us s keep = (s, behind_is us [] s.1 refl)
  fewer_open (seq p q) fits a us s keep =
      let h = both (one_ahead p) _ fits in
      let k = both (one_ahead q) _ h.1 in
      let kept = subst (λ (vs : List Seen). Keeps limit n vs) s.text keep in
      let x = fewer_open p h.0 s.make s.front s.first (keeps_front limit n s.front s.back kept) in
      let y = fewer_open q k.0 s.part s.back s.second (keeps_both limit n n s.front s.back kept x.1) in (
        record { make = s.make; part = s.part; front = s.front; back = s.back; first = x.0; second = y.0; value = s.value; text = s.text },
        behind_is us
            (s.front ++ s.back) s.text (open_both n n n s.front s.back x.1 y.1),
      )
  fewer_open (either ks p q) fits a us (inl s) keep = let x = fewer_open p (both (one_ahead p) _ fits).0 a us s keep in (inl x.0, x.1)
  fewer_open (either ks p q) fits a us (inr s) keep = let x = fewer_open q (both (one_ahead q) _ (both (one_ahead p) _ fits).1).0 a us s keep in (inr x.0, x.1)
  fewer_open (folds ks f p q) fits a us s keep =
      let h = both (one_ahead p) _ fits in
      let k = both (one_ahead q) _ h.1 in
      let kept = subst (λ (vs : List Seen). Keeps limit n vs) s.text keep in
      let x = fewer_open p h.0 s.base s.front s.first (keeps_front limit n s.front (texts s.parts) kept) in
      let y = each_fewer (Spells Fits inner q) (Spells Fits outer q) (λ b vs g keep. fewer_open q k.0 b vs g keep) s.parts s.each
      (keeps_both limit n n s.front (texts s.parts) kept x.1) in (
        record { base = s.base; front = s.front; parts = s.parts; first = x.0; each = y.0; value = s.value; text = s.text },
        behind_is us
            (s.front ++ texts s.parts) s.text (open_both n n n s.front (texts s.parts) x.1 y.1),
      )
  fewer_open (nest rule o c f) fits a us s keep =
      let h = both (is_in (kind.Mark o) opening) _ fits in
      let kept = subst (λ (vs : List Seen). Keeps limit n vs) s.text keep in
      let deep = subst (λ (k : ℕ). Keeps limit k (s.middle ++ (mark c, s.end_line) ∷ [])) (opened o h.0) kept.1 in
      let x = fewer rule s.part s.middle s.is (keeps_front limit (suc n) s.middle ((mark c, s.end_line) ∷ []) deep)
      (not_deep limit n o h.0 (none_broken o kept.0)) in (
        record { line = s.line; part = s.part; middle = s.middle; end_line = s.end_line; is = x.0; value = s.value; text = s.text },
        behind_is us ((mark o, s.line) ∷ (s.middle ++ (mark c, s.end_line) ∷ [])) s.text
            (ap (λ (k : ℕ). open_behind k (s.middle ++ (mark c, s.end_line) ∷ [])) (opened o h.0)
            ∙ open_both (suc n) (suc n) n s.middle ((mark c, s.end_line) ∷ []) x.1 (closed c h.1 (shut c h.1))),
      )
    where
      opened : (o : Mark) → is_in (kind.Mark o) opening ≡ true → open_with n (mark o) ≡ suc n
      opened o e = rw e refl

      shut : (c : Mark) → is_in (kind.Mark c) closing ≡ true → is_in (kind.Mark c) opening ≡ false
      shut c h = closing_not_open c h

      closed : (c : Mark) → is_in (kind.Mark c) closing ≡ true → is_in (kind.Mark c) opening ≡ false → open_with (suc n) (mark c) ≡ n
      closed c e g = rw (g, e) (omega arith)

      none_broken : (o : Mark) → broken limit n (mark o) ≡ None → broken limit n (mark o) ≡ None
      none_broken o e = e

fewer_at : (Fits : Symbol → Type 0) (limit m n k : ℕ) → n + m ≡ limit → Fewer (nested Fits k) (nested Fits m) limit n
fewer_at Fits limit m n zero is rule a us s keep less = absurd s
fewer_at Fits limit zero n (suc k) is rule a us s keep less = absurd (omega (arith, is, less))
fewer_at Fits limit (suc m) n (suc k) is rule a us s keep less =
    fewer_open Fits (nested Fits k) (nested Fits m) limit (suc n) (λ r y vs g keep' less'. fewer_at Fits limit m (suc n) k (omega (arith, is)) r y vs g
    keep' less') (grammar rule) (grammar_ahead rule) a us s keep

-- Tokens that keep a limit are spelled with no more brackets open than it.
pub spelled_within : (Fits : Symbol → Type 0) → {A : Type 0} (p : Shape A) → one_ahead p ≡ true → (limit k : ℕ) (a : A) (us : List Seen)
    → Spells Fits (nested Fits k) p a us → Keeps limit 0 us → Spells Fits (nested Fits limit) p a us
spelled_within Fits p fits limit k a us s keep = (fewer_open Fits (nested Fits k) (nested Fits limit) limit 0
    (λ r y vs g keep' less. fewer_at Fits limit limit 0 k (omega arith) r y vs g keep' less) p fits a us s keep).0
