-- What symbols spell on any lines, and what spelled values are made of: a lemma of each kind for each form of shape.
use Rattle.std.proofs.Common.{◌≡◌, ℕ, Bool, true, false, List, [], ◌∷◌, ◌++◌, map, Some, cond, refl, sym, ◌∙◌, ap, subst, inl, inr, append_assoc}
use Rattle.std.proofs.lemmas.List.{append-nil}
use Rattle.spd_syntax.specs.declared.token.Mark.{Mark}
use Rattle.spd_syntax.specs.declared.token.TokenKind.{TokenKind}
use Rattle.spd_syntax.specs.Tokens.{Symbol, mark, Seen}
use Rattle.spd_syntax.specs.Symbols.{kind_of, bytes_of, same_kind, IsLawfulSymbol}
use Rattle.spd_syntax.specs.Shape.{fst, Shape, token, give, seq, either, folds, nest, Nonterminal, NonterminalValue, entry_of, AreMany, EachPart, texts, folded, Spelling, Spells}
use Rattle.spd_syntax.specs.Shapes.{◌◃◌, ◌⊲◌, ◌▹◌}
use Rattle.spd_canonical.specs.Canonical.{between_marks}

-- tokens without their lines
abbrev pub symbols : List Seen → List Symbol
symbols ts = map fst ts

-- ---- tokens cut by their symbols

pub record Cut (ts : List Seen) (a b : List Symbol) : Type 0 where
  pub front : List Seen
  pub back : List Seen
  pub whole : ts ≡ front ++ back
  pub first : symbols front ≡ a
  pub second : symbols back ≡ b

pub cut : (ts : List Seen) (a b : List Symbol) → symbols ts ≡ a ++ b → Cut ts a b
cut ts [] b e = record { front = []; back = ts; whole = refl; first = refl; second = e }
cut [] (s ∷ a) b e = absurd cc
cut (t ∷ ts) (s ∷ a) b e =
    let tail : symbols ts ≡ a ++ b = cc in
    let head : t.0 ≡ s = cc in
    let c = cut ts a b tail in
    record { front = t ∷ c.front; back = c.back; whole = ap (λ (us : List Seen). t ∷ us) c.whole; first = rw (head, c.first) refl; second = c.second }

pub no_tokens : (ts : List Seen) → symbols ts ≡ [] → ts ≡ []
no_tokens [] e = refl
no_tokens (t ∷ ts) e = absurd cc

-- one token
pub record One (ts : List Seen) (s : Symbol) : Type 0 where
  pub line : ℕ
  pub whole : ts ≡ (s, line) ∷ []

pub one : (ts : List Seen) (s : Symbol) → symbols ts ≡ s ∷ [] → One ts s
one [] s e = absurd cc
one (t ∷ u ∷ ts) s e = absurd cc
one (t ∷ []) s e = let head : t.0 ≡ s = cc in record { line = t.1; whole = ap (λ (x : Symbol). (x, t.1) ∷ []) head }

pub symbols_both : (us vs : List Seen) → symbols (us ++ vs) ≡ symbols us ++ symbols vs
symbols_both [] vs = refl
symbols_both (t ∷ us) vs = ap (λ (ss : List Symbol). t.0 ∷ ss) (symbols_both us vs)

-- ---- saying

pub record Said {A : Type 0} (S : A → List Seen → Type 0) (P : A → Type 0) (ts : List Seen) : Type 0 where
  pub value : A
  pub fits : P value
  pub is : S value ts

-- The symbols spell such a value, whatever lines they stand on.
abbrev pub SaysBy : {A : Type 0} → (A → List Seen → Type 0) → (A → Type 0) → List Symbol → Type 0
SaysBy S P ss = (ts : List Seen) → symbols ts ≡ ss → Said S P ts

-- by parts of the tokens
pub says_cut : {A : Type 0} (S : A → List Seen → Type 0) (P : A → Type 0) (a b : List Symbol)
    → ((us vs : List Seen) → symbols us ≡ a → symbols vs ≡ b → Said S P (us ++ vs)) → SaysBy S P (a ++ b)
says_cut S P a b h ts e = let c = cut ts a b e in subst (λ (us : List Seen). Said S P us) (sym c.whole) (h c.front c.back c.first c.second)

module _ (inner : Spelling) where
  abbrev pub SpellsSo : {A : Type 0} → Shape A → A → List Seen → Type 0
  SpellsSo p a ts = Spells IsLawfulSymbol inner p a ts

  abbrev pub Says : {A : Type 0} → Shape A → (A → Type 0) → List Symbol → Type 0
  Says p P ss = SaysBy (SpellsSo p) P ss

  pub says_give : {A : Type 0} (a : A) (P : A → Type 0) → P a → Says (give a) P []
  says_give a P h ts e = record { value = a; fits = h; is = (refl, no_tokens ts e) }

  pub says_token : {A : Type 0} (table : List (TokenKind × (List ℕ → ℕ → A))) (P : A → Type 0) (s : Symbol) (make : List ℕ → ℕ → A)
      → entry_of (kind_of s) table ≡ Some make → IsLawfulSymbol s → ((l : ℕ) → P (make (bytes_of s) l)) → Says (token table) P (s ∷ [])
  says_token table P s make row lawful h ts e =
      let c = one ts s e in
      record {
        value = make (bytes_of s) c.line;
        fits = h c.line;
        is = record
            { token = (s, c.line); make = make; row = row; fits = lawful; value = refl; text = c.whole };
      }

  pub says_both : {A B : Type 0} (p : Shape (B → A)) (q : Shape B) (P : A → Type 0) (Q : B → Type 0) (a b : List Symbol)
      → Says p (λ f. (x : B) → Q x → P (f x)) a → Says q Q b → Says (seq p q) P (a ++ b)
  says_both p q P Q a b h g ts e =
      let c = cut ts a b e in
      let f = h c.front c.first in
      let x = g c.back c.second in
      record {
        value = f.value x.value;
        fits = f.fits x.value x.fits;
        is =
            record { make = f.value; part = x.value; front = c.front; back = c.back; first = f.is; second = x.is; value = refl; text = c.whole };
      }

  -- by a shape of which the second spells all that the first does
  pub says_as : {A : Type 0} (p q : Shape A) (P : A → Type 0) (a : List Symbol) → ((x : A) (us : List Seen) → SpellsSo p x us → SpellsSo q x us)
      → Says p P a → Says q P a
  says_as p q P a into h ts e = let x = h ts e in record { value = x.value; fits = x.fits; is = into x.value ts x.is }

  -- of such a value that is also such
  pub says_so : {A : Type 0} (p : Shape A) (P Q : A → Type 0) (a : List Symbol) → ((x : A) → P x → Q x) → Says p P a → Says p Q a
  says_so p P Q a into h ts e = let x = h ts e in record { value = x.value; fits = into x.value x.fits; is = x.is }

  pub says_first : {A : Type 0} (ks : List TokenKind) (p q : Shape A) (P : A → Type 0) (a : List Symbol) → Says p P a → Says (either ks p q) P a
  says_first ks p q P a h ts e = let x = h ts e in record { value = x.value; fits = x.fits; is = inl x.is }

  pub says_second : {A : Type 0} (ks : List TokenKind) (p q : Shape A) (P : A → Type 0) (a : List Symbol) → Says q P a → Says (either ks p q) P a
  says_second ks p q P a h ts e = let x = h ts e in record { value = x.value; fits = x.fits; is = inr x.is }

  pub append_nothing : (us : List Seen) → us ≡ us ++ []
  append_nothing us = sym (append-nil us)

  pub says_base : {A B : Type 0} (ks : List TokenKind) (f : A → B → A) (p : Shape A) (q : Shape B) (P : A → Type 0) (a : List Symbol) → Says p P a
      → Says (folds ks f p q) P a
  says_base ks f p q P a h ts e =
      let x = h ts e in
      record {
        value = x.value;
        fits = x.fits;
        is = record {
          base = x.value;
          front = ts;
          parts = [];
          first = x.is;
          each = tt;
          value = refl;
          text =
              append_nothing ts;
        };
      }

  -- ---- one part more

  each_more : {B : Type 0} (Q : B → List Seen → Type 0) (bs : List (B × List Seen)) (b : B) (us : List Seen) → EachPart Q bs → Q b us
      → EachPart Q (bs ++ (b, us) ∷ [])
  each_more Q [] b us h g = (g, tt)
  each_more Q (x ∷ bs) b us h g = (h.0, each_more Q bs b us h.1 g)

  folded_more : {A B : Type 0} (f : A → B → A) (a : A) (bs : List (B × List Seen)) (b : B) (us : List Seen)
      → f (folded f a bs) b ≡ folded f a (bs ++ (b, us) ∷ [])
  folded_more f a [] b us = refl
  folded_more f a (x ∷ bs) b us = folded_more f (f a x.0) bs b us

  texts_more : {B : Type 0} (bs : List (B × List Seen)) (b : B) (us : List Seen) → texts bs ++ us ≡ texts (bs ++ (b, us) ∷ [])
  texts_more [] b us = append_nothing us
  texts_more (x ∷ bs) b us = append_assoc x.1 (texts bs) us ∙ ap (λ (vs : List Seen). x.1 ++ vs) (texts_more bs b us)

  pub more : {A B : Type 0} (f : A → B → A) (P : A → List Seen → Type 0) (Q : B → List Seen → Type 0) (a : A) (b : B) (us vs : List Seen)
      → AreMany f P Q a us → Q b vs → AreMany f P Q (f a b) (us ++ vs)
  more {A} f P Q a b us vs x y =
      record {
        base = x.base;
        front = x.front;
        parts = x.parts ++ (b, vs) ∷ [];
        first = x.first;
        each = each_more Q x.parts b vs x.each y;
        value = ap (λ (z : A). f z b) x.value ∙ folded_more f x.base x.parts b vs;
        text = ap (λ (zs : List Seen). zs ++ vs) x.text ∙ append_assoc x.front (texts x.parts) vs
            ∙ ap (λ (zs : List Seen). x.front ++ zs) (texts_more x.parts b vs);
      }

  pub says_more : {A B : Type 0} (ks : List TokenKind) (f : A → B → A) (p : Shape A) (q : Shape B) (P R : A → Type 0) (Q : B → Type 0) (a b : List Symbol)
      → Says (folds ks f p q) P a → Says q Q b → ((x : A) (y : B) → P x → Q y → R (f x y)) → Says (folds ks f p q) R (a ++ b)
  says_more ks f p q P R Q a b h g add =
      says_cut (SpellsSo (folds ks f p q)) R a b (λ us vs k l.
      let x = h us k in
      let y = g vs l in
      record { value = f x.value y.value; fits = add x.value y.value x.fits y.fits; is = more f (SpellsSo p) (SpellsSo q) x.value y.value us vs x.is y.is })

  bracketed : (ts f b mid e : List Seen) (o c : Seen) → ts ≡ f ++ b → f ≡ o ∷ [] → b ≡ mid ++ e → e ≡ c ∷ [] → ts ≡ o ∷ (mid ++ c ∷ [])
  bracketed ts f b mid e o c h g k l = h ∙ rw (g, k, l) refl

  pub says_nest : {A : Type 0} (rule : Nonterminal) (o c : Mark) (f : ℕ → NonterminalValue rule → ℕ → A) (P : A → Type 0)
      (Q : NonterminalValue rule → Type 0) (a : List Symbol) → SaysBy (inner rule) Q a → ((l : ℕ) (x : NonterminalValue rule) (l' : ℕ) → Q x → P (f l x l'))
      → Says (nest rule o c f) P (between_marks o c a)
  says_nest rule o c f P Q a h make ts e =
      let k = cut ts (mark o ∷ []) (a ++ mark c ∷ []) e in
      let n = cut k.back a (mark c ∷ []) k.second in
      let l = one k.front (mark o) k.first in
      let l' = one n.back (mark c) n.second in
      let x = h n.front n.first in
      record {
        value = f l.line x.value l'.line;
        fits = make l.line x.value l'.line x.fits;
        is = record {
          line = l.line;
          part = x.value;
          middle = n.front;
          end_line = l'.line;
          is = x.is;
          value = refl;
          text =
              bracketed ts k.front k.back n.front n.back (mark o, l.line) (mark c, l'.line) k.whole l.whole n.whole l'.whole;
        };
      }

  -- ---- what values are made of, with the symbols that spelled them

  pub record All {A : Type 0} (p : Shape A) (P : A → List Symbol → Type 0) : Type 0 where
    pub of : (a : A) (ts : List Seen) → SpellsSo p a ts → P a (symbols ts)

  abbrev pub Rows : {A : Type 0} → (A → List Symbol → Type 0) → List (TokenKind × (List ℕ → ℕ → A)) → Type 0
  Rows P [] = Unit {0}
  Rows P (row ∷ rows) = ((s : Symbol) (line : ℕ) → same_kind row.0 (kind_of s) ≡ true → IsLawfulSymbol s → P (row.1 (bytes_of s) line) (s ∷ [])) × Rows P rows

  pub all_give : {A : Type 0} (b : A) (P : A → List Symbol → Type 0) → P b [] → All (give b) P
  all_give b P h = record { of = λ a ts s. rw (s.0, s.1) h }

  pub all_both : {A B : Type 0} (p : Shape (B → A)) (q : Shape B) (P : A → List Symbol → Type 0) (Q : B → List Symbol → Type 0)
      → All p (λ f us. (x : B) (vs : List Symbol) → Q x vs → P (f x) (us ++ vs)) → All q Q → All (seq p q) P
  all_both p q P Q h g = record {
    of = λ a ts s. rw (s.value, s.text, symbols_both s.front s.back)
        (h.of s.make s.front s.first s.part (symbols s.back) (g.of s.part s.back s.second));
  }

  either_of : {A : Type 0} (ks : List TokenKind) (p q : Shape A) (P : A → List Symbol → Type 0) → All p P → All q P → (a : A) (ts : List Seen)
      → SpellsSo (either ks p q) a ts → P a (symbols ts)
  either_of ks p q P h g a ts (inl s) = h.of a ts s
  either_of ks p q P h g a ts (inr s) = g.of a ts s

  pub all_either : {A : Type 0} (ks : List TokenKind) (p q : Shape A) (P : A → List Symbol → Type 0) → All p P → All q P → All (either ks p q) P
  all_either ks p q P h g = record { of = either_of ks p q P h g }

  all_parts : {A B : Type 0} (f : A → B → A) (Q : B → List Seen → Type 0) (P : A → List Symbol → Type 0) (R : B → List Symbol → Type 0)
      → ((b : B) (us : List Seen) → Q b us → R b (symbols us)) → ((x : A) (us : List Symbol) (y : B) (vs : List Symbol) → P x us → R y vs
      → P (f x y) (us ++ vs)) → (a : A) (us : List Seen) (bs : List (B × List Seen)) → P a (symbols us) → EachPart Q bs
      → P (folded f a bs) (symbols (us ++ texts bs))
  all_parts f Q P R h add a us [] k each = rw (append-nil us) k
  all_parts f Q P R h add a us (b ∷ bs) k each =
      let next = add a (symbols us) b.0 (symbols b.1) k (h b.0 b.1 each.0) in
      let so_far : P (f a b.0) (symbols (us ++ b.1)) = rw (symbols_both us b.1) next in
      rw (← append_assoc us b.1 (texts bs)) (all_parts f Q P R h add (f a b.0) (us ++ b.1) bs so_far each.1)

  pub all_folds : {A B : Type 0} (ks : List TokenKind) (f : A → B → A) (p : Shape A) (q : Shape B) (P : A → List Symbol → Type 0)
      (R : B → List Symbol → Type 0) → All p P → All q R → ((x : A) (us : List Symbol) (y : B) (vs : List Symbol) → P x us → R y vs → P (f x y) (us ++ vs))
      → All (folds ks f p q) P
  all_folds ks f p q P R h g add = record {
    of = λ a ts s. rw (s.value, s.text)
        (all_parts f (SpellsSo q) P R g.of add s.base s.front s.parts (h.of s.base s.front s.first) s.each);
  }

  pub all_nest : {A : Type 0} (rule : Nonterminal) (o c : Mark) (f : ℕ → NonterminalValue rule → ℕ → A) (P : A → List Symbol → Type 0)
      (Q : NonterminalValue rule → List Symbol → Type 0) → ((x : NonterminalValue rule) (us : List Seen) → inner rule x us → Q x (symbols us))
      → ((l : ℕ) (x : NonterminalValue rule) (l' : ℕ) (us : List Symbol) → Q x us → P (f l x l') (between_marks o c us)) → All (nest rule o c f) P
  all_nest rule o c f P Q h make = record {
    of = λ a ts s. rw (s.value, s.text, symbols_both s.middle ((mark c, s.end_line) ∷ []))
        (make s.line s.part s.end_line (symbols s.middle) (h s.part s.middle s.is));
  }

  all_rows : {A : Type 0} (table : List (TokenKind × (List ℕ → ℕ → A))) (P : A → List Symbol → Type 0) (s : Symbol) (make : List ℕ → ℕ → A) → Rows P table
      → entry_of (kind_of s) table ≡ Some make → IsLawfulSymbol s → (line : ℕ) → P (make (bytes_of s) line) (s ∷ [])
  all_rows [] P s make h e lawful line = absurd cc
  all_rows {A} (row ∷ rows) P s make h e lawful line = by_test (same_kind row.0 (kind_of s)) refl e (λ g. all_rows rows P s make h.1 g lawful line)
    where
      by_test : (b : Bool) → same_kind row.0 (kind_of s) ≡ b → cond b (Some row.1) (entry_of (kind_of s) rows) ≡ Some make
          → (entry_of (kind_of s) rows ≡ Some make → P (make (bytes_of s) line) (s ∷ [])) → P (make (bytes_of s) line) (s ∷ [])
      by_test true k e go = let same : row.1 ≡ make = cc in subst (λ (f : List ℕ → ℕ → A). P (f (bytes_of s) line) (s ∷ [])) same (h.0 s line k lawful)
      by_test false k e go = go e

  pub all_token : {A : Type 0} (table : List (TokenKind × (List ℕ → ℕ → A))) (P : A → List Symbol → Type 0) → Rows P table → All (token table) P
  all_token table P h = record { of = λ a ts s. rw (s.value, s.text) (all_rows table P s.token.0 s.make h s.row s.fits s.token.1) }

  -- ---- forms that all grammars use

  pub says_map : {A B : Type 0} (f : B → A) (p : Shape B) (P : A → Type 0) (Q : B → Type 0) (ss : List Symbol) → ((x : B) → Q x → P (f x)) → Says p Q ss
      → Says (f ◃ p) P ss
  says_map f p P Q ss h g = says_both (give f) p P Q [] ss (says_give f _ h) g

  pub says_drop : {A B : Type 0} (p : Shape A) (q : Shape B) (P : A → Type 0) (a b : List Symbol) → Says p P a → Says q (λ x. Unit {0}) b
      → Says (p ⊲ q) P (a ++ b)
  says_drop p q P a b h g = says_both (seq (give (λ x y. x)) p) q P (λ x. Unit {0}) a b
      (says_both (give (λ x y. x)) p _ P [] a (says_give _ _ (λ x k y u. k)) h) g

  pub says_skip : {A B : Type 0} (p : Shape B) (q : Shape A) (P : A → Type 0) (a b : List Symbol) → Says p (λ x. Unit {0}) a → Says q P b
      → Says (p ▹ q) P (a ++ b)
  says_skip p q P a b h g = says_both (seq (give (λ y x. x)) p) q P P a b
      (says_both (give (λ y x. x)) p _ (λ x. Unit {0}) [] a (says_give _ _ (λ y u x k. k)) h) g

  pub all_map : {A B : Type 0} (f : B → A) (p : Shape B) (P : A → List Symbol → Type 0) (Q : B → List Symbol → Type 0)
      → ((x : B) (us : List Symbol) → Q x us → P (f x) us) → All p Q → All (f ◃ p) P
  all_map {A} {B} f p P Q h g = all_both (give f) p P Q (all_give f (λ (k : B → A) (us : List Symbol). (x : B) (vs : List Symbol) → Q x vs
      → P (k x) (us ++ vs)) h) g

  pub all_drop : {A B : Type 0} (p : Shape A) (q : Shape B) (P : A → List Symbol → Type 0) (Q : B → List Symbol → Type 0)
      → All p (λ x us. (y : B) (vs : List Symbol) → Q y vs → P x (us ++ vs)) → All q Q → All (p ⊲ q) P
  all_drop {A} {B} p q P Q h g =
      let First : A → List Symbol → Type 0 = λ x us. (y : B) (vs : List Symbol) → Q y vs → P x (us ++ vs) in
      let Both : (B → A) → List Symbol → Type 0 = λ k us. (y : B) (vs : List Symbol) → Q y vs → P (k y) (us ++ vs) in
      all_both (seq (give (λ x y. x)) p) q P Q (all_both (give (λ x y. x)) p Both First
      (all_give (λ x y. x) (λ (k : A → B → A) (us : List Symbol). (x : A) (vs : List Symbol) → First x vs → Both (k x) (us ++ vs)) (λ x us k. k)) h) g

  pub all_skip : {A B : Type 0} (p : Shape B) (q : Shape A) (P : A → List Symbol → Type 0) (Q : B → List Symbol → Type 0) (R : A → List Symbol → Type 0)
      → ((y : B) (us : List Symbol) (x : A) (vs : List Symbol) → Q y us → R x vs → P x (us ++ vs)) → All p Q → All q R → All (p ▹ q) P
  all_skip {A} {B} p q P Q R join h g =
      let Both : (A → A) → List Symbol → Type 0 = λ k us. (x : A) (vs : List Symbol) → R x vs → P (k x) (us ++ vs) in
      all_both (seq (give (λ y x. x)) p) q P R (all_both (give (λ y x. x)) p Both Q
      (all_give (λ y x. x) (λ (k : B → A → A) (us : List Symbol). (y : B) (vs : List Symbol) → Q y vs → Both (k y) (us ++ vs))
      (λ y us k x vs l. join y us x vs k l)) h) g
