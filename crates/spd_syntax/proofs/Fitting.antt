-- Symbols that fit: those of a spelling do, and a spelling by some is one by others where each of its tokens fits them too.
use Rattle.std.proofs.Common.{◌≡◌, ℕ, zero, suc, nat_le, true, false, List, [], ◌∷◌, ◌++◌, refl, sym, subst, inl, inr}
use Rattle.std.proofs.lemmas.Bool.{le-leb}
use Rattle.spd_syntax.specs.declared.token.Mark.{Mark}
use Rattle.spd_syntax.specs.Tokens.{Symbol, name, number, lit, word, mark, Seen}
use Rattle.spd_syntax.specs.Symbols.{is_great, value_of, greatest_literal, IsLawfulSymbol, IsAnySymbol, Eachly}
use Rattle.spd_syntax.specs.Shape.{Shape, token, give, seq, either, folds, nest, Nonterminal, NonterminalValue, EachPart, texts, Spelling, Spells}
use Rattle.spd_syntax.specs.Faults.{nested, IsSpelledBy, IsSpelled}
use Rattle.spd_syntax.specs.Grammar.{grammar}

pub eachly_front : (P : Symbol → Type 0) (us vs : List Seen) → Eachly P (us ++ vs) → Eachly P us
eachly_front P [] vs h = tt
eachly_front P (t ∷ us) vs h = (h.0, eachly_front P us vs h.1)

pub eachly_back : (P : Symbol → Type 0) (us vs : List Seen) → Eachly P (us ++ vs) → Eachly P vs
eachly_back P [] vs h = h
eachly_back P (t ∷ us) vs h = eachly_back P us vs h.1

pub eachly_both : (P : Symbol → Type 0) (us vs : List Seen) → Eachly P us → Eachly P vs → Eachly P (us ++ vs)
eachly_both P [] vs h g = g
eachly_both P (t ∷ us) vs h g = (h.0, eachly_both P us vs h.1 g)

-- where all symbols are so
pub eachly_all : (P : Symbol → Type 0) → ((s : Symbol) → P s) → (ts : List Seen) → Eachly P ts
eachly_all P h [] = tt
eachly_all P h (t ∷ ts) = (h t.0, eachly_all P h ts)

-- ---- those of a spelling fit

module _ (Fits : Symbol → Type 0) (marks : (which : Mark) → Fits (mark which)) where
  each_fits : {B : Type 0} (Q : B → List Seen → Type 0) → ((b : B) (us : List Seen) → Q b us → Eachly Fits us) → (bs : List (B × List Seen)) → EachPart Q bs
      → Eachly Fits (texts bs)
  each_fits Q h [] each = tt
  each_fits Q h (b ∷ bs) each = eachly_both Fits b.1 (texts bs) (h b.0 b.1 each.0) (each_fits Q h bs each.1)

  all_fit : (inner : Spelling) → ((rule : Nonterminal) (a : NonterminalValue rule) (us : List Seen) → inner rule a us → Eachly Fits us)
      → {A : Type 0} (p : Shape A) (a : A) (ts : List Seen) → Spells Fits inner p a ts → Eachly Fits ts
  all_fit inner h (token table) a ts s = subst (λ (us : List Seen). Eachly Fits us) (sym s.text) (s.fits, tt)
  all_fit inner h (give b) a ts s = subst (λ (us : List Seen). Eachly Fits us) (sym s.1) tt
  all_fit inner h (seq p q) a ts s = subst (λ (us : List Seen). Eachly Fits us) (sym s.text)
      (eachly_both Fits s.front s.back (all_fit inner h p s.make s.front s.first) (all_fit inner h q s.part s.back s.second))
  all_fit inner h (either ks p q) a ts (inl s) = all_fit inner h p a ts s
  all_fit inner h (either ks p q) a ts (inr s) = all_fit inner h q a ts s
  all_fit inner h (folds ks f p q) a ts s = subst (λ (us : List Seen). Eachly Fits us) (sym s.text)
      (eachly_both Fits s.front (texts s.parts) (all_fit inner h p s.base s.front s.first)
      (each_fits (Spells Fits inner q) (λ b us g. all_fit inner h q b us g) s.parts s.each))
  all_fit inner h (nest rule o c f) a ts s = subst (λ (us : List Seen). Eachly Fits us) (sym s.text)
      (marks o, eachly_both Fits s.middle ((mark c, s.end_line) ∷ []) (h rule s.part s.middle s.is) (marks c, tt))

  pub nested_fit : (m : ℕ) (rule : Nonterminal) (a : NonterminalValue rule) (us : List Seen) → nested Fits m rule a us → Eachly Fits us
  nested_fit zero rule a us s = absurd s
  nested_fit (suc m) rule a us s = all_fit (nested Fits m) (λ r b vs h. nested_fit m r b vs h) (grammar rule) a us s

  pub spelled_fit : {A : Type 0} (p : Shape A) (a : A) (ts : List Seen) → IsSpelledBy Fits p a ts → Eachly Fits ts
  spelled_fit p a ts s = all_fit (nested Fits s.brackets) (λ r b vs h. nested_fit s.brackets r b vs h) p a ts s.is

-- ---- by others

module _ (Fits Others : Symbol → Type 0) where
  abbrev Goes : List Seen → Type 0
  Goes ts = Eachly (λ s. Fits s → Others s) ts

  each_refits : {B : Type 0} (Q R : B → List Seen → Type 0) → ((b : B) (us : List Seen) → Q b us → Goes us → R b us) → (bs : List (B × List Seen))
      → EachPart Q bs → Goes (texts bs) → EachPart R bs
  each_refits Q R h [] each go = tt
  each_refits Q R h (b ∷ bs) each go = (
    h b.0 b.1 each.0 (eachly_front (λ s. Fits s → Others s) b.1 (texts bs) go),
    each_refits Q R h bs each.1
        (eachly_back (λ s. Fits s → Others s) b.1 (texts bs) go),
  )

  refits : (inner outer : Spelling) → ((rule : Nonterminal) (a : NonterminalValue rule) (us : List Seen) → inner rule a us → Goes us → outer rule a us)
      → {A : Type 0} (p : Shape A) (a : A) (ts : List Seen) → Spells Fits inner p a ts → Goes ts → Spells Others outer p a ts
  refits inner outer h (token table) a ts s go =
      let one = subst (λ (us : List Seen). Goes us) s.text go in
      record { token = s.token; make = s.make; row = s.row; fits = one.0 s.fits; value = s.value; text = s.text }
  refits inner outer h (give b) a ts s go = s
  refits inner outer h (seq p q) a ts s go =
      let parts = subst (λ (us : List Seen). Goes us) s.text go in
      record {
        make = s.make;
        part = s.part;
        front = s.front;
        back = s.back;
        first =
            refits inner outer h p s.make s.front s.first (eachly_front (λ s. Fits s → Others s) s.front s.back parts);
        second =
            refits inner outer h q s.part s.back s.second (eachly_back (λ s. Fits s → Others s) s.front s.back parts);
        value = s.value;
        text = s.text;
      }
  refits inner outer h (either ks p q) a ts (inl s) go = inl (refits inner outer h p a ts s go)
  refits inner outer h (either ks p q) a ts (inr s) go = inr (refits inner outer h q a ts s go)
  refits inner outer h (folds ks f p q) a ts s go =
      let parts = subst (λ (us : List Seen). Goes us) s.text go in
      record {
        base = s.base;
        front = s.front;
        parts = s.parts;
        first =
            refits inner outer h p s.base s.front s.first (eachly_front (λ s. Fits s → Others s) s.front (texts s.parts) parts);
        each =
            each_refits (Spells Fits inner q) (Spells Others outer q) (λ b us g k. refits inner outer h q b us g k) s.parts s.each
            (eachly_back (λ s. Fits s → Others s) s.front (texts s.parts) parts);
        value = s.value;
        text = s.text;
      }
  refits inner outer h (nest rule o c f) a ts s go =
      let parts = subst (λ (us : List Seen). Goes us) s.text go in
      record {
        line = s.line;
        part = s.part;
        middle = s.middle;
        end_line = s.end_line;
        is =
            h rule s.part s.middle s.is (eachly_front (λ s. Fits s → Others s) s.middle ((mark c, s.end_line) ∷ []) parts.1);
        value = s.value;
        text = s.text;
      }

  nested_refits : (m : ℕ) (rule : Nonterminal) (a : NonterminalValue rule) (us : List Seen) → nested Fits m rule a us → Goes us → nested Others m rule a us
  nested_refits zero rule a us s go = absurd s
  nested_refits (suc m) rule a us s go = refits (nested Fits m) (nested Others m) (λ r b vs h g. nested_refits m r b vs h g) (grammar rule) a us s go

  pub spelled_refits : {A : Type 0} (p : Shape A) (a : A) (ts : List Seen) → IsSpelledBy Fits p a ts → Goes ts → IsSpelledBy Others p a ts
  spelled_refits p a ts s go = record {
    brackets = s.brackets;
    is = refits (nested Fits s.brackets) (nested Others s.brackets)
        (λ r b vs h g. nested_refits s.brackets r b vs h g) p a ts s.is go;
  }

-- ---- lawful symbols

-- What lawful tokens spell is spelled by the grammar.
pub by_grammar : {A : Type 0} (p : Shape A) (a : A) (ts : List Seen) → IsSpelled p a ts → IsSpelledBy IsAnySymbol p a ts
by_grammar p a ts s = spelled_refits IsLawfulSymbol IsAnySymbol p a ts s (eachly_all (λ s. IsLawfulSymbol s → IsAnySymbol s) (λ s h. tt) ts)

-- What lawful tokens spell by the grammar they spell.
pub by_lawful : {A : Type 0} (p : Shape A) (a : A) (ts : List Seen) → IsSpelledBy IsAnySymbol p a ts → Eachly IsLawfulSymbol ts → IsSpelled p a ts
by_lawful p a ts s h = spelled_refits IsAnySymbol IsLawfulSymbol p a ts s (go ts h)
  where
    go : (ts : List Seen) → Eachly IsLawfulSymbol ts → Eachly (λ s. IsAnySymbol s → IsLawfulSymbol s) ts
    go [] h = tt
    go (t ∷ ts) h = ((λ any. h.0), go ts h.1)

pub lawful_marks : (which : Mark) → IsLawfulSymbol (mark which)
lawful_marks which = tt

-- No lawful number is too great.
pub lawful_small : (s : Symbol) → IsLawfulSymbol s → is_great s ≡ false
lawful_small (name z) h = refl
lawful_small (number z) h = let small : nat_le (value_of z) greatest_literal ≡ true = le-leb (value_of z) greatest_literal h.1 in rw small refl
lawful_small (lit z) h = refl
lawful_small (word which) h = refl
lawful_small (mark which) h = refl
