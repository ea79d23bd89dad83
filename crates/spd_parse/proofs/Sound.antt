-- What is read is spelled so, and where reading stops the tokens before begin something that is spelled.
use Rattle.std.proofs.Common.{◌≡◌, ℕ, zero, suc, ◌<◌, ◌≤◌, Bool, true, false, cond, List, [], ◌∷◌, ◌++◌, length, Option, Some, None, map, Ok, Err, refl, sym, ◌∙◌, ap, subst, inl, inr, ◌⊎◌, append_assoc}
use Rattle.std.proofs.lemmas.List.{append-nil}
use Rattle.spd_syntax.specs.declared.token.Mark.{Mark}
use Rattle.spd_syntax.specs.declared.token.TokenKind.{TokenKind}
use Rattle.spd_syntax.specs.declared.token.TokenKind.TheVariants as kind
use Rattle.spd_syntax.specs.declared.fault.ParseKind.TheVariants as fault
use Rattle.spd_read.specs.declared.reading.StopKind.{StopKind}
use Rattle.spd_read.specs.declared.reading.StopKind.TheVariants.{Expected, Literal, TooDeep}
use Rattle.spd_syntax.specs.Tokens.{mark, Seen}
use Rattle.spd_syntax.specs.Symbols.{IsAnySymbol, bytes_of, kind_of, is_great, is_in}
use Rattle.spd_syntax.specs.Shape.{Shape, token, give, seq, either, folds, nest, Nonterminal, NonterminalValue, fst, entry_of, IsToken, AreBoth, AreMany, IsNested, EachPart, texts, folded, Spelling, Spells}
use Rattle.spd_read.specs.Reading.{Refs, next_in, Stop, Read, ◌>>=◌, accepted, token_at, mark_at, repeat, inside, reads}
use Rattle.spd_syntax.specs.OneAhead.{one_ahead, some, apart}
use Rattle.spd_syntax.specs.Limits.{opening, closing, broken}
use Rattle.spd_syntax.proofs.KindSets.{both, in_table, apart_to, apart_from, opening_closing}
use Rattle.spd_parse.proofs.Marks.{mark_here, mark_cases}
use Rattle.spd_syntax.proofs.Scan.{Level, level_both, level_plain, level_open, level_close, too_deep}
use Rattle.spd_parse.proofs.Examples.{Example, token_example, Examples, example}

-- ---- what is told of a reading

-- The tokens begin a spelling.
pub record Begun {A : Type 0} (S : A → List Seen → Type 0) (us : List Seen) : Type 0 where
  pub value : A
  pub more : List Seen
  pub is : S value (us ++ more)

-- a token that breaks a limit is passed over
abbrev pub passed : StopKind → List Seen → List Seen
passed Expected r = []
passed Literal [] = []
passed Literal (t ∷ r) = t ∷ []
passed TooDeep [] = []
passed TooDeep (t ∷ r) = t ∷ []

abbrev pub added : {A B : Type 0} → (A → B → A) → (List Seen → Read B) → A → List Seen → Read A
added f rq a us = rq us >>= λ y. Ok (f a y.0, y.1)

-- parts behind those that were found
pub record AreMore {A B : Type 0} (f : A → B → A) (Q : B → List Seen → Type 0) (base a : A) (ts : List Seen) : Type 0 where
  pub parts : List (B × List Seen)
  pub each : EachPart Q parts
  pub value : a ≡ folded f base parts
  pub text : ts ≡ texts parts

module _ (limit : ℕ) where
  -- Up to what is left the tokens spell the value, and keep the limits.
  pub record Found {A : Type 0} (n : ℕ) (S : A → List Seen → Type 0) (ts : List Seen) (x : A × List Seen) : Type 0 where
    pub front : List Seen
    pub parts : ts ≡ front ++ x.1
    pub is : S x.0 front
    pub kept : Level limit n front n

  -- it is the token that breaks the limit
  abbrev pub Breaks : ℕ → StopKind → List Seen → Type 0
  Breaks left Expected r = Unit {0}
  Breaks left Literal [] = ⊥
  Breaks left Literal (t ∷ r) = broken limit left t.0 ≡ Some fault.Literal
  Breaks left TooDeep [] = ⊥
  Breaks left TooDeep (t ∷ r) = broken limit left t.0 ≡ Some fault.TooDeep

  -- The tokens before the faulty one keep the limits and begin a spelling, with the faulty one if it breaks a limit.
  pub record Stopped {A : Type 0} (n : ℕ) (S : A → List Seen → Type 0) (ts : List Seen) (s : Stop) : Type 0 where
    pub front : List Seen
    pub left : ℕ
    pub parts : ts ≡ front ++ s.1
    pub kept : Level limit n front left
    pub breaks : Breaks left s.0 s.1
    pub begun : Begun S (front ++ passed s.0 s.1)

  abbrev pub Told : {A : Type 0} → ℕ → (A → List Seen → Type 0) → List Seen → Read A → Type 0
  Told n S ts (Ok x) = Found n S ts x
  Told n S ts (Err s) = Stopped n S ts s

  -- so many brackets are open before
  abbrev pub RefsTold : Option Refs → Spelling → ℕ → Type 0
  RefsTold None inner n = limit ≤ n
  RefsTold (Some refs) inner n = (n < limit) × ((rule : Nonterminal) (ts : List Seen) → Told (suc n) (inner rule) ts (refs rule ts))

  -- ---- steps

  -- A part stands behind what was read before it, and what comes after it can be made up.
  pub wrapped : {A B : Type 0} (n left : ℕ) (P : A → List Seen → Type 0) (S : B → List Seen → Type 0) (before ts : List Seen) (s : Stop)
      → Level limit n before left → ((a : A) (us : List Seen) → P a us → (b : B) × (after : List Seen) × S b (before ++ (us ++ after)))
      → Stopped left P ts s → Stopped n S (before ++ ts) s
  wrapped n left P S before ts s kept wrap h =
      let w = wrap h.begun.value ((h.front ++ passed s.0 s.1) ++ h.begun.more) h.begun.is in
      record {
        front = before ++ h.front;
        left = h.left;
        parts = ap (λ (z : List Seen). before ++ z) h.parts ∙ sym (append_assoc before h.front s.1);
        kept = level_both limit n left h.left before h.front kept h.kept;
        breaks = h.breaks;
        begun = record {
          value = w.0;
          more = h.begun.more ++ w.1;
          is = subst (λ (z : List Seen). S w.0 z) (regroup before h.front (passed s.0 s.1) h.begun.more w.1) w.2;
        };
      }
    where
      regroup : (a b c d e : List Seen) → a ++ (((b ++ c) ++ d) ++ e) ≡ ((a ++ b) ++ c) ++ (d ++ e)
      regroup a b c d e = rw (
        append_assoc (b ++ c) d e,
        append_assoc b c (d ++ e),
        append_assoc a b c,
        append_assoc a (b ++ c) (d ++ e),
        append_assoc b c
            (d ++ e),
      ) refl

  token_told : {A : Type 0} (n : ℕ) (table : List (TokenKind × (List ℕ → ℕ → A))) (ts : List Seen) → some table ≡ true
      → apart (map fst table) opening ≡ true → apart (map fst table) closing ≡ true → Told n (IsToken IsAnySymbol table) ts (token_at table ts)
  token_told n table [] fits opens closes =
      let x = token_example table fits in
      record { front = []; left = n; parts = refl; kept = (tt, refl); breaks = tt; begun = record { value = x.value; more = x.text; is = x.is } }
  token_told {A} n table (t ∷ r) fits opens closes = by_row (entry_of (kind_of t.0) table) refl
    where
      by_size : (make : List ℕ → ℕ → A) (b : Bool) → entry_of (kind_of t.0) table ≡ Some make → is_great t.0 ≡ b
          → Told n (IsToken IsAnySymbol table) (t ∷ r) (cond {A = Read A} b (Err (Literal, t ∷ r)) (Ok (make (bytes_of t.0) t.1, r)))
      by_size make true row great = record {
        front = [];
        left = n;
        parts = refl;
        kept = (tt, refl);
        breaks = rw great refl;
        begun =
            record { value = make (bytes_of t.0) t.1; more = []; is = record { token = t; make = make; row = row; fits = tt; value = refl; text = refl } };
      }
      by_size make false row small =
          let there = in_table (kind_of t.0) table make row in
          record {
            front = t ∷ [];
            parts = refl;
            is = record { token = t; make = make; row = row; fits = tt; value = refl; text = refl };
            kept =
                level_plain limit n t small (apart_to (kind_of t.0) (map fst table) opening opens there)
                (apart_to (kind_of t.0) (map fst table) closing closes there);
          }

      by_row : (o : Option (List ℕ → ℕ → A)) → entry_of (kind_of t.0) table ≡ o → Told n (IsToken IsAnySymbol table) (t ∷ r) (accepted o t r)
      by_row None row =
          let x = token_example table fits in
          record { front = []; left = n; parts = refl; kept = (tt, refl); breaks = tt; begun = record { value = x.value; more = x.text; is = x.is } }
      by_row (Some make) row = by_size make (is_great t.0) row refl

  -- ---- one part behind the other

  both_told : {A B : Type 0} (n : ℕ) (P : (B → A) → List Seen → Type 0) (Q : B → List Seen → Type 0) (ts : List Seen) (o : Read (B → A))
      (rq : List Seen → Read B)
      → Told n P ts o → ((us : List Seen) → Told n Q us (rq us)) → Example Q → Told n (AreBoth P Q) ts (o >>= λ f. rq f.1 >>= λ x. Ok (f.0 x.0, x.1))
  both_told n P Q ts (Err s) rq h go y =
      wrapped n n P (AreBoth P Q) [] ts s (tt, refl) (λ f us is. (
        f y.value,
        y.text,
        record
            { make = f; part = y.value; front = us; back = y.text; first = is; second = y.is; value = refl; text = refl },
      )) h
  both_told {A} {B} n P Q ts (Ok f) rq h go y = by_second (rq f.1) (go f.1)
    where
      by_second : (o : Read B) → Told n Q f.1 o → Told n (AreBoth P Q) ts (o >>= λ x. Ok (f.0 x.0, x.1))
      by_second (Ok x) g = record {
        front = h.front ++ g.front;
        parts = h.parts ∙ ap (λ (z : List Seen). h.front ++ z) g.parts ∙ sym (append_assoc h.front g.front x.1);
        is = record { make = f.0; part = x.0; front = h.front; back = g.front; first = h.is; second = g.is; value = refl; text = refl };
        kept = level_both limit n n n h.front g.front h.kept g.kept;
      }
      by_second (Err s) g =
          subst (λ (z : List Seen). Stopped n (AreBoth P Q) z s) (sym h.parts)
          (wrapped n n Q (AreBoth P Q) h.front f.1 s h.kept (λ x us is. (
            f.0 x,
            [],
            record {
              make = f.0;
              part = x;
              front = h.front;
              back = us;
              first = h.is;
              second = is;
              value = refl;
              text =
                  ap (λ (z : List Seen). h.front ++ z) (append-nil us);
            },
          )) g)

  either_told : {A : Type 0} (n : ℕ) (P Q : A → List Seen → Type 0) (ts : List Seen) (b : Bool) (o o' : Read A) → Told n P ts o → Told n Q ts o'
      → Told n (λ a us. P a us ⊎ Q a us) ts (cond b o o')
  either_told n P Q ts true (Ok x) o' h g = record { front = h.front; parts = h.parts; is = inl h.is; kept = h.kept }
  either_told n P Q ts true (Err s) o' h g = record {
    front = h.front;
    left = h.left;
    parts = h.parts;
    kept = h.kept;
    breaks = h.breaks;
    begun =
        record { value = h.begun.value; more = h.begun.more; is = inl h.begun.is };
  }
  either_told n P Q ts false o (Ok x) h g = record { front = g.front; parts = g.parts; is = inr g.is; kept = g.kept }
  either_told n P Q ts false o (Err s) h g = record {
    front = g.front;
    left = g.left;
    parts = g.parts;
    kept = g.kept;
    breaks = g.breaks;
    begun =
        record { value = g.begun.value; more = g.begun.more; is = inr g.begun.is };
  }

  -- ---- any number of parts

  pub repeat_told : {A B : Type 0} (level : ℕ) (ks : List TokenKind) (f : A → B → A) (Q : B → List Seen → Type 0) (rq : List Seen → Read B)
      → ((us : List Seen) → Told level Q us (rq us))
      → (rounds : ℕ) (a : A) (ts : List Seen) → Told level (AreMore f Q a) ts (repeat ks (added f rq) rounds a ts)
  unfolding repeat
  repeat_told level ks f Q rq go zero a ts = record {
    front = [];
    parts = refl;
    is = record { parts = []; each = tt; value = refl; text = refl };
    kept =
        (tt, refl);
  }
  repeat_told {A} {B} level ks f Q rq go (suc rounds) a ts = by_test (next_in ks ts) (rq ts) (go ts) (λ a us. repeat_told level ks f Q rq go rounds a us)
    where
      by_more : (y : B × List Seen) (g : Found level Q ts y) (o : Read A) → Told level (AreMore f Q (f a y.0)) y.1 o → Told level (AreMore f Q a) ts o
      by_more y g (Ok x) h = record {
        front = g.front ++ h.front;
        parts = g.parts ∙ ap (λ (z : List Seen). g.front ++ z) h.parts ∙ sym (append_assoc g.front h.front x.1);
        is = record {
          parts = (y.0, g.front) ∷ h.is.parts;
          each = (g.is, h.is.each);
          value = h.is.value;
          text =
              ap (λ (z : List Seen). g.front ++ z) h.is.text;
        };
        kept = level_both limit level level level g.front h.front g.kept h.kept;
      }
      by_more y g (Err s) h =
          subst (λ (z : List Seen). Stopped level (AreMore f Q a) z s) (sym g.parts)
          (wrapped level level (AreMore f Q (f a y.0)) (AreMore f Q a) g.front y.1 s g.kept
          (λ x us is. (
            x,
            [],
            record {
              parts = (y.0, g.front) ∷ is.parts;
              each = (g.is, is.each);
              value = is.value;
              text =
                  ap (λ (z : List Seen). g.front ++ z) (append-nil us ∙ is.text);
            },
          )) h)

      by_one : (o : Read B) → Told level Q ts o → ((a : A) (us : List Seen) → Told level (AreMore f Q a) us (repeat ks (added f rq) rounds a us))
          → Told level (AreMore f Q a) ts ((o >>= λ y. Ok (f a y.0, y.1)) >>= λ x. repeat ks (added f rq) rounds x.0 x.1)
      by_one (Ok y) g more = by_more y g (repeat ks (added f rq) rounds (f a y.0) y.1) (more (f a y.0) y.1)
      by_one (Err s) g more =
          wrapped level level Q (AreMore f Q a) [] ts s (tt, refl) (λ x us
          is. (f a x, [], record { parts = (x, us) ∷ []; each = (is, tt); value = refl; text = refl })) g

      by_test : (b : Bool) (o : Read B) → Told level Q ts o → ((a : A) (us : List Seen)
          → Told level (AreMore f Q a) us (repeat ks (added f rq) rounds a us))
          → Told level (AreMore f Q a) ts (cond b ((o >>= λ y. Ok (f a y.0, y.1)) >>= λ x. repeat ks (added f rq) rounds x.0 x.1) (Ok (a, ts)))
      by_test true o g more = by_one o g more
      by_test false o g more = record { front = []; parts = refl; is = record { parts = []; each = tt; value = refl; text = refl }; kept = (tt, refl) }

  many_told : {A B : Type 0} (n : ℕ) (ks : List TokenKind) (f : A → B → A) (P : A → List Seen → Type 0) (Q : B → List Seen → Type 0) (ts : List Seen)
      (o : Read A) (rq : List Seen → Read B)
      → Told n P ts o → ((us : List Seen) → Told n Q us (rq us)) → Told n (AreMany f P Q) ts (o >>= λ x. repeat ks (added f rq) (length x.1) x.0 x.1)
  many_told n ks f P Q ts (Err s) rq h go =
      wrapped n n P (AreMany f P Q) [] ts s (tt, refl) (λ x us is. (
        x,
        [],
        record
            { base = x; front = us; parts = []; first = is; each = tt; value = refl; text = refl },
      )) h
  many_told {A} {B} n ks f P Q ts (Ok x) rq h go = by_more (repeat ks (added f rq) (length x.1) x.0 x.1) (repeat_told n ks f Q rq go (length x.1) x.0 x.1)
    where
      by_more : (o : Read A) → Told n (AreMore f Q x.0) x.1 o → Told n (AreMany f P Q) ts o
      by_more (Ok y) g = record {
        front = h.front ++ g.front;
        parts = h.parts ∙ ap (λ (z : List Seen). h.front ++ z) g.parts ∙ sym (append_assoc h.front g.front y.1);
        is = record {
          base = x.0;
          front = h.front;
          parts = g.is.parts;
          first = h.is;
          each = g.is.each;
          value = g.is.value;
          text =
              ap (λ (z : List Seen). h.front ++ z) g.is.text;
        };
        kept = level_both limit n n n h.front g.front h.kept g.kept;
      }
      by_more (Err s) g =
          subst (λ (z : List Seen). Stopped n (AreMany f P Q) z s) (sym h.parts)
          (wrapped n n (AreMore f Q x.0) (AreMany f P Q) h.front x.1 s h.kept
          (λ y us is. (
            y,
            [],
            record {
              base = x.0;
              front = h.front;
              parts = is.parts;
              first = h.is;
              each = is.each;
              value = is.value;
              text =
                  ap (λ (z : List Seen). h.front ++ z) (append-nil us ∙ is.text);
            },
          )) g)

  -- ---- a rule between brackets

  module _ {A : Type 0} (inner : Spelling) (rule : Nonterminal) (o c : Mark) (f : ℕ → NonterminalValue rule → ℕ → A)
      (opens : is_in (kind.Mark o) opening ≡ true) (closes : is_in (kind.Mark c) closing ≡ true) (x : Example (inner rule)) where
    abbrev Nested : A → List Seen → Type 0
    Nested = IsNested (inner rule) o c f

    abbrev closed : ℕ → Read (NonterminalValue rule) → Read A
    closed l p = p >>= λ y. mark_at c y.1 >>= λ l'. Ok (f l y.0 l'.0, l'.1)

    closed_told : (n l : ℕ) → n < limit → (r : List Seen) (y : NonterminalValue rule × List Seen) → Found (suc n) (inner rule) r y
        → Told n Nested ((mark o, l) ∷ r) (mark_at c y.1 >>= λ l'. Ok (f l y.0 l'.0, l'.1))
    closed_told n l less r y h = by_mark (mark_cases c y.1)
      where
        not_open : is_in (kind.Mark c) opening ≡ false
        not_open = apart_from (kind.Mark c) opening closing opening_closing closes

        opened : Level limit n ((mark o, l) ∷ h.front) (suc n)
        opened = level_both limit n (suc n) (suc n) ((mark o, l) ∷ []) h.front (level_open limit n o l less opens) h.kept

        by_mark : ((l' : ℕ) × (r' : List Seen) × (y.1 ≡ (mark c, l') ∷ r')) ⊎ (mark_at c y.1 ≡ Err (Expected, y.1))
            → Told n Nested ((mark o, l) ∷ r) (mark_at c y.1 >>= λ l'. Ok (f l y.0 l'.0, l'.1))
        by_mark (inr e) = rw e (record {
          front = (mark o, l) ∷ h.front;
          left = suc n;
          parts = ap (λ (z : List Seen). (mark o, l) ∷ z) h.parts;
          kept = opened;
          breaks = tt;
          begun = record {
            value = f l y.0 0;
            more = (mark c, 0) ∷ [];
            is =
                record {
                  line = l;
                  part = y.0;
                  middle = h.front;
                  end_line = 0;
                  is = h.is;
                  value = refl;
                  text =
                      ap (λ (z : List Seen). (mark o, l) ∷ (z ++ (mark c, 0) ∷ [])) (append-nil h.front);
                };
          };
        })
        by_mark (inl g) = rw (g.2, mark_here c g.0 g.1) (record {
          front = (mark o, l) ∷ (h.front ++ (mark c, g.0) ∷ []);
          parts = ap (λ (z : List Seen). (mark o, l) ∷ z) (h.parts ∙ ap (λ (z : List Seen). h.front ++ z) g.2
              ∙ sym (append_assoc h.front ((mark c, g.0) ∷ []) g.1));
          is = record { line = l; part = y.0; middle = h.front; end_line = g.0; is = h.is; value = refl; text = refl };
          kept = level_both limit n (suc n) n ((mark o, l) ∷ h.front) ((mark c, g.0) ∷ []) opened (level_close limit n c g.0 not_open closes);
        })

    inside_told : (refs : Option Refs) (n : ℕ) → RefsTold refs inner n → (l : ℕ) (r : List Seen)
        → Told n Nested ((mark o, l) ∷ r) (closed l (inside refs rule ((mark o, l) ∷ r) r))
    inside_told None n told l r = record {
      front = [];
      left = n;
      parts = refl;
      kept = (tt, refl);
      breaks = too_deep limit n o told opens;
      begun = record {
        value = f l x.value 0;
        more = x.text ++ (mark c, 0) ∷ [];
        is =
            record { line = l; part = x.value; middle = x.text; end_line = 0; is = x.is; value = refl; text = refl };
      };
    }
    inside_told (Some refs) n told l r = by_one (refs rule r) (told.1 rule r)
      where
        by_one : (p : Read (NonterminalValue rule)) → Told (suc n) (inner rule) r p → Told n Nested ((mark o, l) ∷ r) (closed l p)
        by_one (Ok y) h = closed_told n l told.0 r y h
        by_one (Err s) h =
            wrapped n (suc n) (inner rule) Nested ((mark o, l) ∷ []) r s (level_open limit n o l told.0 opens)
            (λ y us is. (f l y 0, (mark c, 0) ∷ [], record { line = l; part = y; middle = us; end_line = 0; is = is; value = refl; text = refl })) h

    nest_told : (refs : Option Refs) (n : ℕ) → RefsTold refs inner n → (ts : List Seen)
        → Told n Nested ts (mark_at o ts >>= λ l. closed l.0 (inside refs rule ts l.1))
    nest_told refs n told ts = by_mark (mark_cases o ts)
      where
        by_mark : ((l : ℕ) × (r : List Seen) × (ts ≡ (mark o, l) ∷ r)) ⊎ (mark_at o ts ≡ Err (Expected, ts))
            → Told n Nested ts (mark_at o ts >>= λ l. closed l.0 (inside refs rule ts l.1))
        by_mark (inr e) = rw e (record {
          front = [];
          left = n;
          parts = refl;
          kept = (tt, refl);
          breaks = tt;
          begun = record {
            value = f 0 x.value 0;
            more = (mark o, 0) ∷ (x.text ++ (mark c, 0) ∷ []);
            is =
                record { line = 0; part = x.value; middle = x.text; end_line = 0; is = x.is; value = refl; text = refl };
          };
        })
        by_mark (inl g) = subst (λ (z : List Seen). Told n Nested z (mark_at o z >>= λ l. closed l.0 (inside refs rule z l.1))) (sym g.2)
            (rw (mark_here o g.0 g.1) (inside_told refs n told g.0 g.1))

  -- ---- each shape

  module _ (refs : Option Refs) (inner : Spelling) (n : ℕ) (refs_told : RefsTold refs inner n) (examples : Examples inner) where
    pub told : {A : Type 0} (p : Shape A) → one_ahead p ≡ true → (ts : List Seen) → Told n (Spells IsAnySymbol inner p) ts (reads refs p ts)
    told (token table) fits ts =
        let h = both (some table) _ fits in
        let k = both (apart (map fst table) opening) _ h.1 in
        token_told n table ts h.0 k.0 k.1
    told (give a) fits ts = record { front = []; parts = refl; is = (refl, refl); kept = (tt, refl) }
    told (seq p q) fits ts =
        let h = both (one_ahead p) _ fits in
        let k = both (one_ahead q) _ h.1 in
        both_told n (Spells IsAnySymbol inner p) (Spells IsAnySymbol inner q) ts (reads refs p ts) (reads refs q) (told p h.0 ts) (λ us. told q k.0 us)
        (example inner q k.0 (inr examples))
    told (either ks p q) fits ts =
        let h = both (one_ahead p) _ fits in
        let k = both (one_ahead q) _ h.1 in
        either_told n (Spells IsAnySymbol inner p) (Spells IsAnySymbol inner q) ts (next_in ks ts) (reads refs p ts) (reads refs q ts) (told p h.0 ts)
        (told q k.0 ts)
    told (folds ks f p q) fits ts =
        let h = both (one_ahead p) _ fits in
        let k = both (one_ahead q) _ h.1 in
        many_told n ks f (Spells IsAnySymbol inner p) (Spells IsAnySymbol inner q) ts (reads refs p ts) (reads refs q) (told p h.0 ts) (λ us. told q k.0 us)
    told (nest rule o c f) fits ts =
        let h = both (is_in (kind.Mark o) opening) _ fits in
        nest_told inner rule o c f h.0 h.1 (examples rule) refs n refs_told ts
