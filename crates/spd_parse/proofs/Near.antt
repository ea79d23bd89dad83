-- Reading looks one token ahead: what stands behind the next token makes no difference before it.
use Rattle.std.proofs.Common.{◌≡◌, ℕ, zero, suc, ◌≤◌, Bool, true, false, cond, not, List, [], ◌∷◌, ◌++◌, length, Option, Some, None, Ok, Err, refl, sym, ◌∙◌, ap, subst, inl, inr, ◌⊎◌, append_assoc, length-append, arith}
use Rattle.std.proofs.lemmas.List.{append_cancel_right}
use Rattle.spd_syntax.specs.declared.token.Mark.{Mark}
use Rattle.spd_syntax.specs.declared.token.TokenKind.{TokenKind}
use Rattle.spd_syntax.specs.declared.token.TokenKind.TheVariants as kind
use Rattle.spd_read.specs.declared.reading.StopKind.{StopKind}
use Rattle.spd_read.specs.declared.reading.StopKind.TheVariants.{Expected, Literal, TooDeep}
use Rattle.spd_syntax.specs.Tokens.{mark, Seen}
use Rattle.spd_syntax.specs.Symbols.{IsAnySymbol, bytes_of, kind_of, is_great}
use Rattle.spd_syntax.specs.Shape.{Shape, token, give, seq, either, folds, nest, Nonterminal, NonterminalValue, entry_of, Spelling, Spells}
use Rattle.spd_read.specs.Reading.{Refs, next_in, Read, ◌>>=◌, accepted, token_at, mark_at, repeat, inside, reads}
use Rattle.spd_syntax.specs.OneAhead.{is_empty, begins, one_ahead, some}
use Rattle.spd_syntax.proofs.KindSets.{both, not-true}
use Rattle.spd_parse.proofs.Heads.{Begins, heads}
use Rattle.spd_parse.proofs.Examples.{Examples}
use Rattle.spd_parse.proofs.Marks.{mark_here, mark_cases}
use Rattle.spd_parse.proofs.Sound.{Told, RefsTold, added, AreMore, told, repeat_told}

module _ (limit : ℕ) (t : Seen) (r s : List Seen) where
  -- Where the first reading stops at the token or before, the other stops alike.
  abbrev pub Alike : {A : Type 0} → Read A → Read A → Type 0
  Alike (Ok x) o = (vs : List Seen) → x.1 ≡ vs ++ t ∷ r → o ≡ Ok (x.0, vs ++ t ∷ s)
  Alike (Err e) o = (vs : List Seen) → e.1 ≡ vs ++ t ∷ r → o ≡ Err (e.0, vs ++ t ∷ s)

  abbrev pub RefsNear : Option Refs → Type 0
  RefsNear None = Unit {0}
  RefsNear (Some refs) = (rule : Nonterminal) (us : List Seen) → Alike (refs rule (us ++ t ∷ r)) (refs rule (us ++ t ∷ s))

  -- what is left is some of the tokens
  abbrev pub Rest : {A : Type 0} → List Seen → Read A → Type 0
  Rest ts (Ok x) = (ws : List Seen) × (ts ≡ ws ++ x.1)
  Rest ts (Err e) = (ws : List Seen) × (ts ≡ ws ++ e.1)

  pub rest_of : {A : Type 0} (n : ℕ) (S : A → List Seen → Type 0) (ts : List Seen) (o : Read A) → Told limit n S ts o → Rest ts o
  rest_of n S ts (Ok x) h = (h.front, h.parts)
  rest_of n S ts (Err e) h = (h.front, h.parts)

  same_next : (ks : List TokenKind) (us : List Seen) → next_in ks (us ++ t ∷ s) ≡ next_in ks (us ++ t ∷ r)
  same_next ks [] = refl
  same_next ks (u ∷ us) = refl

  rest_then : {A B : Type 0} (ts : List Seen) (o : Read A) (h : A → B) → Rest ts o → Rest ts (o >>= λ y. Ok (h y.0, y.1))
  rest_then ts (Ok x) h w = w
  rest_then ts (Err e) h w = w

  -- a part, and then what g reads of the rest
  then_near : {A B : Type 0} (o o' : Read A) (g g' : A × List Seen → Read B) → Alike o o' → ((x : A × List Seen) → Rest x.1 (g x))
      → ((a : A) (ws : List Seen) → o ≡ Ok (a, ws ++ t ∷ r) → Alike (g (a, ws ++ t ∷ r)) (g' (a, ws ++ t ∷ s))) → Alike (o >>= g) (o' >>= g')
  then_near {A} {B} (Err e) o' g g' h rest near = λ vs is. rw (h vs is) refl
  then_near {A} {B} (Ok x) o' g g' h rest near = by_two (g x) (rest x) refl
    where
      by_two : (p : Read B) → Rest x.1 p → g x ≡ p → Alike p (o' >>= g')
      by_two (Ok y) w e = λ vs is.
          let at : x.1 ≡ (w.0 ++ vs) ++ t ∷ r = w.1 ∙ ap (λ (z : List Seen). w.0 ++ z) is ∙ sym (append_assoc w.0 vs (t ∷ r)) in
          let n : Alike (Ok y) (g' (x.0, (w.0 ++ vs) ++ t ∷ s)) = subst (λ (q : Read B). Alike q (g' (x.0, (w.0 ++ vs) ++ t ∷ s)))
          (ap (λ (z : List Seen). g (x.0, z)) (sym at) ∙ e) (near x.0 (w.0 ++ vs) (ap (λ (z : List Seen). Ok (x.0, z)) at)) in
          rw (h (w.0 ++ vs) at) (n vs is)
      by_two (Err y) w e = λ vs is.
          let at : x.1 ≡ (w.0 ++ vs) ++ t ∷ r = w.1 ∙ ap (λ (z : List Seen). w.0 ++ z) is ∙ sym (append_assoc w.0 vs (t ∷ r)) in
          let n : Alike (Err y) (g' (x.0, (w.0 ++ vs) ++ t ∷ s)) = subst (λ (q : Read B). Alike q (g' (x.0, (w.0 ++ vs) ++ t ∷ s)))
          (ap (λ (z : List Seen). g (x.0, z)) (sym at) ∙ e) (near x.0 (w.0 ++ vs) (ap (λ (z : List Seen). Ok (x.0, z)) at)) in
          rw (h (w.0 ++ vs) at) (n vs is)

  -- ---- where reading stands at once

  same_front : (us vs : List Seen) → us ++ t ∷ r ≡ vs ++ t ∷ r → us ≡ vs
  same_front us vs e = append_cancel_right us vs (t ∷ r) e

  ok_near : {A : Type 0} (a : A) (us : List Seen) → Alike (Ok (a, us ++ t ∷ r)) (Ok (a, us ++ t ∷ s))
  ok_near {A} a us = λ vs is. ap (λ (z : List Seen). Ok (a, z ++ t ∷ s)) (same_front us vs is)

  err_near : {A : Type 0} (k : StopKind) (us : List Seen) → Alike {A = A} (Err (k, us ++ t ∷ r)) (Err (k, us ++ t ∷ s))
  err_near {A} k us = λ vs is. ap (λ (z : List Seen). Err (k, z ++ t ∷ s)) (same_front us vs is)

  -- It went past the token.
  past : {A : Type 0} (o o' : Read A) → Rest r o → Alike o o'
  past (Ok x) o' w = λ vs is. absurd (omega (arith, ap length w.1, ap length is, length-append w.0 x.1, length-append vs (t ∷ r)))
  past (Err e) o' w = λ vs is. absurd (omega (arith, ap length w.1, ap length is, length-append w.0 e.1, length-append vs (t ∷ r)))

  token_near : {A : Type 0} (table : List (TokenKind × (List ℕ → ℕ → A))) (us : List Seen) → Alike (token_at table (us ++ t ∷ r)) (token_at table (us ++ t ∷ s))
  token_near {A} table [] = by_row (entry_of (kind_of t.0) table)
    where
      by_size : (make : List ℕ → ℕ → A) (b : Bool) → Alike (cond {A = Read A} b (Err (Literal, t ∷ r)) (Ok (make (bytes_of t.0) t.1, r)))
          (cond {A = Read A} b (Err (Literal, t ∷ s)) (Ok (make (bytes_of t.0) t.1, s)))
      by_size make true = err_near Literal []
      by_size make false = past (Ok (make (bytes_of t.0) t.1, r)) (Ok (make (bytes_of t.0) t.1, s)) ([], refl)

      by_row : (o : Option (List ℕ → ℕ → A)) → Alike (accepted o t r) (accepted o t s)
      by_row None = err_near Expected []
      by_row (Some make) = by_size make (is_great t.0)
  token_near {A} table (u ∷ us) = by_row (entry_of (kind_of u.0) table)
    where
      by_size : (make : List ℕ → ℕ → A) (b : Bool) → Alike (cond {A = Read A} b (Err (Literal, u ∷ (us ++ t ∷ r)))
          (Ok (make (bytes_of u.0) u.1, us ++ t ∷ r))) (cond {A = Read A} b (Err (Literal, u ∷ (us ++ t ∷ s))) (Ok (make (bytes_of u.0) u.1, us ++ t ∷ s)))
      by_size make true = err_near Literal (u ∷ us)
      by_size make false = ok_near (make (bytes_of u.0) u.1) us

      by_row : (o : Option (List ℕ → ℕ → A)) → Alike (accepted o u (us ++ t ∷ r)) (accepted o u (us ++ t ∷ s))
      by_row None = err_near Expected (u ∷ us)
      by_row (Some make) = by_size make (is_great u.0)

  either_near : {A : Type 0} (ks : List TokenKind) (us : List Seen) (o p o' p' : Read A) → Alike o o' → Alike p p'
      → Alike (cond (next_in ks (us ++ t ∷ r)) o p) (cond (next_in ks (us ++ t ∷ s)) o' p')
  either_near {A} ks us o p o' p' h g = rw (same_next ks us) (by_test (next_in ks (us ++ t ∷ r)))
    where
      by_test : (b : Bool) → Alike (cond b o p) (cond b o' p')
      by_test true = h
      by_test false = g

  -- ---- any number of parts

  repeat_near : {A B : Type 0} (level : ℕ) (ks first : List TokenKind) (empty : Bool) (f : A → B → A) (Q : B → List Seen → Type 0) (rq : List Seen → Read B)
      → empty ≡ false → ((b : B) (vs : List Seen) → Q b vs → Begins empty first vs) → ((us : List Seen) → Told limit level Q us (rq us))
      → ((us : List Seen) → Alike (rq (us ++ t ∷ r)) (rq (us ++ t ∷ s)))
      → (n m : ℕ) (a : A) (us : List Seen) → length (us ++ t ∷ r) ≤ n → length (us ++ t ∷ s) ≤ m
      → Alike (repeat ks (added f rq) n a (us ++ t ∷ r)) (repeat ks (added f rq) m a (us ++ t ∷ s))
  unfolding repeat
  repeat_near level ks first empty f Q rq some head told near zero m a us le le' = absurd (omega (arith, le, length-append us (t ∷ r)))
  repeat_near level ks first empty f Q rq some head told near (suc n) zero a us le le' = absurd (omega (arith, le', length-append us (t ∷ s)))
  repeat_near {A} {B} level ks first empty f Q rq some head told near (suc n) (suc m) a us le le' =
      either_near ks us ((added f rq a (us ++ t ∷ r)) >>= λ x. repeat ks (added f rq) n x.0 x.1) (Ok (a, us ++ t ∷ r))
      ((added f rq a (us ++ t ∷ s)) >>= λ x. repeat ks (added f rq) m x.0 x.1) (Ok (a, us ++ t ∷ s))
      (then_near (added f rq a (us ++ t ∷ r)) (added f rq a (us ++ t ∷ s)) (λ x. repeat ks (added f rq) n x.0 x.1) (λ x. repeat ks (added f rq) m x.0 x.1)
      (then_near (rq (us ++ t ∷ r)) (rq (us ++ t ∷ s)) (λ y. Ok (f a y.0, y.1)) (λ y. Ok (f a y.0, y.1)) (near us) (λ y. ([], refl))
      (λ b ws e. ok_near (f a b) ws))
      (λ x. rest_of level (AreMore f Q x.0) x.1 (repeat ks (added f rq) n x.0 x.1) (repeat_told limit level ks f Q rq told n x.0 x.1))
      (λ b ws e. by_length b ws (rq (us ++ t ∷ r)) (told (us ++ t ∷ r)) e
      (λ le le'. repeat_near level ks first empty f Q rq some head told near n m b ws le le')))
      (ok_near a us)
    where
      not_empty : (b : B) (vs : List Seen) → Q b vs → 1 ≤ length vs
      not_empty b [] h = let yes : empty ≡ true = head b [] h in absurd cc
      not_empty b (v ∷ vs) h = omega arith

      by_length : (b : A) (ws : List Seen) (o : Read B) → Told limit level Q (us ++ t ∷ r) o → (o >>= λ y. Ok (f a y.0, y.1)) ≡ Ok (b, ws ++ t ∷ r)
          → (length (ws ++ t ∷ r) ≤ n → length (ws ++ t ∷ s) ≤ m → Alike (repeat ks (added f rq) n b (ws ++ t ∷ r)) (repeat ks (added f rq) m b (ws ++ t ∷ s)))
          → Alike (repeat ks (added f rq) n b (ws ++ t ∷ r)) (repeat ks (added f rq) m b (ws ++ t ∷ s))
      by_length b ws (Err e) h is go = absurd cc
      by_length b ws (Ok y) h is go =
          let pair : (f a y.0, y.1) ≡ (b, ws ++ t ∷ r) = cc in
          let rest : length y.1 ≡ length (ws ++ t ∷ r) = ap (λ (p : A × List Seen). length p.1) pair in
          let one = not_empty y.0 h.front h.is in
          let less : length (ws ++ t ∷ r) ≤ n = omega (arith, le, one, rest, ap length h.parts, length-append h.front y.1) in
          let less' : length (ws ++ t ∷ s) ≤ m = omega (
            arith,
            le',
            one,
            rest,
            ap length h.parts,
            length-append h.front y.1,
            length-append us (t ∷ r),
            length-append us (t ∷ s),
            length-append ws (t ∷ r),
            length-append ws (t ∷ s),
          ) in
          go less less'

  -- ---- a rule between brackets

  mark_rest : (which : Mark) (ts : List Seen) → Rest ts (mark_at which ts)
  mark_rest which ts = by_mark (mark_cases which ts)
    where
      by_mark : ((l : ℕ) × (z : List Seen) × (ts ≡ (mark which, l) ∷ z)) ⊎ (mark_at which ts ≡ Err (Expected, ts)) → Rest ts (mark_at which ts)
      by_mark (inl g) = rw (g.2, mark_here which g.0 g.1) ((mark which, g.0) ∷ [], refl)
      by_mark (inr e) = rw e ([], refl)

  module _ {A : Type 0} (rule : Nonterminal) (o c : Mark) (f : ℕ → NonterminalValue rule → ℕ → A) (inner : Spelling) where
    abbrev closed : ℕ → Read (NonterminalValue rule) → Read A
    closed l p = p >>= λ x. mark_at c x.1 >>= λ l'. Ok (f l x.0 l'.0, l'.1)

    closed_near : (l : ℕ) (p p' : Read (NonterminalValue rule)) → Alike p p' → Alike (closed l p) (closed l p')
    closed_near l p p' h =
        then_near p p' (λ x. mark_at c x.1 >>= λ l'. Ok (f l x.0 l'.0, l'.1)) (λ x. mark_at c x.1 >>= λ l'. Ok (f l x.0 l'.0, l'.1)) h
        (λ x. rest_then x.1 (mark_at c x.1) (λ l'. f l x.0 l') (mark_rest c x.1))
        (λ b ws e. then_near (mark_at c (ws ++ t ∷ r)) (mark_at c (ws ++ t ∷ s)) (λ l'. Ok (f l b l'.0, l'.1)) (λ l'. Ok (f l b l'.0, l'.1))
        (token_near ((kind.Mark c, λ bytes line. line) ∷ []) ws) (λ l'. ([], refl)) (λ l' ws e. ok_near (f l b l') ws))

    inside_near : (refs : Option Refs) → RefsNear refs → (l : ℕ) (before us : List Seen)
        → Alike (closed l (inside refs rule (before ++ t ∷ r) (us ++ t ∷ r))) (closed l (inside refs rule (before ++ t ∷ s) (us ++ t ∷ s)))
    inside_near None near l before us = err_near TooDeep before
    inside_near (Some refs) near l before us = closed_near l (refs rule (us ++ t ∷ r)) (refs rule (us ++ t ∷ s)) (near rule us)

    closed_rest : (l : ℕ) (ts : List Seen) (p : Read (NonterminalValue rule)) → Rest ts p → Rest ts (closed l p)
    closed_rest l ts (Err e) w = w
    closed_rest l ts (Ok x) w = by_close (mark_at c x.1) (mark_rest c x.1)
      where
        by_close : (q : Read ℕ) → Rest x.1 q → Rest ts (q >>= λ l'. Ok (f l x.0 l'.0, l'.1))
        by_close (Ok y) v = (w.0 ++ v.0, w.1 ∙ ap (λ (z : List Seen). w.0 ++ z) v.1 ∙ sym (append_assoc w.0 v.0 y.1))
        by_close (Err e) v = (w.0 ++ v.0, w.1 ∙ ap (λ (z : List Seen). w.0 ++ z) v.1 ∙ sym (append_assoc w.0 v.0 e.1))

    -- The bracket is the token itself, and what was read is behind it, unless one bracket too many is open.
    at_bracket : (refs : Option Refs) (n : ℕ) → RefsTold limit refs inner n → (l : ℕ)
        → Alike (closed l (inside refs rule (t ∷ r) r)) (closed l (inside refs rule (t ∷ s) s))
    at_bracket None n told l = err_near TooDeep []
    at_bracket (Some refs) n told l = past (closed l (refs rule r)) (closed l (refs rule s))
        (closed_rest l r (refs rule r) (rest_of (suc n) (inner rule) r (refs rule r) (told.1 rule r)))

    nest_near : (refs : Option Refs) (n : ℕ) → RefsTold limit refs inner n → RefsNear refs → (us : List Seen)
        → Alike (mark_at o (us ++ t ∷ r) >>= λ l. closed l.0 (inside refs rule (us ++ t ∷ r) l.1))
        (mark_at o (us ++ t ∷ s) >>= λ l. closed l.0 (inside refs rule (us ++ t ∷ s) l.1))
    nest_near refs n told near [] = by_row (entry_of (kind_of t.0) ((kind.Mark o, λ bytes line. line) ∷ []))
      where
        by_size : (make : List ℕ → ℕ → ℕ) (b : Bool) → Alike (cond {A = Read ℕ} b (Err (Literal, t ∷ r)) (Ok (make (bytes_of t.0) t.1, r)) >>= λ l. closed
            l.0 (inside refs rule (t ∷ r) l.1)) (cond {A = Read ℕ} b (Err (Literal, t ∷ s)) (Ok (make (bytes_of t.0) t.1, s)) >>= λ l. closed l.0
            (inside refs rule (t ∷ s) l.1))
        by_size make true = err_near Literal []
        by_size make false = at_bracket refs n told (make (bytes_of t.0) t.1)

        by_row : (q : Option (List ℕ → ℕ → ℕ)) → Alike (accepted q t r >>= λ l. closed l.0 (inside refs rule (t ∷ r) l.1))
            (accepted q t s >>= λ l. closed l.0 (inside refs rule (t ∷ s) l.1))
        by_row None = err_near Expected []
        by_row (Some make) = by_size make (is_great t.0)
    nest_near refs n told near (u ∷ us) = by_row (entry_of (kind_of u.0) ((kind.Mark o, λ bytes line. line) ∷ []))
      where
        by_size : (make : List ℕ → ℕ → ℕ) (b : Bool) → Alike (cond {A = Read ℕ} b (Err (Literal, u ∷ (us ++ t ∷ r)))
            (Ok (make (bytes_of u.0) u.1, us ++ t ∷ r)) >>= λ l. closed l.0 (inside refs rule (u ∷ (us ++ t ∷ r)) l.1))
            (cond {A = Read ℕ} b (Err (Literal, u ∷ (us ++ t ∷ s))) (Ok (make (bytes_of u.0) u.1, us ++ t ∷ s)) >>= λ l. closed l.0
            (inside refs rule (u ∷ (us ++ t ∷ s)) l.1))
        by_size make true = err_near Literal (u ∷ us)
        by_size make false = inside_near refs near (make (bytes_of u.0) u.1) (u ∷ us) us

        by_row : (q : Option (List ℕ → ℕ → ℕ)) → Alike (accepted q u (us ++ t ∷ r) >>= λ l. closed l.0 (inside refs rule (u ∷ (us ++ t ∷ r)) l.1))
            (accepted q u (us ++ t ∷ s) >>= λ l. closed l.0 (inside refs rule (u ∷ (us ++ t ∷ s)) l.1))
        by_row None = err_near Expected (u ∷ us)
        by_row (Some make) = by_size make (is_great u.0)

  -- ---- each shape

  module _ (refs : Option Refs) (inner : Spelling) (n : ℕ) (refs_told : RefsTold limit refs inner n) (refs_near : RefsNear refs) (examples : Examples inner)
    where
      pub near : {A : Type 0} (p : Shape A) → one_ahead p ≡ true → (us : List Seen) → Alike (reads refs p (us ++ t ∷ r)) (reads refs p (us ++ t ∷ s))
      near (token table) fits us = token_near table us
      near (give a) fits us = ok_near a us
      near (seq p q) fits us =
          let h = both (one_ahead p) _ fits in
          let k = both (one_ahead q) _ h.1 in
          then_near (reads refs p (us ++ t ∷ r)) (reads refs p (us ++ t ∷ s)) (λ g. reads refs q g.1 >>= λ x. Ok (g.0 x.0, x.1))
          (λ g. reads refs q g.1 >>= λ x. Ok (g.0 x.0, x.1)) (near p h.0 us)
          (λ g. rest_then g.1 (reads refs q g.1) (λ x. g.0 x) (rest_of n (Spells IsAnySymbol inner q) g.1 (reads refs q g.1)
          (told limit refs inner n refs_told examples q k.0 g.1)))
          (λ g ws e. then_near (reads refs q (ws ++ t ∷ r)) (reads refs q (ws ++ t ∷ s)) (λ x. Ok (g x.0, x.1)) (λ x. Ok (g x.0, x.1)) (near q k.0 ws)
          (λ x. ([], refl)) (λ x ws e. ok_near (g x) ws))
      near (either ks p q) fits us =
          let h = both (one_ahead p) _ fits in
          let k = both (one_ahead q) _ h.1 in
          either_near ks us (reads refs p (us ++ t ∷ r)) (reads refs q (us ++ t ∷ r)) (reads refs p (us ++ t ∷ s)) (reads refs q (us ++ t ∷ s))
          (near p h.0 us) (near q k.0 us)
      near (folds ks f p q) fits us =
          let h = both (one_ahead p) _ fits in
          let k = both (one_ahead q) _ h.1 in
          let m = both (not (is_empty q)) _ k.1 in
          then_near (reads refs p (us ++ t ∷ r)) (reads refs p (us ++ t ∷ s)) (λ x. repeat ks (added f (reads refs q)) (length x.1) x.0 x.1)
          (λ x. repeat ks (added f (reads refs q)) (length x.1) x.0 x.1) (near p h.0 us)
          (λ x. rest_of n (AreMore f (Spells IsAnySymbol inner q) x.0) x.1 (repeat ks (added f (reads refs q)) (length x.1) x.0 x.1)
          (repeat_told limit n ks f (Spells IsAnySymbol inner q) (reads refs q) (λ us. told limit refs inner n refs_told examples q k.0 us) (length x.1)
          x.0 x.1))
          (λ a ws e. repeat_near n ks (begins q) (is_empty q) f (Spells IsAnySymbol inner q) (reads refs q) (not-true (is_empty q) m.0)
          (λ b vs g. heads inner q b vs g) (λ us. told limit refs inner n refs_told examples q k.0 us) (λ us. near q k.0 us) (length (ws ++ t ∷ r))
          (length (ws ++ t ∷ s)) a ws (omega arith) (omega arith))
      near (nest rule o c f) fits us = nest_near rule o c f inner refs n refs_told refs_near us
