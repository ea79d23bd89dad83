-- What is spelled is read, unless it breaks a limit.
use Rattle.std.proofs.Common.{◌≡◌, ℕ, zero, suc, ◌≤◌, Bool, true, false, cond, not, List, [], ◌∷◌, ◌++◌, length, Option, Some, None, Ok, Err, refl, sym, ap, subst, inl, inr, append_assoc, length-append, arith}
use Rattle.spd_syntax.specs.declared.token.Mark.{Mark}
use Rattle.spd_syntax.specs.declared.token.TokenKind.{TokenKind}
use Rattle.spd_syntax.specs.declared.token.TokenKind.TheVariants as kind
use Rattle.spd_read.specs.declared.reading.StopKind.{StopKind}
use Rattle.spd_read.specs.declared.reading.StopKind.TheVariants.{Expected, Literal, TooDeep}
use Rattle.spd_syntax.specs.Tokens.{mark, Seen}
use Rattle.spd_syntax.specs.Symbols.{IsAnySymbol, bytes_of, kind_of, is_great, is_in}
use Rattle.spd_syntax.specs.Shape.{Shape, token, give, seq, either, folds, nest, Nonterminal, NonterminalValue, IsToken, AreBoth, AreMany, IsNested, EachPart, texts, folded, Spelling, Spells}
use Rattle.spd_read.specs.Reading.{Refs, next_in, Read, ◌>>=◌, token_at, mark_at, repeat, inside, reads}
use Rattle.spd_syntax.specs.OneAhead.{when, is_empty, begins, one_ahead, goes_on, some, apart, within}
use Rattle.spd_syntax.specs.Limits.{opening, closing}
use Rattle.spd_syntax.proofs.KindSets.{both, not-true, not_in_parts, apart_from, within_in}
use Rattle.spd_parse.proofs.Marks.{mark_here}
use Rattle.spd_parse.proofs.Heads.{Begins, begins_each, heads}
use Rattle.spd_parse.proofs.Sound.{added}

abbrev pub IsLimit : StopKind → Type 0
IsLimit Expected = ⊥
IsLimit Literal = Unit {0}
IsLimit TooDeep = Unit {0}

-- The value is read up to what is left, or a limit is broken.
abbrev pub Fine : {A : Type 0} → A → List Seen → Read A → Type 0
Fine a r (Ok x) = x ≡ (a, r)
Fine a r (Err s) = IsLimit s.0

-- what stands next doesn't go on with a spelling
abbrev pub Stops : List TokenKind → List Seen → Type 0
Stops ks r = next_in ks r ≡ false

abbrev pub RefsFine : Option Refs → Spelling → Type 0
RefsFine None inner = Unit {0}
RefsFine (Some refs) inner = (rule : Nonterminal) (a : NonterminalValue rule) (us : List Seen) → inner rule a us → (t : Seen) (r : List Seen)
    → is_in (kind_of t.0) closing ≡ true → Fine a (t ∷ r) (refs rule (us ++ t ∷ r))

-- ---- what stands next

pub stops_left : (js ks : List TokenKind) (r : List Seen) → Stops (js ++ ks) r → Stops js r
stops_left js ks [] h = refl
stops_left js ks (t ∷ r) h = (not_in_parts (kind_of t.0) js ks h).0

pub stops_right : (js ks : List TokenKind) (r : List Seen) → Stops (js ++ ks) r → Stops ks r
stops_right js ks [] h = refl
stops_right js ks (t ∷ r) h = (not_in_parts (kind_of t.0) js ks h).1

-- What another part begins with doesn't go on with the one before.
stops_before : (goes ks : List TokenKind) (e : Bool) (us r : List Seen) → apart goes ks ≡ true → Begins e ks us → Stops (when e goes) r → Stops goes (us ++ r)
stops_before goes ks e [] r away h stop = subst (λ (b : Bool). Stops (when b goes) r) h stop
stops_before goes ks e (t ∷ us) r away h stop = apart_from (kind_of t.0) goes ks away h

-- ---- steps

then_fine : {A B : Type 0} (a : A) (b : B) (r s : List Seen) (o : Read A) (g : A × List Seen → Read B) → Fine a r o → Fine b s (g (a, r)) → Fine b s (o >>= g)
then_fine a b r s (Err e) g h k = h
then_fine a b r s (Ok x) g h k = rw h k

token_fine : {A : Type 0} (table : List (TokenKind × (List ℕ → ℕ → A))) (a : A) (us r : List Seen) → IsToken IsAnySymbol table a us
    → Fine a r (token_at table (us ++ r))
token_fine {A} table a us r s = rw (s.text, s.row) (by_size (is_great s.token.0))
  where
    by_size : (b : Bool) → Fine a r (cond {A = Read A} b (Err (Literal, s.token ∷ r)) (Ok (s.make (bytes_of s.token.0) s.token.1, r)))
    by_size true = tt
    by_size false = ap (λ (x : A). (x, r)) (sym s.value)

both_fine : {A B : Type 0} (P : (B → A) → List Seen → Type 0) (Q : B → List Seen → Type 0) (a : A) (us r : List Seen) (rp : List Seen → Read (B → A))
    (rq : List Seen → Read B) (s : AreBoth P Q a us)
    → Fine s.make (s.back ++ r) (rp (s.front ++ (s.back ++ r))) → Fine s.part r (rq (s.back ++ r))
    → Fine a r (rp (us ++ r) >>= λ f. rq f.1 >>= λ x. Ok (f.0 x.0, x.1))
both_fine {A} {B} P Q a us r rp rq s h g =
    rw (s.text, append_assoc s.front s.back r)
    (then_fine s.make a (s.back ++ r) r (rp (s.front ++ (s.back ++ r))) (λ f. rq f.1 >>= λ x. Ok (f.0 x.0, x.1)) h
    (then_fine s.part a r r (rq (s.back ++ r)) (λ x. Ok (s.make x.0, x.1)) g (ap (λ (x : A). (x, r)) (sym s.value))))

-- ---- any number of parts

more_fine : {A B : Type 0} (ks goes first : List TokenKind) (empty : Bool) (f : A → B → A) (Q : B → List Seen → Type 0) (rq : List Seen → Read B)
    → empty ≡ false → within first ks ≡ true → apart goes first ≡ true
    → ((b : B) (vs : List Seen) → Q b vs → Begins empty first vs)
    → ((b : B) (vs r : List Seen) → Q b vs → Stops goes r → Fine b r (rq (vs ++ r)))
    → (n : ℕ) (a : A) (bs : List (B × List Seen)) (r : List Seen) → EachPart Q bs → Stops ks r → Stops goes r → length (texts bs) ≤ n
    → Fine (folded f a bs) r (repeat ks (added f rq) n a (texts bs ++ r))
unfolding repeat
more_fine ks goes first empty f Q rq some inside away head fine zero a [] r each stop stop' le = refl
more_fine ks goes first empty f Q rq some inside away head fine (suc n) a [] r each stop stop' le = rw stop refl
more_fine ks goes first empty f Q rq some inside away head fine n a ((x, []) ∷ bs) r each stop stop' le = let yes : empty ≡ true = head x [] each.0 in absurd cc
more_fine ks goes first empty f Q rq some inside away head fine zero a ((x, t ∷ vs) ∷ bs) r each stop stop' le = absurd (omega (arith, le))
more_fine ks goes first empty f Q rq some inside away head fine (suc n) a ((x, t ∷ vs) ∷ bs) r each stop stop' le =
    rw (within_in (kind_of t.0) first ks inside (head x (t ∷ vs) each.0), append_assoc vs (texts bs) r)
    (then_fine (f a x) (folded f (f a x) bs) (texts bs ++ r) r (added f rq a (t ∷ (vs ++ (texts bs ++ r)))) (λ y. repeat ks (added f rq) n y.0 y.1)
    (then_fine x (f a x) (texts bs ++ r) (texts bs ++ r) (rq (t ∷ (vs ++ (texts bs ++ r)))) (λ y. Ok (f a y.0, y.1))
    (fine x (t ∷ vs) (texts bs ++ r) each.0 (stops_before goes first true (texts bs) r away (begins_each empty first Q bs head each.1) stop')) refl)
    (more_fine ks goes first empty f Q rq some inside away head fine n (f a x) bs r each.1 stop stop' (omega (arith, le, length-append vs (texts bs)))))

many_fine : {A B : Type 0} (ks goes first : List TokenKind) (empty : Bool) (f : A → B → A) (P : A → List Seen → Type 0) (Q : B → List Seen → Type 0) (a : A)
    (us r : List Seen) (rp : List Seen → Read A) (rq : List Seen → Read B) (s : AreMany f P Q a us)
    → empty ≡ false → within first ks ≡ true → apart goes first ≡ true
    → ((b : B) (vs : List Seen) → Q b vs → Begins empty first vs)
    → ((b : B) (vs r : List Seen) → Q b vs → Stops goes r → Fine b r (rq (vs ++ r)))
    → Fine s.base (texts s.parts ++ r) (rp (s.front ++ (texts s.parts ++ r))) → Stops ks r → Stops goes r
    → Fine a r (rp (us ++ r) >>= λ x. repeat ks (added f rq) (length x.1) x.0 x.1)
many_fine {A} {B} ks goes first empty f P Q a us r rp rq s some inside away head fine h stop stop' =
    rw (s.text, s.value, append_assoc s.front (texts s.parts) r)
    (then_fine s.base (folded f s.base s.parts) (texts s.parts ++ r) r (rp (s.front ++ (texts s.parts ++ r)))
    (λ x. repeat ks (added f rq) (length x.1) x.0 x.1) h
    (more_fine ks goes first empty f Q rq some inside away head fine (length (texts s.parts ++ r)) s.base s.parts r s.each stop stop'
    (omega (arith, length-append (texts s.parts) r))))

-- ---- a rule between brackets

module _ {A : Type 0} (inner : Spelling) (rule : Nonterminal) (o c : Mark) (f : ℕ → NonterminalValue rule → ℕ → A) where
  inside_fine : (refs : Option Refs) → RefsFine refs inner → is_in (kind.Mark c) closing ≡ true
      → (l l' : ℕ) (x : NonterminalValue rule) (us here r : List Seen) → inner rule x us
      → Fine (f l x l') r (inside refs rule here (us ++ (mark c, l') ∷ r) >>= λ y. mark_at c y.1 >>= λ l''. Ok (f l y.0 l''.0, l''.1))
  inside_fine None fine closes l l' x us here r is = tt
  inside_fine (Some refs) fine closes l l' x us here r is =
      then_fine x (f l x l') ((mark c, l') ∷ r) r (refs rule (us ++ (mark c, l') ∷ r)) (λ y. mark_at c y.1 >>= λ l''. Ok (f l y.0 l''.0, l''.1))
      (fine rule x us is (mark c, l') r closes)
      (rw (mark_here c l' r) refl)

  nest_fine : (refs : Option Refs) → RefsFine refs inner → is_in (kind.Mark c) closing ≡ true → (a : A) (us r : List Seen) → IsNested (inner rule) o c f a us
      → Fine a r (mark_at o (us ++ r) >>= λ l. inside refs rule (us ++ r) l.1 >>= λ x. mark_at c x.1 >>= λ l'. Ok (f l.0 x.0 l'.0, l'.1))
  nest_fine refs fine closes a us r s =
      rw (s.text, s.value, append_assoc s.middle ((mark c, s.end_line) ∷ []) r, mark_here o s.line (s.middle ++ (mark c, s.end_line) ∷ r))
      (inside_fine refs fine closes s.line s.end_line s.part s.middle ((mark o, s.line) ∷ (s.middle ++ (mark c, s.end_line) ∷ r)) r s.is)

-- ---- each shape

either_fine : {A : Type 0} (ks : List TokenKind) (a : A) (us r : List Seen) (o o' : Read A) → (next_in ks (us ++ r) ≡ true → Fine a r o)
    → (next_in ks (us ++ r) ≡ false → Fine a r o') → Fine a r (cond (next_in ks (us ++ r)) o o')
either_fine {A} ks a us r o o' h g = by_test (next_in ks (us ++ r)) h g
  where
    by_test : (b : Bool) → (b ≡ true → Fine a r o) → (b ≡ false → Fine a r o') → Fine a r (cond b o o')
    by_test true h g = h refl
    by_test false h g = g refl

-- the first of two begins with a token of its own
first_next : (ks first : List TokenKind) (e : Bool) (us r : List Seen) → e ≡ false → within first ks ≡ true → Begins e first us → next_in ks (us ++ r) ≡ true
first_next ks first e [] r some inside h = absurd cc
first_next ks first e (t ∷ us) r some inside h = within_in (kind_of t.0) first ks inside h

second_next : (ks first : List TokenKind) (e : Bool) (us r : List Seen) → apart ks first ≡ true → Begins e first us → Stops (when e ks) r
    → next_in ks (us ++ r) ≡ false
second_next ks first e us r away h stop = stops_before ks first e us r away h stop

module _ (refs : Option Refs) (inner : Spelling) (refs_fine : RefsFine refs inner) where
  pub fine : {A : Type 0} (p : Shape A) → one_ahead p ≡ true → (a : A) (us r : List Seen) → Spells IsAnySymbol inner p a us → Stops (goes_on p) r
      → Fine a r (reads refs p (us ++ r))
  fine (token table) fits a us r s stop = token_fine table a us r s
  fine (give b) fits a us r s stop = rw (s.0, s.1) refl
  fine (seq p q) fits a us r s stop =
      let h = both (one_ahead p) _ fits in
      let k = both (one_ahead q) _ h.1 in
      both_fine (Spells IsAnySymbol inner p) (Spells IsAnySymbol inner q) a us r (reads refs p) (reads refs q) s
      (fine p h.0 s.make s.front (s.back ++ r) s.first (stops_before (goes_on p) (begins q) (is_empty q) s.back r k.1 (heads inner q s.part s.back s.second)
      (stops_right (goes_on q) (when (is_empty q) (goes_on p)) r stop)))
      (fine q k.0 s.part s.back r s.second (stops_left (goes_on q) (when (is_empty q) (goes_on p)) r stop))
  fine (either ks p q) fits a us r (inl s) stop =
      let h = both (one_ahead p) _ fits in
      let k = both (one_ahead q) _ h.1 in
      let m = both (not (is_empty p)) _ k.1 in
      let n = both (within (begins p) ks) _ m.1 in
      rw (first_next ks (begins p) (is_empty p) us r (not-true (is_empty p) m.0) n.0 (heads inner p a us s))
      (fine p h.0 a us r s (stops_left (goes_on p) (goes_on q ++ when (is_empty q) ks) r stop))
  fine (either ks p q) fits a us r (inr s) stop =
      let h = both (one_ahead p) _ fits in
      let k = both (one_ahead q) _ h.1 in
      let m = both (not (is_empty p)) _ k.1 in
      let n = both (within (begins p) ks) _ m.1 in
      let rest = stops_right (goes_on p) (goes_on q ++ when (is_empty q) ks) r stop in
      rw (second_next ks (begins q) (is_empty q) us r n.1 (heads inner q a us s) (stops_right (goes_on q) (when (is_empty q) ks) r rest))
      (fine q k.0 a us r s (stops_left (goes_on q) (when (is_empty q) ks) r rest))
  fine (folds ks f p q) fits a us r s stop =
      let h = both (one_ahead p) _ fits in
      let k = both (one_ahead q) _ h.1 in
      let m = both (not (is_empty q)) _ k.1 in
      let n = both (within (begins q) ks) _ m.1 in
      let w = both (apart (goes_on p) (begins q)) _ n.1 in
      let rest = stops_right ks (goes_on p ++ goes_on q) r stop in
      many_fine ks (goes_on q) (begins q) (is_empty q) f (Spells IsAnySymbol inner p) (Spells IsAnySymbol inner q) a us r (reads refs p) (reads refs q) s
      (not-true (is_empty q) m.0) n.0 w.1 (λ b vs g. heads inner q b vs g) (λ b vs z g stopped. fine q k.0 b vs z g stopped)
      (fine p h.0 s.base s.front (texts s.parts ++ r) s.first (stops_before (goes_on p) (begins q) true (texts s.parts) r w.0
      (begins_each (is_empty q) (begins q) (Spells IsAnySymbol inner q) s.parts (λ b vs g. heads inner q b vs g) s.each)
      (stops_left (goes_on p) (goes_on q) r rest)))
      (stops_left ks (goes_on p ++ goes_on q) r stop) (stops_right (goes_on p) (goes_on q) r rest)
  fine (nest rule o c f) fits a us r s stop =
      let h = both (is_in (kind.Mark o) opening) _ fits in
      nest_fine inner rule o c f refs refs_fine h.1 a us r s
