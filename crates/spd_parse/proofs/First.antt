-- Both laws of reading by the grammar, and the first fault.
use Rattle.std.proofs.Common.{◌≡◌, ℕ, zero, suc, ◌+◌, true, List, [], ◌∷◌, ◌++◌, None, Result, Ok, Err, refl, sym, ◌∙◌, ap, subst, inl, append_assoc, arith}
use Rattle.std.proofs.lemmas.List.{append-nil}
use Rattle.spd_syntax.specs.declared.fault.ParseKind.TheVariants as fault
use Rattle.spd_read.specs.declared.reading.StopKind.{StopKind}
use Rattle.spd_read.specs.declared.reading.StopKind.TheVariants.{Expected, Literal, TooDeep}
use Rattle.spd_syntax.specs.Tokens.{Seen}
use Rattle.spd_syntax.specs.Symbols.{IsAnySymbol, kind_of}
use Rattle.spd_syntax.specs.Shape.{Shape, Spells}
use Rattle.spd_read.specs.Reading.{Stop, Read, inner_at, reads_at, nothing_left, to_the_end, reads_all}
use Rattle.spd_syntax.specs.OneAhead.{one_ahead, goes_on}
use Rattle.spd_syntax.specs.Limits.{closing, open_behind, open_with, broken, Keeps}
use Rattle.spd_syntax.specs.Grammar.{grammar}
use Rattle.spd_parse.specs.Stops.{fault_kind, IsByGrammar, IsFirstStop}
use Rattle.spd_syntax.specs.Faults.{nested, Begins, IsFault}
use Rattle.spd_syntax.proofs.KindSets.{apart_from}
use Rattle.spd_parse.proofs.Examples.{Examples, example}
use Rattle.spd_parse.proofs.Sound.{Found, Stopped, Told, RefsTold, told}
use Rattle.spd_parse.proofs.Complete.{IsLimit, Fine, RefsFine, fine}
use Rattle.spd_parse.proofs.Near.{Alike, RefsNear, near}
use Rattle.spd_syntax.proofs.OneToken.{grammar_ahead, grammar_ends, grammar_plain}

-- ---- the rules between brackets

examples_at : (m : ℕ) → Examples (nested IsAnySymbol (suc m))
examples_at m = λ rule. example (nested IsAnySymbol m) (grammar rule) (grammar_ahead rule) (inl (grammar_plain rule))

refs_told : (limit depth n : ℕ) → n + depth ≡ limit → RefsTold limit (inner_at depth) (nested IsAnySymbol (suc depth)) n
refs_told limit zero n e = omega (arith, e)
refs_told limit (suc depth) n e = (
  omega (arith, e),
  λ rule ts. told limit (inner_at depth) (nested IsAnySymbol (suc depth)) (suc n)
      (refs_told limit depth (suc n) (omega (arith, e))) (examples_at depth) (grammar rule) (grammar_ahead rule) ts,
)

refs_fine : (depth m : ℕ) → RefsFine (inner_at depth) (nested IsAnySymbol m)
refs_fine zero m = tt
refs_fine (suc depth) zero = λ rule a us is t r closes. absurd is
refs_fine (suc depth) (suc m) = λ rule a us is t r closes. fine (inner_at depth) (nested IsAnySymbol m) (refs_fine depth m) (grammar rule)
    (grammar_ahead rule) a us (t ∷ r) is (apart_from (kind_of t.0) (goes_on (grammar rule)) closing (grammar_ends rule) closes)

refs_near : (limit : ℕ) (t : Seen) (r s : List Seen) (depth n : ℕ) → n + depth ≡ limit → RefsNear limit t r s (inner_at depth)
refs_near limit t r s zero n e = tt
refs_near limit t r s (suc depth) n e = λ rule us. near limit t r s (inner_at depth) (nested IsAnySymbol (suc depth)) (suc n)
    (refs_told limit depth (suc n) (omega (arith, e))) (refs_near limit t r s depth (suc n) (omega (arith, e))) (examples_at depth) (grammar rule)
    (grammar_ahead rule) us

-- ---- limits

-- Tokens that keep the limits have none that breaks one.
pub unbroken : (limit n : ℕ) (us : List Seen) (t : Seen) (vs : List Seen) → Keeps limit n (us ++ t ∷ vs) → broken limit (open_behind n us) t.0 ≡ None
unbroken limit n [] t vs k = k.0
unbroken limit n (u ∷ us) t vs k = unbroken limit (open_with n u.0) us t vs k.1

-- Tokens that begin something and keep the limits have no fault.
pub no_fault : {A : Type 0} (p : Shape A) (limit : ℕ) (us rest : List Seen) → Keeps limit 0 us → Begins p us
    → (other : StopKind) (vs : List Seen) (t : Seen) (ws : List Seen) → us ≡ vs ++ t ∷ ws → IsFault p limit (fault_kind other) vs (t ∷ (ws ++ rest)) → ⊥
no_fault p limit us rest keeps begins Expected vs t ws e h =
    h.1 (record {
      value = begins.value;
      more = ws ++ begins.more;
      is = subst (λ (z : List Seen). IsByGrammar p begins.value z)
          (ap (λ (z : List Seen). z ++ begins.more) e ∙ append_assoc vs (t ∷ ws) begins.more ∙ sym (append_assoc vs (t ∷ []) (ws ++ begins.more))) begins.is;
    })
no_fault p limit us rest keeps begins Literal vs t ws e h = let none = unbroken limit 0 vs t ws (subst (λ (z : List Seen). Keeps limit 0 z) e keeps) in
    absurd cc
no_fault p limit us rest keeps begins TooDeep vs t ws e h = let none = unbroken limit 0 vs t ws (subst (λ (z : List Seen). Keeps limit 0 z) e keeps) in
    absurd cc

module _ {A : Type 0} (p : Shape A) (ahead : one_ahead p ≡ true) (depth : ℕ) where
  all_told : (ts : List Seen) → Told depth 0 (Spells IsAnySymbol (nested IsAnySymbol (suc depth)) p) ts (reads_at depth p ts)
  all_told ts = told depth (inner_at depth) (nested IsAnySymbol (suc depth)) 0 (refs_told depth depth 0 (omega arith)) (examples_at depth) p ahead ts

  -- What is spelled is read to its end, unless it breaks a limit.
  all_fine : (a : A) (ts : List Seen) → IsByGrammar p a ts → Fine a [] (reads_at depth p ts)
  all_fine a ts s = subst (λ (z : List Seen). Fine a [] (reads_at depth p z)) (append-nil ts)
      (fine (inner_at depth) (nested IsAnySymbol s.brackets) (refs_fine depth s.brackets) p ahead a ts [] s.is refl)

  all_near : (t : Seen) (r s us : List Seen) → Alike depth t r s (reads_at depth p (us ++ t ∷ r)) (reads_at depth p (us ++ t ∷ s))
  all_near t r s us = near depth t r s (inner_at depth) (nested IsAnySymbol (suc depth)) 0 (refs_told depth depth 0 (omega arith))
      (refs_near depth t r s depth 0 (omega arith)) (examples_at depth) p ahead us

  -- What is read is spelled so.
  pub found : (ts : List Seen) (a : A) → reads_all depth p ts ≡ Ok a → IsByGrammar p a ts
  unfolding reads_all
  found ts a e = by_answer (reads_at depth p ts) (all_told ts) e
    where
      by_rest : (x : A) (r : List Seen) → Found depth 0 (Spells IsAnySymbol (nested IsAnySymbol (suc depth)) p) ts (x, r) → nothing_left x r ≡ Ok a
          → IsByGrammar p a ts
      by_rest x [] h e = let same : x ≡ a = cc in record {
        brackets = suc depth;
        is =
            subst (λ (z : List Seen). Spells IsAnySymbol (nested IsAnySymbol (suc depth)) p a z) (sym (h.parts ∙ append-nil h.front))
            (subst (λ (b : A). Spells IsAnySymbol (nested IsAnySymbol (suc depth)) p b h.front) same h.is);
      }
      by_rest x (t ∷ r) h e = absurd cc

      by_answer : (o : Read A) → Told depth 0 (Spells IsAnySymbol (nested IsAnySymbol (suc depth)) p) ts o → to_the_end o ≡ Ok a → IsByGrammar p a ts
      by_answer (Ok x) h e = by_rest x.0 x.1 h e
      by_answer (Err s) h e = absurd cc

  abbrev pub IsReadAs : A → Result A Stop → Type 0
  IsReadAs a (Ok x) = x ≡ a
  IsReadAs a (Err s) = IsLimit s.0

  -- What is spelled so is read, unless it breaks a limit.
  pub only : (ts : List Seen) (a : A) → IsByGrammar p a ts → IsReadAs a (reads_all depth p ts)
  unfolding reads_all
  only ts a s = by_answer (reads_at depth p ts) (all_fine a ts s)
    where
      by_answer : (o : Read A) → Fine a [] o → IsReadAs a (to_the_end o)
      by_answer (Ok x) h = rw h refl
      by_answer (Err s) h = h

  -- Where reading stops behind tokens that are expected, those with the next begin nothing.
  begins_none : (t : Seen) (r us : List Seen) → ((s : List Seen) (a : A) → Fine a [] (reads_at depth p (us ++ t ∷ s)) → ⊥) → Begins p (us ++ t ∷ []) → ⊥
  begins_none t r us wrong b = wrong b.more b.value (subst (λ (z : List Seen). Fine b.value [] (reads_at depth p z)) (append_assoc us (t ∷ []) b.more)
      (all_fine b.value ((us ++ t ∷ []) ++ b.more) b.is))

  -- what reading up to a token shows of other texts that begin so
  elsewhere : (o : Read A) (t : Seen) (r us : List Seen) → reads_at depth p (us ++ t ∷ r) ≡ o → (s : List Seen)
      → Alike depth t r s o (reads_at depth p (us ++ t ∷ s))
  elsewhere o t r us is s = subst (λ (q : Read A). Alike depth t r s q (reads_at depth p (us ++ t ∷ s))) is (all_near t r s us)

  -- a value was read, and a token is left
  left_over : (ts : List Seen) (x : A) (t : Seen) (r : List Seen) → reads_at depth p ts ≡ Ok (x, t ∷ r)
      → Found depth 0 (Spells IsAnySymbol (nested IsAnySymbol (suc depth)) p) ts (x, t ∷ r) → IsFirstStop p depth ts Expected (t ∷ r)
  left_over ts x t r is h =
      record {
        before = h.front;
        parts = h.parts;
        is = (begins, begins_none t r h.front wrong);
        none_before =
            λ other us u vs. no_fault p depth h.front (t ∷ r) h.kept.0 begins other us u vs;
        expected_first = λ _. refl;
      }
    where
      begins : Begins p h.front
      begins = record {
        value = x;
        more = [];
        is = record {
          brackets = suc depth;
          is =
              subst (λ (z : List Seen). Spells IsAnySymbol (nested IsAnySymbol (suc depth)) p x z) (sym (append-nil h.front)) h.is;
        };
      }

      wrong : (s : List Seen) (a : A) → Fine a [] (reads_at depth p (h.front ++ t ∷ s)) → ⊥
      wrong s a f =
          let same : reads_at depth p (h.front ++ t ∷ s) ≡ Ok (x, t ∷ s) =
          elsewhere (Ok (x, t ∷ r)) t r h.front (ap (λ (z : List Seen). reads_at depth p z) (sym h.parts) ∙ is) s [] refl in
          let none : (x, t ∷ s) ≡ (a, []) = subst (λ (q : Read A). Fine a [] q) same f in
          let gone : t ∷ s ≡ [] = ap (λ (y : A × List Seen). y.1) none in
          absurd cc

  -- reading stopped
  stopped : (ts : List Seen) (kind : StopKind) (rest : List Seen) → reads_at depth p ts ≡ Err (kind, rest)
      → Stopped depth 0 (Spells IsAnySymbol (nested IsAnySymbol (suc depth)) p) ts (kind, rest) → IsFirstStop p depth ts kind rest
  stopped ts Expected [] is h =
      record {
        before = h.front;
        parts = h.parts;
        is = (begins, none);
        none_before =
            λ other us u vs. no_fault p depth h.front [] h.kept.0 begins other us u vs;
        expected_first = λ _. refl;
      }
    where
      begins : Begins p h.front
      begins = record {
        value = h.begun.value;
        more = h.begun.more;
        is =
            record {
              brackets = suc depth;
              is = subst (λ (z : List Seen). Spells IsAnySymbol (nested IsAnySymbol (suc depth)) p h.begun.value
                  (z ++ h.begun.more)) (append-nil h.front) h.begun.is;
            };
      }

      none : (a : A) → IsByGrammar p a h.front → ⊥
      none a s =
          let whole : h.front ≡ ts = sym (h.parts ∙ append-nil h.front) in
          subst (λ (q : Read A). Fine a [] q) (ap (λ (z : List Seen). reads_at depth p z) whole ∙ is) (all_fine a h.front s)
  stopped ts Expected (t ∷ r) is h =
      record {
        before = h.front;
        parts = h.parts;
        is = (begins, begins_none t r h.front wrong);
        none_before =
            λ other us u vs. no_fault p depth h.front (t ∷ r) h.kept.0 begins other us u vs;
        expected_first = λ _. refl;
      }
    where
      begins : Begins p h.front
      begins = record {
        value = h.begun.value;
        more = h.begun.more;
        is =
            record {
              brackets = suc depth;
              is = subst (λ (z : List Seen). Spells IsAnySymbol (nested IsAnySymbol (suc depth)) p h.begun.value
                  (z ++ h.begun.more)) (append-nil h.front) h.begun.is;
            };
      }

      wrong : (s : List Seen) (a : A) → Fine a [] (reads_at depth p (h.front ++ t ∷ s)) → ⊥
      wrong s a f =
          let same : reads_at depth p (h.front ++ t ∷ s) ≡ Err (Expected, t ∷ s) =
          elsewhere (Err (Expected, t ∷ r)) t r h.front (ap (λ (z : List Seen). reads_at depth p z) (sym h.parts) ∙ is) s [] refl in
          subst (λ (q : Read A). Fine a [] q) same f
  stopped ts Literal [] is h = absurd h.breaks
  stopped ts Literal (t ∷ r) is h =
      record {
        before = h.front;
        parts = h.parts;
        is = rw h.kept.1 h.breaks;
        none_before =
            λ other us u vs. no_fault p depth h.front (t ∷ r) h.kept.0 begins other us u vs;
        expected_first = λ no. absurd (no.1 more);
      }
    where
      more : Begins p (h.front ++ t ∷ [])
      more = record { value = h.begun.value; more = h.begun.more; is = record { brackets = suc depth; is = h.begun.is } }

      begins : Begins p h.front
      begins = record {
        value = h.begun.value;
        more = t ∷ h.begun.more;
        is =
            record {
              brackets = suc depth;
              is = subst (λ (z : List Seen). Spells IsAnySymbol (nested IsAnySymbol (suc depth)) p h.begun.value z)
                  (append_assoc h.front (t ∷ []) h.begun.more) h.begun.is;
            };
      }
  stopped ts TooDeep [] is h = absurd h.breaks
  stopped ts TooDeep (t ∷ r) is h =
      record {
        before = h.front;
        parts = h.parts;
        is = rw h.kept.1 h.breaks;
        none_before =
            λ other us u vs. no_fault p depth h.front (t ∷ r) h.kept.0 begins other us u vs;
        expected_first = λ no. absurd (no.1 more);
      }
    where
      more : Begins p (h.front ++ t ∷ [])
      more = record { value = h.begun.value; more = h.begun.more; is = record { brackets = suc depth; is = h.begun.is } }

      begins : Begins p h.front
      begins = record {
        value = h.begun.value;
        more = t ∷ h.begun.more;
        is =
            record {
              brackets = suc depth;
              is = subst (λ (z : List Seen). Spells IsAnySymbol (nested IsAnySymbol (suc depth)) p h.begun.value z)
                  (append_assoc h.front (t ∷ []) h.begun.more) h.begun.is;
            };
      }

  -- The fault that is answered is the first one.
  pub first : (ts : List Seen) (kind : StopKind) (rest : List Seen) → reads_all depth p ts ≡ Err (kind, rest) → IsFirstStop p depth ts kind rest
  unfolding reads_all
  first ts kind rest e = by_answer (reads_at depth p ts) refl (all_told ts) e
    where
      by_rest : (x : A) (r : List Seen) → reads_at depth p ts ≡ Ok (x, r) → Found depth 0 (Spells IsAnySymbol (nested IsAnySymbol (suc depth)) p) ts (x, r)
          → nothing_left x r ≡ Err (kind, rest) → IsFirstStop p depth ts kind rest
      by_rest x [] is h e = absurd cc
      by_rest x (t ∷ r) is h e = let same : (Expected, t ∷ r) ≡ (kind, rest) = cc in
          subst (λ (s : Stop). IsFirstStop p depth ts s.0 s.1) same (left_over ts x t r is h)

      by_answer : (o : Read A) → reads_at depth p ts ≡ o → Told depth 0 (Spells IsAnySymbol (nested IsAnySymbol (suc depth)) p) ts o
          → to_the_end o ≡ Err (kind, rest) → IsFirstStop p depth ts kind rest
      by_answer (Ok x) is h e = by_rest x.0 x.1 is h e
      by_answer (Err s) is h e = let same : s ≡ (kind, rest) = cc in subst (λ (s : Stop). IsFirstStop p depth ts s.0 s.1) same (stopped ts s.0 s.1 is h)

  -- What is read keeps the limits.
  pub kept : (ts : List Seen) (a : A) → reads_all depth p ts ≡ Ok a → Keeps depth 0 ts
  unfolding reads_all
  kept ts a e = by_answer (reads_at depth p ts) (all_told ts) e
    where
      by_rest : (x : A) (r : List Seen) → Found depth 0 (Spells IsAnySymbol (nested IsAnySymbol (suc depth)) p) ts (x, r) → nothing_left x r ≡ Ok a
          → Keeps depth 0 ts
      by_rest x [] h e = subst (λ (z : List Seen). Keeps depth 0 z) (sym (h.parts ∙ append-nil h.front)) h.kept.0
      by_rest x (t ∷ r) h e = absurd cc

      by_answer : (o : Read A) → Told depth 0 (Spells IsAnySymbol (nested IsAnySymbol (suc depth)) p) ts o → to_the_end o ≡ Ok a → Keeps depth 0 ts
      by_answer (Ok x) h e = by_rest x.0 x.1 h e
      by_answer (Err s) h e = absurd cc
