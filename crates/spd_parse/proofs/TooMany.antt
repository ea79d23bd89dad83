-- The first token that is one too many, and the first fault of all.
use Rattle.std.proofs.Common.{◌≡◌, ℕ, suc, ◌+◌, ◌<◌, List, [], ◌∷◌, ◌++◌, length, drop, Option, Some, None, refl, sym, ◌∙◌, ap, subst, inl, inr, ◌⊎◌, arith, get_or, add-one, drop-cons}
use Rattle.spd_syntax.specs.declared.fault.ParseKind.{ParseKind}
use Rattle.spd_syntax.specs.declared.fault.ParseKind.TheVariants as fault
use Rattle.spd_syntax.specs.declared.fault.ParseFault.{ParseFault}
use Rattle.spd_syntax.specs.declared.counts.Counts.{Counts}
use Rattle.spd_syntax.specs.declared.token.Token.{Token}
use Rattle.spd_syntax.specs.Tokens.{Seen, seen}
use Rattle.spd_syntax.specs.Symbols.{all_seen}
use Rattle.spd_syntax.specs.Shape.{Shape}
use Rattle.spd_syntax.specs.Grammar.{program}
use Rattle.spd_syntax.specs.Limits.{counts_with, counts_behind, and_then, no_counts, KeepsCounts, IsOneTooMany}
use Rattle.spd_syntax.specs.Faults.{Begins, IsFault, NoFaultBefore, IsFirstFault, line_at}
use Rattle.spd_read.specs.declared.reading.StopKind.{StopKind}
use Rattle.spd_read.specs.declared.reading.StopKind.TheVariants.{Expected, Literal, TooDeep}
use Rattle.spd_parse.specs.Counting.{first_over}
use Rattle.spd_parse.specs.Stops.{fault_kind, IsFirstStop}

-- ---- where it stands

-- the tokens are split there
pub record Split (c : Counts) (ts : List Seen) : Type 0 where
  pub before : List Seen
  pub token : Seen
  pub after : List Seen
  pub counts : Counts
  pub parts : ts ≡ before ++ token ∷ after
  pub place : first_over c ts ≡ length before
  pub counted : counts_behind c before ≡ Some counts
  pub over : counts_with counts token.0 ≡ None

-- or there is none
pub record Whole (c : Counts) (ts : List Seen) : Type 0 where
  pub counts : Counts
  pub place : first_over c ts ≡ length ts
  pub counted : counts_behind c ts ≡ Some counts

pub split : (c : Counts) (ts : List Seen) → Split c ts ⊎ Whole c ts
unfolding first_over
split c [] = inr (record { counts = c; place = refl; counted = refl })
split c (s ∷ r) = by_token (counts_with c s.0) refl (λ d. split d r)
  where
    more : (d : Counts) → counts_with c s.0 ≡ Some d → Split d r ⊎ Whole d r → Split c (s ∷ r) ⊎ Whole c (s ∷ r)
    more d is (inl h) = inl (record {
      before = s ∷ h.before;
      token = h.token;
      after = h.after;
      counts = h.counts;
      parts =
          ap (λ (z : List Seen). s ∷ z) h.parts;
      place = rw is (ap suc h.place);
      counted = rw is h.counted;
      over = h.over;
    })
    more d is (inr h) = inr (record { counts = h.counts; place = rw is (ap suc h.place); counted = rw is h.counted })

    by_token : (o : Option Counts) → counts_with c s.0 ≡ o → ((d : Counts) → Split d r ⊎ Whole d r) → Split c (s ∷ r) ⊎ Whole c (s ∷ r)
    by_token None is go = inl (record { before = []; token = s; after = r; counts = c; parts = refl; place = rw is refl; counted = refl; over = is })
    by_token (Some d) is go = more d is (go d)

pub one_more : (c d : Counts) (text : List ℕ) (ts : List Token) (i : ℕ) (t : Token) → i < length ts → counts_with c (seen text (get_or ts i t)).0 ≡ Some d
    → first_over c (all_seen text (drop i ts)) ≡ 1 + first_over d (all_seen text (drop (i + 1) ts))
unfolding first_over
one_more c d text ts i t h is = rw (add-one, drop-cons ts i t h, is) (omega arith)

-- ---- no token before it is one too many

front_counts : (c : Counts) (us vs : List Seen) (d : Counts) → counts_behind c (us ++ vs) ≡ Some d → (x : Counts) × (counts_behind c us ≡ Some x)
front_counts c [] vs d e = (c, refl)
front_counts c (t ∷ us) vs d e = by_token (counts_with c t.0) e (λ x h. front_counts x us vs d h)
  where
    by_token : (o : Option Counts) → and_then o (λ x. counts_behind x (us ++ vs)) ≡ Some d
        → ((x : Counts) → counts_behind x (us ++ vs) ≡ Some d → (y : Counts) × (counts_behind x us ≡ Some y))
        → (y : Counts) × (and_then o (λ x. counts_behind x us) ≡ Some y)
    by_token None e go = absurd cc
    by_token (Some x) e go = go x e

pub front_keeps : (us vs : List Seen) → KeepsCounts (us ++ vs) → KeepsCounts us
front_keeps us vs k = let x = front_counts no_counts us vs k.counts k.counted in record { counts = x.0; counted = x.1 }

over_none : (c d : Counts) (us : List Seen) (t : Seen) (vs : List Seen) → counts_behind c us ≡ Some d → counts_with d t.0 ≡ None
    → counts_behind c (us ++ t ∷ vs) ≡ None
over_none c d [] t vs e over = let same : c ≡ d = cc in rw (same, over) refl
over_none c d (u ∷ us) t vs e over = by_token (counts_with c u.0) e (λ x h. over_none x d us t vs h over)
  where
    by_token : (o : Option Counts) → and_then o (λ x. counts_behind x us) ≡ Some d
        → ((x : Counts) → counts_behind x us ≡ Some d → counts_behind x (us ++ t ∷ vs) ≡ None) → and_then o (λ x. counts_behind x (us ++ t ∷ vs)) ≡ None
    by_token None e go = refl
    by_token (Some x) e go = go x e

pub not_over : (before us : List Seen) (t : Seen) (vs : List Seen) → KeepsCounts before → before ≡ us ++ t ∷ vs → IsOneTooMany us t.0 → ⊥
not_over before us t vs k e h =
    let none = over_none no_counts h.kept.counts us t vs h.kept.counted h.over in
    let some : counts_behind no_counts (us ++ t ∷ vs) ≡ Some k.counts = subst (λ (z : List Seen). counts_behind no_counts z ≡ Some k.counts) e k.counted in
    absurd cc

-- ---- the first fault of all

all_before : {A : Type 0} (p : Shape A) (depth : ℕ) (before rest : List Seen) → KeepsCounts before
    → ((other : StopKind) (us : List Seen) (t : Seen) (vs : List Seen) → before ≡ us ++ t ∷ vs → IsFault p depth (fault_kind other) us (t ∷ (vs ++ rest))
    → ⊥) → NoFaultBefore p depth before rest
all_before p depth before rest k h fault.Expected us t vs e f = h Expected us t vs e f
all_before p depth before rest k h fault.Literal us t vs e f = h Literal us t vs e f
all_before p depth before rest k h fault.TooDeep us t vs e f = h TooDeep us t vs e f
all_before p depth before rest k h fault.TooMany us t vs e f = not_over before us t vs k e f
all_before p depth before rest k h fault.NoMemory us t vs e f = f

-- A stop before which no token is one too many is the first fault.
pub of_stop : (ts : List Seen) (kind : StopKind) (rest : List Seen) (h : IsFirstStop program 32 ts kind rest) → KeepsCounts h.before → (f : ParseFault)
    → f.kind ≡ fault_kind kind → f.line ≡ line_at h.before rest → IsFirstFault ts f
of_stop ts kind rest h k f is line =
    record {
      before = h.before;
      rest = rest;
      parts = h.parts;
      is = subst (λ (j : ParseKind). IsFault program 32 j h.before rest) (sym is) h.is;
      none_before = all_before program 32 h.before rest k h.none_before;
      expected_first = λ g. is ∙ ap fault_kind (h.expected_first g);
      line = line;
    }

-- A token that is one too many is the first fault where it goes on with what is no fault.
pub of_too_many : (ts front : List Seen) (t : Seen) (after : List Seen) → ts ≡ front ++ t ∷ after → IsOneTooMany front t.0 → Begins program (front ++ t ∷ [])
    → ((other : StopKind) (us : List Seen) (u : Seen) (vs : List Seen) → front ≡ us ++ u ∷ vs
    → IsFault program 32 (fault_kind other) us (u ∷ (vs ++ t ∷ after)) → ⊥)
    → (f : ParseFault) → f.kind ≡ fault.TooMany → f.line ≡ t.1 → IsFirstFault ts f
of_too_many ts front t after parts over begins none f is line =
    record {
      before = front;
      rest = t ∷ after;
      parts = parts;
      is = subst (λ (j : ParseKind). IsFault program 32 j front (t ∷ after)) (sym is) over;
      none_before = all_before program 32 front (t ∷ after) over.kept none;
      expected_first = λ g. absurd (g.1 begins);
      line = line;
    }

pub line_same : (ts before rest : List Seen) → ts ≡ before ++ rest → line_at ts rest ≡ line_at before rest
line_same ts before (t ∷ r) e = refl
line_same ts before [] e = ap (λ (z : List Seen). line_at z []) (e ∙ nothing before)
  where
    nothing : (us : List Seen) → us ++ [] ≡ us
    nothing [] = refl
    nothing (u ∷ us) = ap (λ (z : List Seen). u ∷ z) (nothing us)
