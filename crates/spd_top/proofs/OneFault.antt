-- Tokens have one first fault at most, and none where they spell a program within the limits.
use Rattle.std.proofs.Common.{◌≡◌, ◌∙◌, ◌⊎◌, inl, inr, ℕ, List, [], ◌∷◌, ◌++◌, Option, Some, None, refl, sym, ap, subst, append_assoc}
use Rattle.std.proofs.lemmas.List.{append-nil}
use Rattle.spd_syntax.specs.declared.token.Word.TheVariants as w
use Rattle.spd_syntax.specs.declared.token.Mark.TheVariants as m
use Rattle.spd_syntax.specs.declared.counts.Counts.{Counts}
use Rattle.spd_syntax.specs.declared.fault.ParseFault.{ParseFault}
use Rattle.spd_syntax.specs.declared.fault.ParseKind.{ParseKind}
use Rattle.spd_syntax.specs.declared.fault.ParseKind.TheVariants.{Expected, Literal, TooDeep, TooMany, NoMemory}
use Rattle.spd_syntax.specs.declared.tree.Program.{Program}
use Rattle.spd_syntax.specs.Tokens.{Symbol, name, number, lit, word, mark, Seen}
use Rattle.spd_syntax.specs.Symbols.{IsAnySymbol, same_mark}
use Rattle.spd_syntax.specs.Grammar.{program}
use Rattle.spd_syntax.specs.Limits.{max_depth, open_with, open_behind, broken, Keeps, KeepsLimits, counts_with, counts_behind, no_counts, and_then}
use Rattle.spd_syntax.specs.Faults.{IsSpelled, IsSpelledBy, IsFault, NoFaultBefore, line_at, IsFirstFault}
use Rattle.spd_syntax.proofs.Fitting.{by_grammar}

-- ---- two beginnings of one list

-- One of two beginnings is a beginning of the other, or they are the same.
abbrev Longer : List Seen → List Seen → List Seen → List Seen → Type 0
Longer before rest before' rest' = (t : Seen) × (vs : List Seen) × (before' ≡ before ++ t ∷ vs) × (rest ≡ t ∷ (vs ++ rest'))

abbrev Compared : List Seen → List Seen → List Seen → List Seen → Type 0
Compared before rest before' rest' = ((before ≡ before') × (rest ≡ rest')) ⊎ (Longer before rest before' rest' ⊎ Longer before' rest' before rest)

compared : (before rest before' rest' : List Seen) → before ++ rest ≡ before' ++ rest' → Compared before rest before' rest'
compared [] rest [] rest' e = inl (refl, e)
compared [] rest (t ∷ us) rest' e = inr (inl (t, us, refl, e))
compared (t ∷ us) rest [] rest' e = inr (inr (t, us, refl, sym e))
compared (t ∷ us) rest (t' ∷ us') rest' e =
    let tails : us ++ rest ≡ us' ++ rest' = cc in
    let heads : t ≡ t' = cc in
    go heads (compared us rest us' rest' tails)
  where
    go : t ≡ t' → Compared us rest us' rest' → Compared (t ∷ us) rest (t' ∷ us') rest'
    go h (inl s) = inl (cc, s.1)
    go h (inr (inl s)) = inr (inl (s.0, s.1, cc, s.3))
    go h (inr (inr s)) = inr (inr (s.0, s.1, cc, s.3))

-- ---- one fault at a place

-- No token breaks a limit by itself and is one too many as well.
apart_limits : (n : ℕ) (c : Counts) (s : Symbol) (k : ParseKind) → broken max_depth n s ≡ Some k → counts_with c s ≡ None → ⊥
unfolding counts_with same_mark
apart_limits n c (name z) k e f = cc
apart_limits n c (number z) k e f = cc
apart_limits n c (lit z) k e f = cc
apart_limits n c (word w.Fn) k e f = cc
apart_limits n c (word _) k e f = cc
apart_limits n c (mark m.LeftBrace) k e f = cc
apart_limits n c (mark _) k e f = cc

same_kind_at : (before rest : List Seen) (j k : ParseKind) → IsFault program max_depth j before rest → IsFault program max_depth k before rest
    → (IsFault program max_depth Expected before rest → j ≡ Expected) → (IsFault program max_depth Expected before rest → k ≡ Expected) → j ≡ k
same_kind_at before rest Expected k f g je ke = sym (ke f)
same_kind_at before rest j Expected f g je ke = je g
same_kind_at before [] Literal k f g je ke = absurd f
same_kind_at before [] TooDeep k f g je ke = absurd f
same_kind_at before [] TooMany k f g je ke = absurd f
same_kind_at before rest NoMemory k f g je ke = absurd f
same_kind_at before rest j NoMemory f g je ke = absurd g
same_kind_at before (t ∷ r) Literal Literal f g je ke = refl
same_kind_at before (t ∷ r) Literal TooDeep f g je ke = absurd cc
same_kind_at before (t ∷ r) Literal TooMany f g je ke = absurd (apart_limits (open_behind 0 before) g.kept.counts t.0 Literal f g.over)
same_kind_at before (t ∷ r) TooDeep Literal f g je ke = absurd cc
same_kind_at before (t ∷ r) TooDeep TooDeep f g je ke = refl
same_kind_at before (t ∷ r) TooDeep TooMany f g je ke = absurd (apart_limits (open_behind 0 before) g.kept.counts t.0 TooDeep f g.over)
same_kind_at before (t ∷ r) TooMany Literal f g je ke = absurd (apart_limits (open_behind 0 before) f.kept.counts t.0 Literal g f.over)
same_kind_at before (t ∷ r) TooMany TooDeep f g je ke = absurd (apart_limits (open_behind 0 before) f.kept.counts t.0 TooDeep g f.over)
same_kind_at before (t ∷ r) TooMany TooMany f g je ke = refl

-- ---- one first fault

same_fault : (f g : ParseFault) → f.line ≡ g.line → f.kind ≡ g.kind → f ≡ g
same_fault f g lines kinds = ap (λ (l : ℕ). record { line = l; kind = f.kind }) lines ∙ ap (λ (k : ParseKind). record { line = g.line; kind = k }) kinds

none_longer : (before rest before' rest' : List Seen) (kind : ParseKind) → IsFault program max_depth kind before rest → NoFaultBefore program max_depth before' rest' → Longer before rest before' rest' → ⊥
none_longer before rest before' rest' kind is none l = none kind before l.0 l.1 l.2 (subst (λ r. IsFault program max_depth kind before r) l.3 is)

pub one_first_fault : (ts : List Seen) (f g : ParseFault) → IsFirstFault ts f → IsFirstFault ts g → f ≡ g
one_first_fault ts f g a b = by_place (compared a.before a.rest b.before b.rest (sym a.parts ∙ b.parts))
  where
    by_place : Compared a.before a.rest b.before b.rest → f ≡ g
    by_place (inl s) =
        let same : f.kind ≡ g.kind = same_kind_at a.before a.rest f.kind g.kind a.is (rw (sym s.0, sym s.1) at b.is) a.expected_first (rw (sym s.0, sym s.1) at b.expected_first) in
        let place : line_at a.before a.rest ≡ line_at b.before b.rest = cc (s.0, s.1) in
        let lines : f.line ≡ g.line = a.line ∙ (place ∙ sym b.line) in
        same_fault f g lines same
    by_place (inr (inl l)) = absurd (none_longer a.before a.rest b.before b.rest f.kind a.is b.none_before l)
    by_place (inr (inr l)) = absurd (none_longer b.before b.rest a.before a.rest g.kind b.is a.none_before l)

-- ---- no fault of what is spelled within the limits

keeps_at : (limit n : ℕ) (before : List Seen) (t : Seen) (r : List Seen) → Keeps limit n (before ++ t ∷ r) → broken limit (open_behind n before) t.0 ≡ None
keeps_at limit n [] t r k = k.0
keeps_at limit n (u ∷ us) t r k = keeps_at limit (open_with n u.0) us t r k.1

-- Behind tokens of which none is one too many, the next isn't one either.
counts_at : (c d e : Counts) (before : List Seen) (t : Seen) (r : List Seen) → counts_behind c (before ++ t ∷ r) ≡ Some e → counts_behind c before ≡ Some d → counts_with d t.0 ≡ None → ⊥
counts_at c d e [] t r all kept over =
    let same : c ≡ d = cc in
    let none : counts_with c t.0 ≡ None = ap (λ x. counts_with x t.0) same ∙ over in
    let gone : counts_behind c (t ∷ r) ≡ None = ap (λ o. and_then o (λ x. counts_behind x r)) none in
    absurd cc
counts_at c d e (u ∷ us) t r all kept over = by_first (λ x. counts_at x d e us t r) (counts_with c u.0) all kept
  where
    by_first : ((x : Counts) → counts_behind x (us ++ t ∷ r) ≡ Some e → counts_behind x us ≡ Some d → counts_with d t.0 ≡ None → ⊥)
        → (o : Option Counts) → and_then o (λ y. counts_behind y (us ++ t ∷ r)) ≡ Some e → and_then o (λ y. counts_behind y us) ≡ Some d → ⊥
    by_first behind None a k = absurd cc
    by_first behind (Some x) a k = behind x a k over

pub spelled_has_no_fault : (ts : List Seen) (tree : Program) (fault : ParseFault) → IsSpelled program tree ts → KeepsLimits ts → IsFirstFault ts fault → ⊥
spelled_has_no_fault ts tree fault spelled limits first = by_kind fault.kind first.rest first.is first.parts
  where
    any : IsSpelledBy IsAnySymbol program tree ts
    any = by_grammar program tree ts spelled

    by_kind : (k : ParseKind) (rest : List Seen) → IsFault program max_depth k first.before rest → ts ≡ first.before ++ rest → ⊥
    by_kind Expected [] is parts = is.1 tree (subst (λ (us : List Seen). IsSpelledBy IsAnySymbol program tree us) (parts ∙ append-nil first.before) any)
    by_kind Expected (t ∷ r) is parts =
        is.1 (record { value = tree; more = r; is = subst (λ (us : List Seen). IsSpelledBy IsAnySymbol program tree us) (parts ∙ sym (append_assoc first.before (t ∷ []) r)) any })
    by_kind Literal [] is parts = is
    by_kind Literal (t ∷ r) is parts = let kept = keeps_at max_depth 0 first.before t r (subst (λ (us : List Seen). Keeps max_depth 0 us) parts limits.each) in cc
    by_kind TooDeep [] is parts = is
    by_kind TooDeep (t ∷ r) is parts = let kept = keeps_at max_depth 0 first.before t r (subst (λ (us : List Seen). Keeps max_depth 0 us) parts limits.each) in cc
    by_kind TooMany [] is parts = is
    by_kind TooMany (t ∷ r) is parts =
        counts_at no_counts is.kept.counts limits.counts.counts first.before t r (subst (λ (us : List Seen). counts_behind no_counts us ≡ Some limits.counts.counts) parts limits.counts.counted) is.kept.counted is.over
    by_kind NoMemory rest is parts = is
