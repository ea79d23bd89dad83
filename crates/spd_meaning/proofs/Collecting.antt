-- What is given is collected by the finish around it, and split off promises.
use Rattle.std.proofs.Common.{◌≡◌, ℕ, ◌+◌, List, [], ◌∷◌, ◌++◌, refl, sym, ◌∙◌, ap, arith, append_assoc, ℤ}
use Rattle.std.specs.Prelude.{min}
use Rattle.std.proofs.lemmas.Grind.{flat_map-append}
use Rattle.spd_words.specs.Gift.{join, joined, gift, least, no_fault}
use Rattle.spd_words.specs.Total.{Total, collect, settle}
use Rattle.spd_words.specs.declared.finish_kind.FinishKind.{FinishKind}
use Rattle.spd_words.proofs.Joins.{joined-append, gift-append, least-append, least_le}
use Rattle.spd_meaning.specs.Acts.{Acts, Async, Offer, Code, Begin, Over, offer_in, code_in, passed_in, offers_of, codes_of, passed, moves_of, heard}
use Rattle.spd_meaning.specs.Eval.{Eval, before, collected, for_finish, end_codes, finish_left, finish_end, promised_by}
use Rattle.spd_meaning.proofs.Hearing.{passed_offers, passed_codes, offers_heard, codes_heard, moves_heard, moves_both}

pub collected_both : (kind : FinishKind) (total : Total) (p q : Acts) → collected kind total (p ++ q) ≡ collected kind (collected kind total p) q
collected_both kind total p q =
    let o : offers_of (p ++ q) ≡ offers_of p ++ offers_of q = flat_map-append offer_in p q in
    let c : codes_of (p ++ q) ≡ codes_of p ++ codes_of q = flat_map-append code_in p q in
    let l : min total.fault (least (codes_of p ++ codes_of q)) ≡ min (min total.fault (least (codes_of p))) (least (codes_of q)) = let h =
    least-append (codes_of p) (codes_of q) in omega arith in
    ap (λ os. collect kind total os (codes_of (p ++ q))) o
    ∙ ap (λ cs. collect kind total (offers_of p ++ offers_of q) cs) c
    ∙ ap (λ f. record { gift = joined kind total.gift (offers_of p ++ offers_of q); fault = f }) l
    ∙ ap (λ g. record { gift = g; fault = min (min total.fault (least (codes_of p))) (least (codes_of q)) })
    (joined-append kind total.gift (offers_of p) (offers_of q))

-- A finish that is given this collects it, and passes on the rest. One law for each step inside.
pub finish_before : (kind : FinishKind) (total : Total) (line : ℕ) (b : ℤ → List ℤ) (p : Acts) (a : Eval ℤ) →
    finish_left kind total line b (before p a) ≡ before (passed p) (finish_left kind (collected kind total p) line b a)
finish_before kind total line b p a =
    ap (λ (t : Total). record { end = finish_end line b (settle t); given = passed (p ++ a.given) ++ Over ∷ [] })
    (ap (collected kind total) (append_assoc p a.given (end_codes a.end)) ∙ collected_both kind total p (for_finish a))
    ∙ ap (λ (g : Acts). record { end = finish_end line b (settle (collected kind (collected kind total p) (for_finish a))); given = g })
    (ap (λ (g : Acts). g ++ Over ∷ []) (flat_map-append passed_in p a.given) ∙ append_assoc (passed p) (passed a.given) (Over ∷ []))

-- what was passed on adds nothing to a total
pub collected_passed : (kind : FinishKind) (total : Total) (p q : Acts) → collected kind (collected kind total (passed p)) q ≡ collected kind total q
collected_passed kind total p q =
    let l : min (min total.fault no_fault) (least (codes_of q)) ≡ min total.fault (least (codes_of q)) = let h = least_le (codes_of q) in omega arith in
    ap (λ os. collected kind (collect kind total os (codes_of (passed p))) q) (passed_offers p)
    ∙ ap (λ cs. collected kind (collect kind total [] cs) q) (passed_codes p)
    ∙ ap (λ f. record { gift = joined kind total.gift (offers_of q); fault = f }) l

-- a finish that had one total and was given this has the other
abbrev pub Counts : FinishKind → Acts → Total → Total → Type 0
Counts kind p old new = (q : Acts) → collected kind (collected kind old p) q ≡ collected kind new q

pub counts : (kind : FinishKind) (p s : Acts) (old new : Total) → heard p ≡ s → new.gift ≡ joined kind old.gift (offers_of s) →
    min new.fault no_fault ≡ min old.fault (least (codes_of s)) → Counts kind p old new
counts kind p s old new e g f q =
    let o : offers_of p ≡ offers_of s = sym (offers_heard p) ∙ ap offers_of e in
    let d : codes_of p ≡ codes_of s = sym (codes_heard p) ∙ ap codes_of e in
    let l : min (min old.fault (least (codes_of s))) (least (codes_of q)) ≡ min new.fault (least (codes_of q)) = let h = least_le (codes_of q) in omega arith in
    ap (λ os. collected kind (collect kind old os (codes_of p)) q) o
    ∙ ap (λ cs. collected kind (collect kind old (offers_of s) cs) q) d
    ∙ ap (λ n. record { gift = joined kind (joined kind old.gift (offers_of s)) (offers_of q); fault = n }) l
    ∙ ap (λ z. record { gift = joined kind z (offers_of q); fault = min new.fault (least (codes_of q)) }) (sym g)

pub quiet_counts : (kind : FinishKind) (p : Acts) (t : Total) → heard p ≡ [] → Counts kind p t t
quiet_counts kind p t e = counts kind p [] t t e refl refl

pub offer_counts : (kind : FinishKind) (p : Acts) (t : Total) (x : ℤ) → heard p ≡ Offer x ∷ [] →
    Counts kind p t (record { gift = join kind t.gift x; fault = t.fault })
offer_counts kind p t x e = counts kind p (Offer x ∷ []) t (record { gift = join kind t.gift x; fault = t.fault }) e refl refl

pub code_counts : (kind : FinishKind) (p : Acts) (t : Total) (c : ℕ) → heard p ≡ Code c ∷ [] → Counts kind p t (record { gift = t.gift; fault = min t.fault c })
code_counts kind p t c e = counts kind p (Code c ∷ []) t (record { gift = t.gift; fault = min t.fault c }) e refl (omega arith)

pub move_counts : (kind : FinishKind) (p : Acts) (t : Total) → heard p ≡ Begin Async ∷ [] → Counts kind p t t
move_counts kind p t e = counts kind p (Begin Async ∷ []) t t e refl refl

-- ---- promises

-- a promise is made of what is heard
pub promise_heard : (kind : FinishKind) (p q : Acts) → heard p ≡ heard q → promised_by kind p ≡ promised_by kind q
promise_heard kind p q e =
    let o : offers_of p ≡ offers_of q = sym (offers_heard p) ∙ ap offers_of e ∙ offers_heard q in
    let c : codes_of p ≡ codes_of q = sym (codes_heard p) ∙ ap codes_of e ∙ codes_heard q in
    let m : moves_of p ≡ moves_of q = sym (moves_heard p) ∙ ap moves_of e ∙ moves_heard q in
    ap (λ os. record { gift = gift kind os; fault = min no_fault (least (codes_of p)); moves = moves_of p }) o
    ∙ ap (λ cs. record { gift = gift kind (offers_of q); fault = min no_fault (least cs); moves = moves_of p }) c
    ∙ ap (λ n. record { gift = gift kind (offers_of q); fault = min no_fault (least (codes_of q)); moves = n }) m

pub promise_both : (kind : FinishKind) (p q : Acts) →
    promised_by kind (p ++ q) ≡ record {
      gift = join kind (gift kind (offers_of p)) (promised_by kind q).gift;
      fault = min (least (codes_of p)) (promised_by kind q).fault;
      moves = moves_of p + moves_of q;
    }
promise_both kind p q =
    let o : gift kind (offers_of (p ++ q)) ≡ join kind (gift kind (offers_of p)) (gift kind (offers_of q)) = ap (gift kind) (flat_map-append offer_in p q)
    ∙ gift-append kind (offers_of p) (offers_of q) in
    let c : min no_fault (least (codes_of (p ++ q))) ≡ min (least (codes_of p)) (min no_fault (least (codes_of q))) =
    ap (λ cs. min no_fault (least cs)) (flat_map-append code_in p q) ∙ (let h = least-append (codes_of p) (codes_of q) in omega arith) in
    ap (λ g. record { gift = g; fault = min no_fault (least (codes_of (p ++ q))); moves = moves_of (p ++ q) }) o
    ∙ ap (λ f. record { gift = join kind (gift kind (offers_of p)) (gift kind (offers_of q)); fault = f; moves = moves_of (p ++ q) }) c
    ∙ ap (λ n. record {
      gift = join kind (gift kind (offers_of p)) (gift kind (offers_of q));
      fault = min (least (codes_of p)) (min no_fault (least (codes_of q)));
      moves = n;
    }) (moves_both p q)
