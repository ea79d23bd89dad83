-- A vertex that ends and a finish that closes keep what the outermost finish will have; a turn is one step of these.
use Rattle.std.proofs.Common.{◌≡◌, ◌≢◌, ℕ, zero, suc, ◌+◌, ◌<◌, ◌≤◌, List, [], ◌∷◌, ◌++◌, map, length, ℤ, None, Some, Option, min}
use Rattle.std.proofs.Common.{refl, sym, ◌∙◌, ap, subst, arith, append_assoc, length-append}
use Rattle.std.proofs.lemmas.List.{append-nil}
use Rattle.std.specs.Prelude.{Bool, if◌then◌else◌}
use Rattle.std.proofs.Math.Dec.{eqb-suc-zero}
use Rattle.spd_words.specs.Gift.{no_fault, identity}
use Rattle.spd_words.specs.Total.{Total, total_of, settle, ended}
use Rattle.spd_words.specs.Meaning.{BodyView, Awaited, Promise, Going, Spent, AwaitsLawful}
use Rattle.spd_words.specs.BodyCalls.{Advances, Resumes, Expects, stage_at}
use Rattle.spd_words.specs.Gather.{moves}
use Rattle.spd_words.specs.declared.event.Event.{Event}
use Rattle.spd_words.specs.declared.event.Event.TheVariants as event
use Rattle.spd_region.specs.declared.region.Region.{Region}
use Rattle.spd_region.specs.declared.finish.Finish.{Finish}
use Rattle.spd_region.specs.declared.outer.Outer.{Outer}
use Rattle.spd_region.specs.Dag.{AllMayRun, promise_of, DagView, sizes, dag_size, owed_moves, waiting_of}
use Rattle.spd_region.specs.Dag.{FinishWillHave, OutermostWillHave, DagRuns, DagAtRest, DagAtEnd, DagDraws}
use Rattle.spd_region.specs.DagSteps.{DagOutcome, DagPlay, DagTurn, DagEvent, DagClose, MayMeet}
use Rattle.spd_region.proofs.Snoc.{last_of, snoc_injective}
use Rattle.spd_region.proofs.Finishes.{sizes-snoc, moves-snoc, length-snoc, may-front, may-last, replaced, left, departed}

-- ---- a vertex ends

-- what a vertex promised that is over
nothing_left : (t : DagView) (v u : BodyView) (top : Total) → Advances v u event.Over → DagRuns t v top →
    (v.means.promise.gift ≡ identity t.innermost.tally.kind) × (v.means.promise.fault ≡ no_fault) × (v.means.promise.moves ≡ 0)
nothing_left t v u top a r =
    let p = a.split r.now.tame.tame in
    (ap (λ (z : Promise). z.gift) p ∙ ap identity r.now.kind, ap (λ (z : Promise). z.fault) p, ap (λ (z : Promise). z.moves) p)

-- a finish that hasn't ended goes on with the newest of its vertices
stays : (t : DagView) (f : Finish) (before own : List BodyView) (inner top : Total) →
    0 < f.in_counter → t.ready ≡ before ++ own → AllMayRun f.tally.kind own → FinishWillHave f own inner →
    OutermostWillHave t.outside before inner top → DagAtRest (record t { innermost = f }) top
stays t f before [] inner top l e m h o = absurd (let c = h.counted in omega arith)
stays t f before (x ∷ xs) inner top l e m h o =
    let z = last_of x xs in
    let ms : AllMayRun f.tally.kind (z.0 ++ z.1 ∷ []) = subst (λ (vs : List BodyView). AllMayRun f.tally.kind vs) z.2 m in
    record {
      rest = before ++ z.0;
      newest = z.1;
      ready = e ∙ ap (λ vs. before ++ vs) z.2 ∙ sym (append_assoc before z.0 (z.1 ∷ []));
      runs = record {
        before = before;
        own = z.0;
        inner = inner;
        ready = refl;
        may = may-front f.tally.kind z.0 z.1 ms;
        now = may-last f.tally.kind z.0 z.1 ms;
        has = subst (λ (vs : List BodyView). FinishWillHave f vs inner) z.2 h;
        outside = o;
      };
    }

-- a vertex that runs is counted
counts : (t : DagView) (v : BodyView) (top : Total) → DagRuns t v top → 0 < t.innermost.in_counter
counts t v top r = let c = r.has.counted in omega (arith, length-snoc r.own v)

-- no more vertices are counted than are ready, and the one that runs
pub counted_ready : (t : DagView) (u : BodyView) (e : Event BodyView) → MayMeet t u e →
    t.innermost.in_counter ≤ length t.ready + 1
counted_ready t u e (v, a, s, (top, r)) =
    let c = r.has.counted in
    let l : length t.ready ≡ length r.before + length r.own = ap length r.ready ∙ length-append r.before r.own in
    omega (arith, length-snoc r.own v)

-- a vertex that promised no move draws none
still : (t : DagView) (v : BodyView) (all : ℕ) → v.means.promise.moves ≡ 0 →
    DagDraws t v.means.promise.moves all → DagDraws t 0 all
still t v all e d =
    record { few = d.few; all_is = ap (λ (n : ℕ). min (t.drawn + (owed_moves t + n)) t.most) (sym e) ∙ d.all_is }

pub takes_over : (t : DagView) (u : BodyView) → t.innermost.in_counter ≢ 1 →
    DagEvent t u event.Over (record t { innermost = left t.innermost }) None
takes_over t u n v a s top all r d =
    let c = counts t v top r in
    let q = nothing_left t v u top a r in
    let m = still t v all q.2 d in
    let h = departed t.innermost r.own v r.inner c q.0 q.1 r.has in (
      stays t (left t.innermost) r.before r.own r.inner top (omega arith) r.ready r.may h r.outside,
      record { few = m.few; all_is = m.all_is },
      omega arith,
    )

same_total : (a b : Total) → a.gift ≡ b.gift → a.fault ≡ b.fault → a ≡ b
same_total a b e f =
    ap (λ (g : ℤ). record { gift = g; fault = a.fault }) e ∙ ap (λ (c : ℕ). record { gift = b.gift; fault = c }) f

-- a finish with no vertex has ended, with what it has collected
has_ended : (t : DagView) (f : Finish) (before own : List BodyView) (inner top : Total) →
    f.in_counter ≡ 0 → t.ready ≡ before ++ own → FinishWillHave f own inner →
    OutermostWillHave t.outside before inner top → DagAtEnd (record t { innermost = f }) top
has_ended t f before [] inner top z e h o =
    let b : before ≡ t.ready = sym (e ∙ append-nil before) in
    let i : inner ≡ total_of f.tally = same_total inner (total_of f.tally) (sym h.gift) (sym h.fault) in
    let p = subst (λ (vs : List BodyView). OutermostWillHave t.outside vs inner top) b o in
    (z, subst (λ (g : Total). OutermostWillHave t.outside t.ready g top) i p)
has_ended t f before (x ∷ xs) inner top z e h o = absurd (let c = h.counted in omega arith)

-- the last vertex of a finish is over
pub ends_over : (t : DagView) (v u : BodyView) (top : Total) → t.innermost.in_counter ≡ 1 →
    Advances v u event.Over → DagRuns t v top → DagAtEnd (record t { innermost = left t.innermost }) top
ends_over t v u top z a r =
    let q = nothing_left t v u top a r in
    let h = departed t.innermost r.own v r.inner (omega arith) q.0 q.1 r.has in
    has_ended t (left t.innermost) r.before r.own r.inner top (omega arith) r.ready h r.outside

within : (t : DagView) (top : Total) (all m n : ℕ) (region : Option Region) → m ≤ n →
    DagOutcome t top all m region → DagOutcome t top all n region
within t top all m n None l h = (h.0, h.1, let z = h.2 in omega arith)
within t top all m n (Some region) l h = h

-- the last vertex of a finish is over, and then the finish is closed
pub takes_last_over : (t new : DagView) (region : Option Region) → t.innermost.in_counter ≡ 1 →
    DagClose (record t { innermost = left t.innermost }) new region → (u : BodyView) → DagEvent t u event.Over new region
takes_last_over t new region z h u v a s top all r d =
    let q = nothing_left t v u top a r in
    let m = still t v all q.2 d in
    within new top all (dag_size t + 1) (dag_size t + v.size + 1) region (omega arith)
    (h top all (ends_over t v u top z a r) (record { few = m.few; all_is = m.all_is }))

-- ---- a finish closes

pub closes_outermost : (t : DagView) (region : Region) → t.outside ≡ [] →
    ended region.given ≡ settle (total_of t.innermost.tally) → region.moves ≡ t.drawn → DagClose t t (Some region)
closes_outermost t region e g m top all h d =
    let o = subst (λ (l : List (Outer BodyView)). OutermostWillHave l t.ready (total_of t.innermost.tally) top) e h.1 in
    let n0 : moves promise_of t.ready ≡ 0 = ap (moves promise_of) o.0 in
    let n1 : moves promise_of (map waiting_of t.outside) ≡ 0 =
    ap (λ (l : List (Outer BodyView)). moves promise_of (map waiting_of l)) e in
    (g ∙ ap settle o.1, m ∙ (let x = d.few in let y = d.all_is in omega arith))

going_at : (c : ℕ) → c ≢ 0 → stage_at c ≡ Going
going_at zero h = absurd (h refl)
going_at (suc c) h = ap (λ (t : Bool). if t then Spent else Going) (eqb-suc-zero c)

-- a lawful total that is expected is no want of memory
expected_memory : (o : Option Awaited) (g : ℤ) (c : ℕ) → AwaitsLawful o → Expects o g c → c ≢ 0
expected_memory None g c l x = absurd x
expected_memory (Some aw) g c l x = λ z. l.memory (sym x.1 ∙ z)

pub closes_inner : (t : DagView) (o : Outer BodyView) (os : List (Outer BodyView)) (r : BodyView) (p : Promise) (left : Total) →
    t.outside ≡ o ∷ os → left ≡ settle (total_of t.innermost.tally) → Resumes o.waiting r p left.gift left.fault →
    DagClose t (record t { innermost = o.finish; ready = t.ready ++ r ∷ []; outside = os }) None
closes_inner t o os r p left e g a top all h d =
    let n : sizes (map waiting_of t.outside) ≡ o.waiting.size + 1 + sizes (map waiting_of os) =
    ap (λ l. sizes (map waiting_of l)) e in
    let mo : moves promise_of (map waiting_of t.outside) ≡ o.waiting.means.promise.moves + moves promise_of (map waiting_of os) =
    ap (λ l. moves promise_of (map waiting_of l)) e in
    let q = subst (λ (l : List (Outer BodyView)). OutermostWillHave l t.ready (total_of t.innermost.tally) top) e h.1 in
    let w = q.0.waits in
    let x : Expects o.waiting.means.awaited left.gift left.fault =
    subst (λ (z : Total). Expects o.waiting.means.awaited z.gift z.fault) (sym g) w.awaited in
    let pr : r.means.promise ≡ o.waiting.means.promise = a.expected w.tame.tame x in
    let mr : r.means.promise.moves ≡ o.waiting.means.promise.moves = ap (λ (x : Promise). x.moves) pr in
    let c = expected_memory o.waiting.means.awaited left.gift left.fault w.tame.awaited x in
    let ms = moves-snoc t.ready r in
    let z = a.size x in (
      record {
        rest = t.ready;
        newest = r;
        ready = refl;
        runs = record {
          before = q.0.before;
          own = q.0.own;
          inner = q.0.end;
          ready = q.0.ready_is;
          may = q.0.may;
          now = record {
            kind = a.kind ∙ w.kind;
            awaited = a.awaited;
            stage = a.stage ∙ going_at left.fault c;
            tame = a.tame w.tame x;
          };
          has = replaced o.finish q.0.own o.waiting r q.0.end (ap (λ (x : Promise). x.gift) pr) (ap (λ (x : Promise). x.fault) pr) q.0.has;
          outside = q.1;
        };
      },
      record { few = d.few; all_is = let y = d.all_is in omega arith },
      omega (arith, sizes-snoc t.ready r),
    )

-- ---- a turn

-- the newest vertex is the one that is taken
taken : (t : DagView) (rest : List BodyView) (v : BodyView) (top : Total) → t.ready ≡ rest ++ v ∷ [] → DagAtRest t top →
    DagRuns (record t { ready = rest }) v top
taken t rest v top e h =
    let q = snoc_injective rest h.rest v h.newest (sym e ∙ h.ready) in
    let r = subst (λ (vs : List BodyView). DagRuns (record t { ready = vs }) h.newest top) (sym q.0) h.runs in
    subst (λ (u : BodyView). DagRuns (record t { ready = rest }) u top) (sym q.1) r

pub turn_plays : (t new : DagView) (rest : List BodyView) (v : BodyView) (region : Option Region) →
    t.ready ≡ rest ++ v ∷ [] → DagPlay (record t { ready = rest }) v new region → DagTurn t new region
turn_plays t new rest v region e h top all p d =
    let n : sizes t.ready ≡ sizes rest + (v.size + 1) = ap sizes e ∙ sizes-snoc rest v in
    let m : moves promise_of t.ready ≡ moves promise_of rest + v.means.promise.moves =
    ap (moves promise_of) e ∙ moves-snoc rest v in
    let a : DagDraws (record t { ready = rest }) v.means.promise.moves all =
    record { few = d.few; all_is = let y = d.all_is in omega arith } in
    within new top all (dag_size (record t { ready = rest }) + v.size + 1) (dag_size t) region (omega arith)
    (h top all (taken t rest v top e p) a)
