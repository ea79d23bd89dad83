-- Events after which the vertex goes on keep what the outermost finish will have, and how many moves will be drawn.
use Rattle.std.proofs.Common.{◌≡◌, ℕ, ◌+◌, ◌<◌, ◌≤◌, [], ◌∷◌, ◌++◌, refl, sym, ◌∙◌, ap, subst, arith, ℤ, None, Option, min, append_assoc}
use Rattle.std.proofs.lemmas.List.{append-nil}
use Rattle.spd_words.specs.Gift.{no_fault, identity, join}
use Rattle.spd_words.specs.Total.{Total}
use Rattle.spd_words.specs.Meaning.{BodyView, Awaited, Promise, Going, IsTame}
use Rattle.spd_words.specs.BodyCalls.{TakesIn, Expects}
use Rattle.spd_words.proofs.Joins.{join_comm, join_assoc, identity_join}
use Rattle.spd_words.specs.declared.finish_kind.FinishKind.{FinishKind}
use Rattle.spd_words.specs.declared.event.Event.TheVariants as event
use Rattle.spd_words.specs.declared.event.Part.{Part}
use Rattle.spd_words.specs.declared.event.Part.TheVariants as part
use Rattle.spd_region.specs.Dag.{MayRun, DagView, owed_moves, dag_size, promised_total, begun_finish, forked}
use Rattle.spd_region.specs.Dag.{opened, FinishWillHave, VertexWaits, DagRuns, DagAtRest, DagDraws}
use Rattle.spd_region.specs.DagSteps.{DagOutcome, DagEvent, event_of}
use Rattle.spd_region.proofs.Finishes.{sizes-snoc, moves-snoc, may-snoc, offer_counts, changed, replaced, arrived}

-- the rest of a vertex after an event
rest_may_run : (k : FinishKind) (v u : BodyView) → MayRun k v →
    u.means.kind ≡ v.means.kind → u.means.awaited ≡ None → u.stage ≡ Going → IsTame u.means → MayRun k u
rest_may_run k v u m e a s t = record { kind = e ∙ m.kind; awaited = a; stage = s; tame = t }

-- the rest of a vertex in its place, beside what its finish has collected then
goes_on : (t : DagView) (v u : BodyView) (g : ℤ) (c : ℕ) (top : Total) (all : ℕ) → DagRuns t v top →
    MayRun t.innermost.tally.kind u → u.size < v.size →
    join t.innermost.tally.kind (identity t.innermost.tally.kind) g ≡ g → c ≤ no_fault →
    join t.innermost.tally.kind v.means.promise.gift t.innermost.tally.gift ≡ join t.innermost.tally.kind u.means.promise.gift g →
    min v.means.promise.fault t.innermost.tally.fault ≡ min u.means.promise.fault c →
    t.drawn ≤ t.most → min (t.drawn + (owed_moves t + u.means.promise.moves)) t.most ≡ all →
    DagOutcome (record t {
      innermost = record t.innermost { tally = record t.innermost.tally { gift = g; fault = c } };
      ready = t.ready ++ u ∷ [];
    }) top all (dag_size t + v.size + 1) None
goes_on t v u g c top all r m s l b e f few d = (
  record {
    rest = t.ready;
    newest = u;
    ready = refl;
    runs = record {
      before = r.before;
      own = r.own;
      inner = r.inner;
      ready = r.ready;
      may = r.may;
      now = m;
      has = changed t.innermost g c r.own v u r.inner l b e f r.has;
      outside = r.outside;
    };
  },
  record { few = few; all_is = let z = moves-snoc t.ready u in same_least _ (t.drawn + (owed_moves t + u.means.promise.moves)) t.most (omega arith) ∙ d },
  omega (arith, sizes-snoc t.ready u),
)
  where
    same_least : (m n b : ℕ) → m ≡ n → min m b ≡ min n b
    same_least m n b e = ap (λ x. min x b) e

-- ---- offers and faults

pub takes_offer : (t : DagView) (u : BodyView) (x : ℤ) →
    DagEvent t u (event.Offer x) (record t {
      innermost = record t.innermost {
        tally = record t.innermost.tally { gift = join t.innermost.tally.kind t.innermost.tally.gift x };
      };
      ready = t.ready ++ u ∷ [];
    }) None
takes_offer t u x v a s top all r d =
    let k = t.innermost.tally.kind in
    let g = t.innermost.tally.gift in
    let p = a.split r.now.tame.tame in
    let q = u.means.promise.gift in
    let e : v.means.promise.gift ≡ join k x q = ap (λ (z : Promise). z.gift) p ∙ ap (λ z. join z x q) r.now.kind in
    let m : v.means.promise.moves ≡ u.means.promise.moves = ap (λ (z : Promise). z.moves) p in
    let n : MayRun k u = rest_may_run k v u r.now a.kind a.awaited a.stage (s r.now.tame).0 in
    goes_on t v u (join k g x) t.innermost.tally.fault top all r n (let z = a.falls in omega arith)
    (sym (join_assoc k (identity k) g x) ∙ ap (λ z. join k z x) r.has.lawful) r.has.bound
    (ap (λ z. join k z g) e ∙ offer_counts k x q g) (ap (λ (z : Promise). min z.fault t.innermost.tally.fault) p)
    d.few (ap (λ (n : ℕ). min (t.drawn + (owed_moves t + n)) t.most) (sym m) ∙ d.all_is)

pub takes_fault : (t : DagView) (u : BodyView) (c : ℕ) →
    DagEvent t u (event.Fault c) (record t {
      innermost = record t.innermost { tally = record t.innermost.tally { fault = min t.innermost.tally.fault c } };
      ready = t.ready ++ u ∷ [];
    }) None
takes_fault t u c v a s top all r d =
    let k = t.innermost.tally.kind in
    let g = t.innermost.tally.gift in
    let p = a.split r.now.tame.tame in
    let f : v.means.promise.fault ≡ min c u.means.promise.fault = ap (λ (z : Promise). z.fault) p in
    let m : v.means.promise.moves ≡ u.means.promise.moves = ap (λ (z : Promise). z.moves) p in
    let n : MayRun k u = rest_may_run k v u r.now a.kind a.awaited a.stage (s r.now.tame).0 in
    goes_on t v u g (min t.innermost.tally.fault c) top all r n (let z = a.falls in omega arith)
    r.has.lawful (let z = r.has.bound in omega arith) (ap (λ (z : Promise). join k z.gift g) p) (omega arith)
    d.few (ap (λ (n : ℕ). min (t.drawn + (owed_moves t + n)) t.most) (sym m) ∙ d.all_is)

-- ---- moves

-- a move is drawn
one_drawn : (t : DagView) (more less all : ℕ) → DagDraws t more all → t.drawn < t.most → more ≡ less + 1 →
    min (t.drawn + 1 + (owed_moves t + less)) t.most ≡ all
one_drawn t more less all d l e = let g = d.all_is in omega arith

-- no move is left
none_left : (t : DagView) (more less all : ℕ) → DagDraws t more all → t.most ≤ t.drawn →
    min (t.drawn + (owed_moves t + less)) t.most ≡ all
none_left t more less all d l = let g = d.all_is in omega arith

-- ---- asyncs

pub takes_async : (t : DagView) (u w : BodyView) → t.drawn < t.most →
    DagEvent t u (event.Async w) (forked (record t { drawn = t.drawn + 1 }) u w) None
takes_async t u w room v a s top all r d =
    let k = t.innermost.tally.kind in
    let p = a.split r.now.tame.tame in
    let x = w.means.promise in
    let y = u.means.promise in
    let e : v.means.promise.gift ≡ join k x.gift y.gift =
    ap (λ (z : Promise). z.gift) p ∙ ap (λ z. join z x.gift y.gift) r.now.kind in
    let f : v.means.promise.fault ≡ min x.fault y.fault = ap (λ (z : Promise). z.fault) p in
    let m : v.means.promise.moves ≡ x.moves + y.moves + 1 = ap (λ (z : Promise). z.moves) p in
    let g = one_drawn t v.means.promise.moves (x.moves + y.moves) all d room m in
    let n = moves-snoc t.ready u in
    let o = moves-snoc (t.ready ++ u ∷ []) w in
    let z = a.falls in (
      record {
        rest = t.ready ++ u ∷ [];
        newest = w;
        ready = refl;
        runs = record {
          before = r.before;
          own = r.own ++ u ∷ [];
          inner = r.inner;
          ready = ap (λ l. l ++ u ∷ []) r.ready ∙ append_assoc r.before r.own (u ∷ []);
          may = may-snoc k r.own u r.may (rest_may_run k v u r.now a.kind a.awaited a.stage (s r.now.tame).0);
          now = record {
            kind = a.ready.kind ∙ r.now.kind;
            awaited = a.ready.awaited;
            stage = a.ready.stage;
            tame = (s r.now.tame).1;
          };
          has = arrived t.innermost r.own v u w r.inner e f r.has;
          outside = r.outside;
        };
      },
      record { few = omega arith; all_is = omega arith },
      omega (arith, sizes-snoc t.ready u, sizes-snoc (t.ready ++ u ∷ []) w),
    )

-- an async that runs inside
takes_async_inside : (t : DagView) (u w n : BodyView) → t.most ≤ t.drawn → TakesIn u n (part.Async w) →
    DagEvent t u (event.Async w) (record t { ready = t.ready ++ n ∷ [] }) None
takes_async_inside t u w n full h v a s top all r d =
    let k = t.innermost.tally.kind in
    let y = s r.now.tame in
    let p = a.split r.now.tame.tame in
    let q = h.promise y.0.tame in
    let e : v.means.promise.gift ≡ n.means.promise.gift =
    ap (λ (z : Promise). z.gift) p ∙ ap (λ z. join z w.means.promise.gift u.means.promise.gift) (sym a.kind)
    ∙ sym (ap (λ (z : Promise). z.gift) q) in
    let f : v.means.promise.fault ≡ n.means.promise.fault =
    ap (λ (z : Promise). z.fault) p ∙ sym (ap (λ (z : Promise). z.fault) q) in
    let m : MayRun k n = rest_may_run k v n r.now (h.kind ∙ a.kind) h.awaited h.stage (h.tame y.0 y.1) in
    goes_on t v n t.innermost.tally.gift t.innermost.tally.fault top all r m
    (let z = a.falls in let x = h.size in omega arith) r.has.lawful r.has.bound
    (ap (λ z. join k z t.innermost.tally.gift) e) (ap (λ z. min z t.innermost.tally.fault) f)
    d.few (none_left t v.means.promise.moves n.means.promise.moves all d full)

-- ---- finishes

-- a finish with this body alone will have what the body promises
starts : (k : FinishKind) (w : BodyView) → MayRun k w → FinishWillHave (begun_finish k) (w ∷ []) (promised_total w)
starts k w m =
    let g = w.means.promise.gift in
    let l : join k (identity k) g ≡ g = ap (λ z. join z (identity z) g) (sym m.kind) ∙ m.tame.promise.gift in
    record {
      counted = omega arith;
      lawful = identity_join k;
      bound = omega arith;
      gift = join_comm k g (identity k) ∙ l;
      fault = let z = m.tame.promise.fault in omega arith;
    }

pub starts_at_rest : (k : FinishKind) (w : BodyView) (drawn most : ℕ) → MayRun k w → DagAtRest (record {
  innermost = begun_finish k;
  ready = w ∷ [];
  outside = [];
  drawn = drawn;
  most = most;
}) (promised_total w)
starts_at_rest k w drawn most m = record {
  rest = [];
  newest = w;
  ready = refl;
  runs = record {
    before = [];
    own = [];
    inner = promised_total w;
    ready = refl;
    may = tt;
    now = m;
    has = starts k w m;
    outside = (refl, refl);
  };
}

pub takes_finish : (t : DagView) (u w : BodyView) (k : FinishKind) → t.drawn < t.most →
    DagEvent t u (event.Finish k w) (opened (record t { drawn = t.drawn + 1 }) u k w) None
takes_finish t u w k room v a s top all r d =
    let p = a.split r.now.tame.tame in
    let m : MayRun k w =
    record { kind = a.ready.kind; awaited = a.ready.awaited; stage = a.ready.stage; tame = (s r.now.tame).1 } in
    let x : Expects u.means.awaited w.means.promise.gift w.means.promise.fault =
    subst (λ (o : Option Awaited). Expects o w.means.promise.gift w.means.promise.fault) (sym a.awaited) (refl, refl) in
    let waits : VertexWaits t.innermost.tally.kind (promised_total w) u =
    record { kind = a.kind ∙ r.now.kind; awaited = x; stage = a.stage; tame = (s r.now.tame).0 } in
    let h : FinishWillHave t.innermost (r.own ++ u ∷ []) r.inner =
    replaced t.innermost r.own v u r.inner (ap (λ (z : Promise). z.gift) (sym p)) (ap (λ (z : Promise). z.fault) (sym p)) r.has in
    let mv : v.means.promise.moves ≡ w.means.promise.moves + u.means.promise.moves + 1 = ap (λ (z : Promise). z.moves) p in
    let g = one_drawn t v.means.promise.moves (w.means.promise.moves + u.means.promise.moves) all d room mv in
    let n = moves-snoc t.ready w in
    let z = a.falls in (
      record {
        rest = t.ready;
        newest = w;
        ready = refl;
        runs = record {
          before = t.ready;
          own = [];
          inner = promised_total w;
          ready = sym (append-nil t.ready);
          may = tt;
          now = m;
          has = starts k w m;
          outside = (
            record { before = r.before; own = r.own; end = r.inner; ready_is = r.ready; may = r.may; waits = waits; has = h },
            r.outside,
          );
        };
      },
      record { few = omega arith; all_is = omega arith },
      omega (arith, sizes-snoc t.ready w),
    )

-- a finish that runs inside
takes_finish_inside : (t : DagView) (u w n : BodyView) (kind : FinishKind) → t.most ≤ t.drawn →
    TakesIn u n (part.Finish kind w) → DagEvent t u (event.Finish kind w) (record t { ready = t.ready ++ n ∷ [] }) None
takes_finish_inside t u w n kind full h v a s top all r d =
    let k = t.innermost.tally.kind in
    let y = s r.now.tame in
    let p = a.split r.now.tame.tame in
    let q = h.promise y.0.tame in
    let e : v.means.promise.gift ≡ n.means.promise.gift =
    ap (λ (z : Promise). z.gift) p ∙ sym (ap (λ (z : Promise). z.gift) q) in
    let f : v.means.promise.fault ≡ n.means.promise.fault =
    ap (λ (z : Promise). z.fault) p ∙ sym (ap (λ (z : Promise). z.fault) q) in
    let m : MayRun k n = rest_may_run k v n r.now (h.kind ∙ a.kind) h.awaited h.stage (h.tame y.0 y.1) in
    goes_on t v n t.innermost.tally.gift t.innermost.tally.fault top all r m
    (let z = a.falls in let x = h.size in omega arith) r.has.lawful r.has.bound
    (ap (λ z. join k z t.innermost.tally.gift) e) (ap (λ z. min z t.innermost.tally.fault) f)
    d.few (none_left t v.means.promise.moves n.means.promise.moves all d full)

-- ---- a part that runs inside

pub takes_inside : (t : DagView) (u n : BodyView) (p : Part BodyView) → t.most ≤ t.drawn → TakesIn u n p →
    DagEvent t u (event_of p) (record t { ready = t.ready ++ n ∷ [] }) None
takes_inside t u n (part.Async w) full h = takes_async_inside t u w n full h
takes_inside t u n (part.Finish kind w) full h = takes_finish_inside t u w n kind full h
