-- A dag that is run on one thread, and what its finishes will have.
use Rattle.std.specs.Prelude.{◌≡◌, ℕ, ◌+◌, ◌≤◌, min, List, [], ◌∷◌, ◌++◌, length, map, reverse, None}
use Rattle.spd_words.specs.Gift.{identity, join, no_fault}
use Rattle.spd_words.specs.Total.{Total, begun, total_of, settle}
use Rattle.spd_words.specs.Meaning.{BodyView, Promise, Going, IsTame}
use Rattle.spd_words.specs.BodyCalls.{Expects}
use Rattle.spd_words.specs.Gather.{gather, gifts, faults, moves}
use Rattle.spd_words.specs.declared.finish_kind.FinishKind.{FinishKind}
use Rattle.spd_region.specs.declared.finish.Finish.{Finish}
use Rattle.spd_region.specs.declared.outer.Outer.{Outer}
use Rattle.spd_region.specs.declared.dag.Dag.{Dag}

-- A body may be run for a finish of this kind.
pub record MayRun (of : FinishKind) (v : BodyView) : Type 0 where
  pub kind : v.means.kind ≡ of
  pub awaited : v.means.awaited ≡ None
  pub stage : v.stage ≡ Going
  pub tame : IsTame v.means

abbrev pub promise_of : BodyView → Promise
promise_of v = v.means.promise

-- what a body gives to its finish
abbrev pub promised_total : BodyView → Total
promised_total v = record { gift = v.means.promise.gift; fault = v.means.promise.fault }

-- the moves that a region draws whose first vertex runs this body: its own, and those that are promised
abbrev pub drawn_within : ℕ → BodyView → ℕ
drawn_within most v = min (v.means.promise.moves + 1) most

-- ---- a dag, with what is told of bodies in place of the bodies

pub record DagView : Type 0 where
  pub innermost : Finish
  -- the newest last
  pub ready : List BodyView
  -- the innermost first
  pub outside : List (Outer BodyView)
  pub drawn : ℕ
  pub most : ℕ

abbrev pub outer_view : {B : Type 0} → (B → BodyView) → Outer B → Outer BodyView
outer_view view o = record { finish = o.finish; waiting = view o.waiting }

abbrev pub dag_view : {B : Type 0} → (B → BodyView) → Dag B → DagView
dag_view view dag = record {
  innermost = dag.innermost;
  ready = map view dag.ready.items;
  outside = map (outer_view view) (reverse dag.outside.items);
  drawn = dag.drawn;
  most = dag.most;
}

-- ---- one finish

-- a finish with one vertex, to which nothing has been given yet
abbrev pub begun_finish : FinishKind → Finish
begun_finish kind = record { tally = begun kind; in_counter = 1 }

-- The vertex w is one more of the innermost finish, and ready, as u is.
abbrev pub forked : DagView → BodyView → BodyView → DagView
forked t u w = record t {
  innermost = record t.innermost { in_counter = t.innermost.in_counter + 1 };
  ready = (t.ready ++ u ∷ []) ++ w ∷ [];
}

-- The vertex u waits for a finish inside of this kind, of which w is the first vertex.
abbrev pub opened : DagView → BodyView → FinishKind → BodyView → DagView
opened t u k w = record t {
  innermost = begun_finish k;
  ready = t.ready ++ w ∷ [];
  outside = record { finish = t.innermost; waiting = u } ∷ t.outside;
}

-- The vertices of this finish that haven't ended are these, and with what they promise it will have `end`.
pub record FinishWillHave (f : Finish) (unended : List BodyView) (end : Total) : Type 0 where
  pub counted : f.in_counter ≡ length unended
  pub lawful : join f.tally.kind (identity f.tally.kind) f.tally.gift ≡ f.tally.gift
  pub bound : f.tally.fault ≤ no_fault
  pub gift : gifts promise_of f.tally.kind f.tally.gift unended ≡ end.gift
  pub fault : faults promise_of f.tally.fault unended ≡ end.fault

-- ---- the whole dag

abbrev pub AllMayRun : FinishKind → List BodyView → Type 0
AllMayRun kind [] = Unit {0}
AllMayRun kind (v ∷ vs) = MayRun kind v × AllMayRun kind vs

-- A vertex of a finish of this kind waits for a finish that will have `inner`: it expects what leaves that finish.
pub record VertexWaits (of : FinishKind) (inner : Total) (v : BodyView) : Type 0 where
  pub kind : v.means.kind ≡ of
  pub awaited : Expects v.means.awaited (settle inner).gift (settle inner).fault
  pub stage : v.stage ≡ Going
  pub tame : IsTame v.means

-- a finish outside, where the finish inside it will have `inner`; of these vertices that are ready it has `own`
pub record OuterWillHave (o : Outer BodyView) (ready : List BodyView) (inner : Total) : Type 0 where
  pub before : List BodyView
  pub own : List BodyView
  pub end : Total
  pub ready_is : ready ≡ before ++ own
  pub may : AllMayRun o.finish.tally.kind own
  pub waits : VertexWaits o.finish.tally.kind inner o.waiting
  pub has : FinishWillHave o.finish (own ++ o.waiting ∷ []) end

-- Where the innermost finish will have `inner`, the outermost will have `top`.
abbrev pub OutermostWillHave : List (Outer BodyView) → List BodyView → Total → Total → Type 0
OutermostWillHave [] ready inner top = (ready ≡ []) × (inner ≡ top)
OutermostWillHave (o ∷ os) ready inner top =
    (a : OuterWillHave o ready inner) × OutermostWillHave os a.before a.end top

-- The vertex is run in this dag, apart from those that are ready, and the outermost finish will have `top`.
pub record DagRuns (t : DagView) (v : BodyView) (top : Total) : Type 0 where
  pub before : List BodyView
  pub own : List BodyView
  pub inner : Total
  pub ready : t.ready ≡ before ++ own
  pub may : AllMayRun t.innermost.tally.kind own
  pub now : MayRun t.innermost.tally.kind v
  pub has : FinishWillHave t.innermost (own ++ v ∷ []) inner
  pub outside : OutermostWillHave t.outside before inner top

-- Between two turns: the newest vertex can be run, and the outermost finish will have `top`.
pub record DagAtRest (t : DagView) (top : Total) : Type 0 where
  pub rest : List BodyView
  pub newest : BodyView
  pub ready : t.ready ≡ rest ++ newest ∷ []
  pub runs : DagRuns (record t { ready = rest }) newest top

-- The innermost finish has ended, and the outermost will have `top`.
abbrev pub DagAtEnd : DagView → Total → Type 0
DagAtEnd t top =
    (t.innermost.in_counter ≡ 0) × OutermostWillHave t.outside t.ready (total_of t.innermost.tally) top

-- ---- sums over all vertices

abbrev pub waiting_of : Outer BodyView → BodyView
waiting_of o = o.waiting

-- what is left to run of these
abbrev pub sizes : List BodyView → ℕ
sizes vs = gather (λ m n. m + n) 0 (λ v. v.size + 1) vs

-- what is left to run, which falls with each turn
abbrev pub dag_size : DagView → ℕ
dag_size t = sizes t.ready + sizes (map waiting_of t.outside)

-- the moves that the vertices promise
abbrev pub owed_moves : DagView → ℕ
owed_moves t = moves promise_of t.ready + moves promise_of (map waiting_of t.outside)

-- With so many more moves promised, `all` moves will have been drawn at the end.
pub record DagDraws (t : DagView) (more all : ℕ) : Type 0 where
  pub few : t.drawn ≤ t.most
  pub all_is : min (t.drawn + (owed_moves t + more)) t.most ≡ all
