-- The rule, part by part. Each part is over the words and the numbers that it names.
use Rattle.std.specs.Prelude.{◌≡◌, ◌≢◌, ℕ, ◌+◌, ◌*◌, ◌<◌, ◌≤◌, List, [], ◌∷◌, length, cond, Option, Some, None}
use mathlib.Core.Option.{some}
use mathlib.Core.Option as maybe
use lib.ListN.{get_elem?}
use Rattle.atomic_table.specs.Seated.{TableId}
use Rattle.spd_words.specs.Plan.{PlanView, IsPlan}
use Rattle.spd_words.specs.Words.{Node, Pair, Vertex}
use Rattle.spd_state.specs.Sums.{total, Each, count, sum_below}
use Rattle.spd_state.specs.Tree.{Trees, Under, Forest, lives, NodeRule, no_node, Bare, TreeOk, GrowthRule}
use Rattle.spd_state.specs.Dag.{halves, aboves, nursed, above_of, Dag, started, runners, flights, earlies, tellers, holders, units, rights}
use Rattle.spd_state.specs.Dag.{openings}
use Rattle.spd_state.specs.Dag.{load_of, goods, busy, root_of, root_only, body_left, rest_left}
use Rattle.spd_state.specs.declared.view.Running.{Running}
use Rattle.spd_state.specs.declared.view.Flight.{Flight}
use Rattle.spd_state.specs.History.{History}
use Rattle.spd_state.specs.declared.view.View.{View}

-- the word of a pair as at the start
abbrev pub no_pair : Pair
no_pair = record { claims = 0; total = 0; kind = 0; first = 0; second = 0 }

-- and the word of a vertex
abbrev pub no_vertex : Vertex
no_vertex = record { state = 0; side = 0; pair = 0; finish = 0; inc = 0 }

-- The words of a move that isn't drawn are as at the start. A drawn move is stored, or in flight in one view.
pub record MoveRule (m drawn : ℕ) (nodes : ℕ → Node) (pairs : ℕ → Pair) (vertices : ℕ → Vertex) (flying : ℕ → ℕ) : Type 0 where
  pub blank_root : (d : ℕ) → d < m → drawn ≤ d → nodes d ≡ no_node
  pub blank_pair : (d : ℕ) → d < m → drawn ≤ d → pairs d ≡ no_pair
  pub blank_body : (d : ℕ) → d < m → drawn ≤ d → vertices (2 * d) ≡ no_vertex
  pub blank_rest : (d : ℕ) → d < m → drawn ≤ d → vertices (2 * d + 1) ≡ no_vertex
  pub grounded : (d : ℕ) → d < m → drawn ≤ d → flying d ≡ 0
  pub alone : (d : ℕ) → d < m → flying d ≤ 1
  pub body_there : (d : ℕ) → d < m → d < drawn → flying d ≡ 0 → 0 < (vertices (2 * d)).state
  pub rest_there : (d : ℕ) → d < m → d < drawn → flying d ≡ 0 → 0 < (vertices (2 * d + 1)).state

-- Word 0 passes M only by draws that found no move left, at most one for each seat, of which there are 64 at most.
pub record MarkRule (m drawn : ℕ) (vs : List View) : Type 0 where
  pub most : drawn ≤ m + total (λ v. v.full_draws) vs
  pub passed : Each (λ v. 0 < v.full_draws → m < drawn) vs
  pub by_seats : Each (λ v. v.full_draws ≤ v.seats) vs
  pub seats : total (λ v. v.seats + v.spare) vs ≤ 64

-- The vertices that the shares started are those that are started. A share without a seat has started none.
pub record StartRule (m : ℕ) (vertices : ℕ → Vertex) (vs : List View) : Type 0 where
  pub all : total (λ (v : View). v.starts) vs ≡ sum_below (2 * m) (λ x. started (vertices x).state)
  pub spent : Each (λ (v : View). v.seats ≡ 0 → v.starts ≡ 0) vs

-- A running vertex is started, and no two shares run one vertex.
pub record RunRule (m : ℕ) (vertices : ℕ → Vertex) (running : ℕ → ℕ) : Type 0 where
  pub one : (v : ℕ) → v < 2 * m → running v ≤ started (vertices v).state

-- Nothing has a unit in the tree of a finish that isn't open. Each stored vertex is one of an open finish, and increments under its root.
pub record LiveRule (p : PlanView) (t : Trees) (opens units : ℕ → ℕ) (vertices : ℕ → Vertex) : Type 0 where
  pub shut : (n : ℕ) → n < p.moves + p.grown → lives t opens n ≡ 0 → units n ≡ 0
  pub finish : (v : ℕ) → v < 2 * p.moves → 0 < (vertices v).state → ((vertices v).finish < p.moves) × (0 < opens (vertices v).finish)
  pub inc : (v : ℕ) → v < 2 * p.moves → 0 < (vertices v).state → Under p t (vertices v).finish (vertices v).inc

-- The handles of a pair lie under the root f.
pub record Tops (p : PlanView) (t : Trees) (f : ℕ) (q : Pair) : Type 0 where
  pub first : Under p t f q.first
  pub second : q.total ≡ 2 → Under p t f q.second

-- The claims of each pair and the rights to claim there are its total. A vertex with a right has its handles under its finish.
pub record PairRule (p : PlanView) (t : Trees) (pairs : ℕ → Pair) (vertices : ℕ → Vertex) (rights : ℕ → ℕ) : Type 0 where
  pub balance : (d : ℕ) → d < p.moves → (pairs d).claims + rights d ≡ (pairs d).total
  pub most : (d : ℕ) → d < p.moves → (pairs d).total ≤ 2
  pub pair : (v : ℕ) → v < 2 * p.moves → 0 < (vertices v).state → (vertices v).pair < p.moves
  pub tops : (v : ℕ) → v < 2 * p.moves → 0 < (vertices v).state → (vertices v).state < 3 → v ≢ 1
      → Tops p t (vertices v).finish (pairs (vertices v).pair)

-- Of an open finish: while its root has a unit, its vertex 2f + 1 waits or is yet to be stored, and no share is told f.
-- Once it has none, either the vertex waits and one share is told f, or it was woken and none is.
pub record FinishRule (m : ℕ) (vertices : ℕ → Vertex) (opens units told early : ℕ → ℕ) : Type 0 where
  pub untold : (f : ℕ) → f < m → opens f ≡ 0 → told f ≡ 0
  pub going : (f : ℕ) → f < m → 0 < opens f → 0 < units f → ((vertices (2 * f + 1)).state ≤ 1) × (told f ≡ 0)
  pub coming : (f : ℕ) → f < m → 0 < opens f → (vertices (2 * f + 1)).state ≡ 0 → early f ≡ 1
  pub over : (f : ℕ) → f < m → 0 < opens f → units f ≡ 0 → 0 < (vertices (2 * f + 1)).state
  pub tell : (f : ℕ) → f < m → 0 < opens f → units f ≡ 0 → (vertices (2 * f + 1)).state ≡ 1 → told f ≡ 1
  pub woken : (f : ℕ) → f < m → 0 < opens f → units f ≡ 0 → 2 ≤ (vertices (2 * f + 1)).state → told f ≡ 0

-- 1 where a slot is at home
abbrev pub home : {S : Type 0} → maybe.Option (maybe.Option S) → ℕ
home (some (some s)) = 1
home _ = 0

-- A slot is at home or with one share. A waiting or ready vertex has its body at home; vertex 1, and a move that isn't drawn, have none.
pub record SlotRule {B : Type 0} (m drawn : ℕ) (vertices : ℕ → Vertex) (held : ℕ → ℕ)
    (homes : List (maybe.Option (Option B))) : Type 0 where
  pub one : (v : ℕ) → v < 2 * m → home (get_elem? homes v) + held v ≡ 1
  pub body : (v : ℕ) → v < 2 * m → 0 < (vertices v).state → (vertices v).state < 3 → v ≢ 1 → (b : B)
      × (get_elem? homes v ≡ some (some (Some b)))
  pub end : 0 < (vertices 1).state → (vertices 1).state < 3 → get_elem? homes 1 ≡ some (some None)
  pub fresh : (d : ℕ) → d < m → drawn ≤ d → (get_elem? homes (2 * d) ≡ some (some None)) × (get_elem? homes (2 * d + 1) ≡ some (some None))

-- The numbers of a running vertex are within the plan.
abbrev pub IsInside : PlanView → Running → Type 0
IsInside p r = (r.vertex < 2 * p.moves) × (r.pair < p.moves) × (r.finish < p.moves) × (r.inc < p.moves + p.grown)

-- The same, by the counts of the plan's table.
abbrev pub IsWithin : TableId → Running → Type 0
IsWithin z r = (r.vertex < z.slots) × (2 * r.pair < z.slots) × (2 * r.finish < z.slots) × (3 * r.inc + 2 * z.slots + 3 < z.words)

-- What a view has of its running vertex is the vertex's word, and the handles that it may claim lie under its finish.
pub record RunOk (p : PlanView) (t : Trees) (pairs : ℕ → Pair) (vertices : ℕ → Vertex) (r : Running) : Type 0 where
  pub vertex : r.vertex < 2 * p.moves
  pub word : vertices r.vertex ≡ record { state = 3; side = r.side; pair = r.pair; finish = r.finish; inc = r.inc }
  pub right : r.right ≤ 1
  pub other : r.right ≡ 1 → r.vertex ≢ 1
  pub tops : r.right ≡ 1 → Tops p t r.finish (pairs r.pair)

-- the same of a view that may run nothing
abbrev pub RunsOk : PlanView → Trees → (ℕ → Pair) → (ℕ → Vertex) → Option Running → Type 0
RunsOk p t pairs vertices None = Unit {0}
RunsOk p t pairs vertices (Some r) = RunOk p t pairs vertices r

-- The words of a move in flight are as at the start until its stage sets them, and then its own.
pub record FlightOk (p : PlanView) (t : Trees) (drawn : ℕ) (nodes : ℕ → Node) (pairs : ℕ → Pair) (vertices : ℕ → Vertex)
    (f : Flight) : Type 0 where
  pub number : f.number < p.moves
  pub begun : f.number < drawn
  pub root : f.stage ≡ 0 → nodes f.number ≡ no_node
  pub pair : f.stage < 2 → pairs f.number ≡ no_pair
  pub finish : f.finish < p.moves
  pub tops : 2 ≤ f.stage → Tops p t f.finish (pairs f.number)
  pub root_finish : root_of f.draw 1 ≡ 1 → f.finish ≡ f.number
  pub handle : root_of f.draw 1 ≡ 1 → 2 ≤ f.stage → ((pairs f.number).first ≡ f.number) × ((pairs f.number).total ≡ 1)
  pub below : root_of f.draw 1 ≡ 0 → f.finish < f.number
  pub body : 0 < body_left f.draw f.stage → vertices (2 * f.number) ≡ no_vertex
  pub rest : 0 < rest_left f.draw f.stage → vertices (2 * f.number + 1) ≡ no_vertex
  pub body_there : body_left f.draw f.stage ≡ 0 → 0 < (vertices (2 * f.number)).state
  pub names : body_left f.draw f.stage ≡ 0 → (vertices (2 * f.number)).finish ≡ f.finish
  pub rest_there : rest_left f.draw f.stage ≡ 0 → 0 < (vertices (2 * f.number + 1)).state

-- the same of a view that may have no move in flight
abbrev pub FlightsOk : PlanView → Trees → ℕ → (ℕ → Node) → (ℕ → Pair) → (ℕ → Vertex) → Option Flight → Type 0
FlightsOk p t drawn nodes pairs vertices None = Unit {0}
FlightsOk p t drawn nodes pairs vertices (Some f) = FlightOk p t drawn nodes pairs vertices f

-- The claimed unit comes in the right's place, and lies under the running vertex's finish.
abbrev pub ClaimsOk : PlanView → Trees → Option Running → List ℕ → Type 0
ClaimsOk p t None claimed = claimed ≡ []
ClaimsOk p t (Some r) claimed = (r.right ≡ 1 → claimed ≡ []) × ((n : ℕ) → 0 < count n claimed → Under p t r.finish n)

-- The unit of the root that a move in flight has set stands in a list of its own until the pair is set.
abbrev pub RootedOk : Option Flight → List ℕ → Type 0
RootedOk None rooted = rooted ≡ []
RootedOk (Some f) rooted = rooted ≡ cond (root_only f.draw f.stage) (f.number ∷ []) []

-- What holds of a view without the words: its units are at nodes and few, and without a seat it has nothing in hand.
pub record OwnOk (p : PlanView) (t : Trees) (v : View) : Type 0 where
  pub claims : ClaimsOk p t v.running v.claimed
  pub rooted : RootedOk v.flight v.rooted
  pub there : (n : ℕ) → 0 < count n v.held + count n v.above → n < p.moves + p.grown
  pub lifts : (n : ℕ) → 0 < above_of n v → p.moves ≤ n
  pub single : length v.claimed ≤ 1
  pub tells : (n : ℕ) → 0 < count n v.told → n < p.moves
  pub spent : v.seats ≡ 0 → goods v ≡ 0
  pub few : load_of v ≤ 66 * v.seats
  pub seated : busy v.running ≤ v.seats
  pub sitting : busy v.flight ≤ v.seats

-- A share draws nodes at most once for each spawn that it drew, and past G at most once for each seat.
pub record GrowsOk (p : PlanView) (bred grow_draws full_grows spawns seats : ℕ) : Type 0 where
  pub paid : grow_draws ≤ spawns
  pub passed : 0 < full_grows → p.grown < bred
  pub by_seats : full_grows ≤ seats

-- The whole rule, over the typed words, the bodies at home and the views
pub record Rule {B : Type 0} (p : PlanView) (a : Dag) (homes : List (maybe.Option (Option B))) (vs : List View) : Type 0 where
  pub plan : IsPlan p
  pub history : History p.moves a.drawn a.done a.pairs a.vertices a.gifts a.faults vs
  pub own : Each (OwnOk p a.trees) vs
  pub running : Each (λ v. RunsOk p a.trees a.pairs a.vertices v.running) vs
  pub flying : Each (λ v. FlightsOk p a.trees a.drawn a.nodes a.pairs a.vertices v.flight) vs
  pub moves : MoveRule p.moves a.drawn a.nodes a.pairs a.vertices (flights vs)
  pub marks : MarkRule p.moves a.drawn vs
  pub starts : StartRule p.moves a.vertices vs
  pub runs : RunRule p.moves a.vertices (runners vs)
  pub live : LiveRule p a.trees (openings a.vertices vs) (units p a vs) a.vertices
  pub counts : NodeRule p.moves p.grown a.nodes (units p a vs) (halves vs)
  pub balances : PairRule p a.trees a.pairs a.vertices (rights p a.vertices vs)
  pub finishes : FinishRule p.moves a.vertices (openings a.vertices vs) (units p a vs) (tellers vs) (earlies vs)
  pub slots : SlotRule p.moves a.drawn a.vertices (holders vs) homes
  pub forest : Forest p a.trees
  pub bare : Bare p a.trees (openings a.vertices vs) a.nodes (halves vs) (aboves vs)
  pub trees : Each (λ v. TreeOk p a.trees a.nodes v.known v.links v.halves v.sprout) vs
  pub growth : GrowthRule p a.trees a.bred (total (λ v. v.grow_draws) vs) (total (λ v. v.full_grows) vs) (nursed vs)
  pub grows : Each (λ v. GrowsOk p a.bred v.grow_draws v.full_grows v.spawns v.seats) vs
