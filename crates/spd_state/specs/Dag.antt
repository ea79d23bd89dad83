-- The words of a table as one record of typed words, and the numbers that are read off it and off the views.
use Rattle.std.specs.Prelude.{◌≡◌, ℕ, ◌+◌, ◌*◌, ◌<◌, ◌≤◌, List, [], ◌∷◌, length, slice_index, take, drop, Option, Some, None, Bool, true}
use Rattle.std.specs.Prelude.{false}
use Prim.Native.Nat.{zero, suc}
use Rattle.spd_words.specs.Plan.{PlanView}
use Rattle.spd_words.specs.Words.{Node, Pair, Vertex, NodeFits, PairFits, VertexFits, pack_node, pack_pair, pack_vertex}
use Rattle.spd_words.specs.Plan.{plan_words, moves_place, grown_place, done_place, child_place, parent_place, node_place, pair_place}
use Rattle.spd_words.specs.Plan.{vertex_place}
use Rattle.spd_words.specs.Plan.{gift_place, fault_place}
use Rattle.spd_state.specs.Sums.{same, gate, times, total, count, sum_below}
use Rattle.spd_state.specs.Tree.{Trees, tree_units}
use Rattle.spd_state.specs.declared.trees.Half.{Half}
use Rattle.spd_state.specs.declared.trees.Known.{Known}
use Rattle.spd_state.specs.declared.trees.Sprout.{Sprout}
use Rattle.spd_state.specs.declared.view.Running.{Running}
use Rattle.spd_state.specs.declared.view.Flight.{Flight}
use Rattle.spd_state.specs.declared.view.Draw.{Draw}
use Rattle.spd_state.specs.declared.view.Draw.TheVariants.{Spawn}
use Rattle.spd_state.specs.declared.view.View.{View}
use Rattle.spd_words.specs.Meaning.{Awaited}

-- the words of a table, typed; the functions are over the numbers of nodes, moves, vertices and finishes
pub record Dag : Type 0 where
  -- how many moves and grown nodes were drawn
  pub drawn : ℕ
  pub bred : ℕ
  pub trees : Trees
  pub nodes : ℕ → Node
  pub pairs : ℕ → Pair
  pub vertices : ℕ → Vertex
  pub gifts : ℕ → ℕ
  pub faults : ℕ → ℕ
  -- 1 once the end has collected
  pub done : ℕ
  -- in no word: what each finish is to give, the region's number of moves with one more, and 1 where books are kept
  pub expects : ℕ → Awaited
  pub region : ℕ
  pub tame : ℕ

-- The words are the typed words, each at its place, and each number fits its field.
pub record IsWritten (p : PlanView) (a : Dag) (ws : List ℕ) : Type 0 where
  pub long : length ws ≡ plan_words p
  pub drawn : slice_index ws moves_place ≡ a.drawn
  pub bred : slice_index ws grown_place ≡ a.bred
  pub done : slice_index ws done_place ≡ a.done
  pub children : (n : ℕ) → n < p.moves + p.grown → slice_index ws (child_place p n) ≡ a.trees.children n
  pub parents : (n : ℕ) → p.moves ≤ n → n < p.moves + p.grown → slice_index ws (parent_place p n) ≡ a.trees.parents n
  pub nodes : (n : ℕ) → n < p.moves + p.grown → slice_index ws (node_place p n) ≡ pack_node (a.nodes n)
  pub pairs : (d : ℕ) → d < p.moves → slice_index ws (pair_place p d) ≡ pack_pair (a.pairs d)
  pub vertices : (v : ℕ) → v < 2 * p.moves → slice_index ws (vertex_place p v) ≡ pack_vertex (a.vertices v)
  pub gifts : (d : ℕ) → d < p.moves → slice_index ws (gift_place p d) ≡ a.gifts d
  pub faults : (d : ℕ) → d < p.moves → slice_index ws (fault_place p d) ≡ a.faults d
  pub nodes_fit : (n : ℕ) → n < p.moves + p.grown → NodeFits (a.nodes n)
  pub pairs_fit : (d : ℕ) → d < p.moves → PairFits (a.pairs d)
  pub vertices_fit : (v : ℕ) → v < 2 * p.moves → VertexFits (a.vertices v)
  pub gifts_fit : (d : ℕ) → d < p.moves → a.gifts d < 18446744073709551616
  pub faults_fit : (d : ℕ) → d < p.moves → a.faults d < 18446744073709551616

-- the handles of a pair that nobody has claimed
abbrev pub handles : Pair → List ℕ
handles p = drop p.claims (take p.total (p.first ∷ p.second ∷ []))

-- the handle that the next claim takes
abbrev pub next_handle : Pair → ℕ
next_handle p = slice_index (p.first ∷ p.second ∷ []) p.claims

-- ---- what a state counts for: 0 none, 1 waiting, 2 ready, 3 started

-- 1 for a vertex that waits or is ready
abbrev pub waits : ℕ → ℕ
waits zero = 0
waits (suc zero) = 1
waits (suc (suc zero)) = 1
waits (suc (suc (suc s))) = 0

-- 1 for a started one
abbrev pub started : ℕ → ℕ
started (suc (suc (suc s))) = 1
started _ = 0

-- 1 for one that isn't none
abbrev pub stored : ℕ → ℕ
stored zero = 0
stored (suc s) = 1

-- 1 for the number of a vertex other than 1
abbrev pub not_end : ℕ → ℕ
not_end (suc zero) = 0
not_end _ = 1

-- ---- what one word or one entry of a view counts for

-- 1 where the vertex v has a right to claim at the pair d: it waits or is ready, and isn't vertex 1
abbrev pub stands : ℕ → ℕ → Vertex → ℕ
stands d v x = gate (not_end v) (gate (waits x.state) (same d x.pair))

-- 1 where a stored vertex names the finish d
abbrev pub named : ℕ → Vertex → ℕ
named d x = gate (stored x.state) (same d x.finish)

-- 1 where the share runs the vertex v
abbrev pub runs_it : ℕ → Option Running → ℕ
runs_it v None = 0
runs_it v (Some r) = same v r.vertex

-- 1 where the share has its running vertex's right to claim at the pair d
abbrev pub has_right : ℕ → Option Running → ℕ
has_right d None = 0
has_right d (Some r) = gate r.right (same d r.pair)

-- 1 where the right is with the share, whatever the pair
abbrev pub right_in : Option Running → ℕ
right_in None = 0
right_in (Some r) = r.right

-- 1 where it is, and the vertex is one of finish n
abbrev pub right_at : ℕ → Option Running → ℕ
right_at n None = 0
right_at n (Some r) = gate r.right (same n r.finish)

-- ---- what a move in flight counts for, by what drew it and its stage

-- how many vertices with the move's pair are yet to be stored, once the pair is set
abbrev pub yet_of : Draw → ℕ → ℕ
yet_of Spawn (suc (suc zero)) = 2
yet_of Spawn (suc (suc (suc s))) = 1
yet_of Spawn _ = 0
yet_of _ (suc (suc s)) = 1
yet_of _ _ = 0

-- 1 from the step on that sets the root
abbrev pub root_of : Draw → ℕ → ℕ
root_of Spawn _ = 0
root_of _ s = stored s

-- 1 while its finish is open and the waiting vertex isn't stored
abbrev pub early_of : Draw → ℕ → ℕ
early_of Spawn _ = 0
early_of _ (suc zero) = 1
early_of _ (suc (suc zero)) = 1
early_of _ _ = 0

-- 1 while the vertex 2d isn't stored
abbrev pub body_left : Draw → ℕ → ℕ
body_left Spawn (suc (suc (suc s))) = 0
body_left _ _ = 1

-- 1 while the vertex 2d + 1 isn't stored
abbrev pub rest_left : Draw → ℕ → ℕ
rest_left Spawn _ = 1
rest_left _ (suc (suc (suc s))) = 0
rest_left _ _ = 1

-- The root is set and the pair isn't: its unit is with the share.
abbrev pub root_only : Draw → ℕ → Bool
root_only Spawn _ = false
root_only _ (suc zero) = true
root_only _ _ = false

-- the same of the move in flight d, where there is one
abbrev pub yet_in : ℕ → Option Flight → ℕ
yet_in d None = 0
yet_in d (Some f) = times (yet_of f.draw f.stage) (same d f.number)

-- 1 where it opens the finish d
abbrev pub opens_in : ℕ → Option Flight → ℕ
opens_in d None = 0
opens_in d (Some f) = gate (root_of f.draw f.stage) (same d f.number)

-- 1 where it is early, and opens the finish d
abbrev pub early_in : ℕ → Option Flight → ℕ
early_in d None = 0
early_in d (Some f) = gate (early_of f.draw f.stage) (same d f.number)

-- 1 where it is the move d
abbrev pub flies_in : ℕ → Option Flight → ℕ
flies_in d None = 0
flies_in d (Some f) = same d f.number

-- ---- what a view counts for

-- the rights to claim at the pair d, of its running vertex and of those that it has yet to store
abbrev pub right_of : ℕ → View → ℕ
right_of d v = has_right d v.running + yet_in d v.flight

-- how many entries "above k" stand for a unit at n, the parent of k
abbrev pub above_units : Trees → ℕ → List ℕ → ℕ
above_units t n l = total (λ k. same n (t.parents k)) l

-- the claimed unit, as a unit at n: at its node, or above it where the first number isn't 0
abbrev pub claimed_units : Trees → ℕ → ℕ → List ℕ → ℕ
claimed_units t n zero l = count n l
claimed_units t n (suc s) l = above_units t n l

-- all units at n
abbrev pub units_of : Trees → ℕ → View → ℕ
units_of t n v = count n v.held + claimed_units t n v.lifted v.claimed + count n v.rooted + above_units t n v.above

-- the claimed unit where it stands at its node n
abbrev pub claimed_at : ℕ → ℕ → List ℕ → ℕ
claimed_at zero n l = count n l
claimed_at (suc s) n l = 0

-- the claimed unit where it stands above its node n
abbrev pub claimed_above : ℕ → ℕ → List ℕ → ℕ
claimed_above zero n l = 0
claimed_above (suc s) n l = count n l

-- the entries "above n"
abbrev pub above_of : ℕ → View → ℕ
above_of n v = count n v.above + claimed_above v.lifted n v.claimed

-- the halves at n
abbrev pub half_of : ℕ → View → ℕ
half_of n v = total (λ (h : Half). same n h.node) v.halves

-- 1 where its unpublished pair is that of the node l
abbrev pub nurses : ℕ → Option Sprout → ℕ
nurses l None = 0
nurses l (Some q) = same l q.left

-- 1 where there is one
abbrev pub busy : {A : Type 0} → Option A → ℕ
busy None = 0
busy (Some x) = 1

-- how many units it has
abbrev pub load_of : View → ℕ
load_of v = length v.held + length v.claimed + length v.rooted + length v.above

-- how much it has in hand of anything, beside what it knows
abbrev pub goods : View → ℕ
goods v = busy v.running + busy v.flight + load_of v + length v.halves + busy v.sprout + length v.told + length v.slots

-- its units at the node n itself
abbrev pub hand : ℕ → View → ℕ
hand n v = count n v.held + claimed_at v.lifted n v.claimed + count n v.rooted

-- its rights in the tree of root f: the right to claim of a vertex of finish f, and units at nodes that it knows there
abbrev pub tree_right : ℕ → View → ℕ
tree_right f v = right_at f v.running + total (λ (k : Known). gate (same f k.top) (hand k.node v)) v.known

-- ---- sums over all views

-- how many shares run the vertex x
abbrev pub runners : List View → ℕ → ℕ
runners vs x = total (λ v. runs_it x v.running) vs

-- how many have the move d in flight
abbrev pub flights : List View → ℕ → ℕ
flights vs d = total (λ v. flies_in d v.flight) vs

-- how many of these are early
abbrev pub earlies : List View → ℕ → ℕ
earlies vs d = total (λ v. early_in d v.flight) vs

-- how often shares are told the finish f
abbrev pub tellers : List View → ℕ → ℕ
tellers vs f = total (λ v. count f v.told) vs

-- how often the slot x is with a share
abbrev pub holders : List View → ℕ → ℕ
holders vs x = total (λ v. count x v.slots) vs

-- ---- sums over words and views

-- the units at n: unclaimed handles, entries of views, and grown nodes with the parent n whose count is 1 at least
abbrev pub units : PlanView → Dag → List View → ℕ → ℕ
units p a vs n = sum_below p.moves (λ d. count n (handles (a.pairs d)))
    + total (units_of a.trees n) vs
    + tree_units p.moves p.grown a.trees.parents a.nodes n

-- the halves at n of all views
abbrev pub halves : List View → ℕ → ℕ
halves vs n = total (half_of n) vs

-- the entries "above n" of all views
abbrev pub aboves : List View → ℕ → ℕ
aboves vs n = total (above_of n) vs

-- how many shares have drawn the pair of the node l and not published it
abbrev pub nursed : List View → ℕ → ℕ
nursed vs l = total (λ v. nurses l v.sprout) vs

-- the rights to claim at the pair d
abbrev pub rights : PlanView → (ℕ → Vertex) → List View → ℕ → ℕ
rights p vertices vs d = sum_below (2 * p.moves) (λ v. stands d v (vertices v)) + total (right_of d) vs

-- 0 exactly where the finish d isn't open: its body names it, or a make or a chain in flight has set its root
abbrev pub openings : (ℕ → Vertex) → List View → ℕ → ℕ
openings vertices vs d = named d (vertices (2 * d)) + total (λ v. opens_in d v.flight) vs
