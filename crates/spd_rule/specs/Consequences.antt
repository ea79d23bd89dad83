-- What follows from the rule of a state: what a root of 0 leaves, who is told, when a vertex may start, the end, and bounds.
use Rattle.std.specs.Prelude.{◌≡◌, ◌≢◌, ℕ, ◌+◌, ◌*◌, ◌<◌, ◌≤◌, List, None, min, slice_index}
use Rattle.spd_words.specs.Plan.{PlanView, node_place, vertex_place}
use Rattle.spd_words.specs.Words.{node_of, vertex_of}
use Rattle.spd_state.specs.Sums.{total, Each}
use Rattle.spd_state.specs.Tree.{Under}
use Rattle.spd_state.specs.Dag.{Dag, units, openings, tellers, tree_right}
use Rattle.spd_state.specs.Unfinished.{unfinished}
use Rattle.spd_state.specs.declared.view.View.{View}

-- The finish f is over: none of its vertices is unfinished (stored, running or in flight), no unit is left under its root, and no share may
-- raise that root.
pub record IsFinished (p : PlanView) (a : Dag) (vs : List View) (f : ℕ) : Type 0 where
  pub none_left : unfinished p a vs f ≡ 0
  pub no_unit : (n : ℕ) → Under p a.trees f n → units p a vs n ≡ 0
  pub no_right : Each (λ (v : View). tree_right f v ≡ 0) vs

-- Nothing is left: every root is 0, no move is in flight, and every vertex of a drawn move but vertex 1 is started.
pub record IsAtEnd (p : PlanView) (a : Dag) (vs : List View) : Type 0 where
  pub roots : (f : ℕ) → f < p.moves → (a.nodes f).twice ≡ 0
  pub none_flies : Each (λ (v : View). v.flight ≡ None) vs
  pub bodies : (d : ℕ) → d < p.moves → d < a.drawn → 3 ≤ (a.vertices (2 * d)).state
  pub rests : (d : ℕ) → d < p.moves → d < a.drawn → 0 < d → 3 ≤ (a.vertices (2 * d + 1)).state

pub record Consequences (p : PlanView) (a : Dag) (vs : List View) : Type 0 where
  -- a root of 0 leaves nothing, and never rises again
  pub over : (f : ℕ) → f < p.moves → (a.nodes f).twice ≡ 0 → IsFinished p a vs f
  -- no finish is told to two shares, nor to one twice
  pub told : (f : ℕ) → f < p.moves → tellers vs f ≤ 1
  -- The waiting vertex of an open finish is ready or started only where the finish's root is 0.
  pub woken : (f : ℕ) → f < p.moves → 0 < openings a.vertices vs f → 2 ≤ (a.vertices (2 * f + 1)).state → (a.nodes f).twice ≡ 0
  pub ended : 2 ≤ (a.vertices 1).state → IsAtEnd p a vs
  pub drawn : a.drawn ≤ p.moves + 64
  pub bred : a.bred ≤ p.grown + 128
  -- at most two grown nodes for each spawn
  pub grown : a.bred ≤ 2 * total (λ (v : View). v.spawns) vs

-- ---- the same of words

-- Once vertex 1 is ready or started, every root is 0 and every other vertex of a drawn move is started.
pub record EndsAllStarted (p : PlanView) (words : List ℕ) : Type 0 where
  pub roots : 2 ≤ (vertex_of (slice_index words (vertex_place p 1))).state → (f : ℕ) → f < p.moves
      → (node_of (slice_index words (node_place p f))).twice ≡ 0
  pub vertices : 2 ≤ (vertex_of (slice_index words (vertex_place p 1))).state → (v : ℕ) → v ≢ 1
      → v < 2 * min (slice_index words 0) p.moves → (vertex_of (slice_index words (vertex_place p v))).state ≡ 3
