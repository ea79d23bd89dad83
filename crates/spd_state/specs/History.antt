-- What must have come before: who made a move in flight, which finish is below which, what is still as at the start, and what has been
-- counted.
use Rattle.std.specs.Prelude.{◌≡◌, ℕ, ◌+◌, ◌*◌, ◌<◌, ◌≤◌, List, [], length, Option, Some, None}
use Prim.Native.Nat.{zero, suc}
use Rattle.spd_words.specs.Gift.{no_fault}
use Rattle.spd_words.specs.Words.{Pair, Vertex}
use Rattle.spd_state.specs.Sums.{same, total, sum_below, Each}
use Rattle.spd_state.specs.Dag.{busy, right_in, runners, openings}
use Rattle.spd_state.specs.declared.view.Running.{Running}
use Rattle.spd_state.specs.declared.view.Flight.{Flight}
use Rattle.spd_state.specs.declared.view.Draw.{Draw}
use Rattle.spd_state.specs.declared.view.Draw.TheVariants.{Make, Chain, Spawn}
use Rattle.spd_state.specs.declared.view.View.{View}

-- 1 while the maker of a move in flight still has its place: a chain until it has stored the waiting vertex, a spawn until it has set its
-- pair
abbrev pub working_of : Draw → ℕ → ℕ
working_of Chain zero = 1
working_of Chain (suc zero) = 1
working_of Chain (suc (suc zero)) = 1
working_of Spawn zero = 1
working_of Spawn (suc zero) = 1
working_of _ _ = 0

-- What a share with a move in flight does meanwhile: it runs the vertex that made the move, unfinished while it has its place, and not
-- after.
pub record MakerOk (v : View) : Type 0 where
  pub above : (g : Flight) (r : Running) → v.flight ≡ Some g → v.running ≡ Some r → g.draw ≡ Chain → r.finish < g.number
  pub of : (g : Flight) (r : Running) → v.flight ≡ Some g → v.running ≡ Some r → g.draw ≡ Spawn → g.finish ≡ r.finish
  pub alive : (g : Flight) → v.flight ≡ Some g → 0 < working_of g.draw g.stage → (r : Running) × (v.running ≡ Some r)
      × (0 < r.right + length v.claimed)
  pub used : (g : Flight) → v.flight ≡ Some g → working_of g.draw g.stage ≡ 0 → (right_in v.running ≡ 0) × (v.claimed ≡ [])
  -- It neither has to collect nor is hurt.
  pub free : (g : Flight) → v.flight ≡ Some g → busy v.awaited + v.hurt ≡ 0
  pub first : (g : Flight) → v.flight ≡ Some g → g.draw ≡ Make → g.number ≡ 0

-- Each vertex of a move is one of a smaller finish, but for the body, which may be one of the finish that it opens, and for move 0, whose
-- vertices are of finish 0.
pub record Below (m : ℕ) (vertices : ℕ → Vertex) : Type 0 where
  pub rest : (d : ℕ) → d < m → 0 < d → 0 < (vertices (2 * d + 1)).state → (vertices (2 * d + 1)).finish < d
  pub body : (d : ℕ) → d < m → 0 < (vertices (2 * d)).state → (vertices (2 * d)).finish ≤ d
  pub end : 0 < (vertices 1).state → (vertices 1).finish ≡ 0

-- One share at most has yet to begin the make, and until then no move is drawn.
pub record Unmade (drawn fresh : ℕ) : Type 0 where
  pub alone : fresh ≤ 1
  pub none : 0 < fresh → drawn ≡ 0

-- The words of a finish that isn't open are as at the start.
pub record Shut (m : ℕ) (opens gifts faults : ℕ → ℕ) : Type 0 where
  pub gift : (f : ℕ) → f < m → opens f ≡ 0 → gifts f ≡ 0
  pub fault : (f : ℕ) → f < m → opens f ≡ 0 → faults f ≡ no_fault

-- The word of the end is 0 and no share has the mark, or vertex 1 is over and one share has it.
pub record Done (done : ℕ) (end : Vertex) (ending marks : ℕ) : Type 0 where
  pub one : done ≤ 1
  pub mark : marks ≡ done
  pub over : done ≡ 1 → (3 ≤ end.state) × (ending ≡ 0)

-- 1 where a vertex was made ready
abbrev pub woken : ℕ → ℕ
woken zero = 0
woken (suc zero) = 0
woken (suc (suc s)) = 1

-- 1 while a spawn in flight hasn't set its pair
abbrev pub fork_of : Draw → ℕ → ℕ
fork_of Spawn zero = 1
fork_of Spawn (suc zero) = 1
fork_of _ _ = 0

-- the same of the move in flight, where there is one
abbrev pub forks_in : Option Flight → ℕ
forks_in None = 0
forks_in (Some f) = fork_of f.draw f.stage

-- The vertices that the shares made ready are those that are ready or started; the spawns that they drew are the pairs of two handles, and
-- those in
-- flight before that.
pub record Tallied (m : ℕ) (pairs : ℕ → Pair) (vertices : ℕ → Vertex) (vs : List View) : Type 0 where
  pub ready : total (λ (v : View). v.ready) vs ≡ sum_below (2 * m) (λ x. woken (vertices x).state)
  pub spawns : total (λ (v : View). v.spawns) vs ≡ sum_below m (λ d. same 2 (pairs d).total) + total (λ (v : View). forks_in v.flight) vs

-- all of this together
pub record History (m drawn done : ℕ) (pairs : ℕ → Pair) (vertices : ℕ → Vertex) (gifts faults : ℕ → ℕ) (vs : List View) : Type 0 where
  pub makers : Each MakerOk vs
  pub below : Below m vertices
  pub unmade : Unmade drawn (total (λ (v : View). v.fresh) vs)
  pub shut : Shut m (openings vertices vs) gifts faults
  pub ended : Done done (vertices 1) (runners vs 1) (total (λ (v : View). v.done) vs)
  pub tallied : Tallied m pairs vertices vs
