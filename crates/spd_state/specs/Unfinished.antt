-- The unfinished vertices of a finish: those that its root counts for.
use Rattle.std.specs.Prelude.{ℕ, ◌+◌, ◌*◌, List, length, Option, Some, None}
use Prim.Native.Nat.{zero, suc}
use Rattle.spd_words.specs.Plan.{PlanView}
use Rattle.spd_words.specs.Words.{Vertex}
use Rattle.spd_state.specs.Sums.{same, gate, times, total, sum_below}
use Rattle.spd_state.specs.Dag.{Dag, waits, not_end}
use Rattle.spd_state.specs.declared.view.Running.{Running}
use Rattle.spd_state.specs.declared.view.Flight.{Flight}
use Rattle.spd_state.specs.declared.view.Draw.{Draw}
use Rattle.spd_state.specs.declared.view.Draw.TheVariants.{Spawn}
use Rattle.spd_state.specs.declared.view.View.{View}

-- a waiting or ready vertex other than 1
abbrev pub unstarted : ℕ → ℕ → Vertex → ℕ
unstarted f v x = gate (not_end v) (gate (waits x.state) (same f x.finish))

-- one that a share runs, with its right or its claimed unit still in hand
abbrev pub unsignalled : ℕ → Option Running → List ℕ → ℕ
unsignalled f None claimed = 0
unsignalled f (Some r) claimed = gate (not_end r.vertex) (gate (r.right + length claimed) (same f r.finish))

-- the vertices that are yet to be stored by a spawn which has set its pair, or the body of a make or a chain which has set its root
abbrev pub unstored_of : Draw → ℕ → ℕ
unstored_of Spawn (suc (suc zero)) = 2
unstored_of Spawn (suc (suc (suc s))) = 1
unstored_of Spawn _ = 0
unstored_of _ (suc s) = 1
unstored_of _ zero = 0

-- how many of these a move in flight has yet to store for the finish f
abbrev pub unstored : ℕ → Option Flight → ℕ
unstored f None = 0
unstored f (Some g) = times (unstored_of g.draw g.stage) (same f g.finish)

-- all of them together
abbrev pub unfinished : PlanView → Dag → List View → ℕ → ℕ
unfinished p a vs f = sum_below (2 * p.moves) (λ v. unstarted f v (a.vertices v))
    + total (λ (v : View). unsignalled f v.running v.claimed) vs + total (λ (v : View). unstored f v.flight) vs
