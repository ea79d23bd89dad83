-- How many moves and grown nodes a table has, and where each of its words stands.
use Rattle.std.specs.Prelude.{◌≡◌, ℕ, ◌+◌, ◌-◌, ◌*◌, ◌<◌, ◌≤◌}
use Rattle.spd_words.specs.declared.scheme.Scheme.{Scheme}
use Rattle.spd_words.specs.declared.scheme.Scheme.TheVariants.{Flat, Level, Grow}

-- a plan: the scheme of its trees, its moves, and its nodes beyond the roots
pub record PlanView : Type 0 where
  pub scheme : Scheme
  pub moves : ℕ
  pub grown : ℕ

abbrev pub most_moves : ℕ
most_moves = 262144

-- the greatest number of grown nodes that may be asked for
abbrev pub most_grown : ℕ
most_grown = 262144

-- A plan may have so many moves.
pub record MayHaveMoves (moves : ℕ) : Type 0 where
  pub some : 1 ≤ moves
  pub most : moves ≤ most_moves

-- Its trees grow, and more nodes are asked for than may be grown.
pub record AsksTooMuch (scheme : Scheme) (moves asked : ℕ) : Type 0 where
  pub lawful : MayHaveMoves moves
  pub grows : scheme ≡ Grow
  pub beyond : most_grown < asked

-- the nodes beyond the roots: none, two below each root from the start, or as many as are asked for
abbrev pub grown_nodes : Scheme → ℕ → ℕ → ℕ
grown_nodes Flat moves asked = 0
grown_nodes Level moves asked = 2 * moves
grown_nodes Grow moves asked = asked

abbrev pub planned : Scheme → ℕ → ℕ → PlanView
planned scheme moves asked = record { scheme = scheme; moves = moves; grown = grown_nodes scheme moves asked }

-- what holds of each plan: its numbers are within their bounds, and its nodes are those of its scheme
pub record IsPlan (p : PlanView) : Type 0 where
  pub moves : MayHaveMoves p.moves
  pub grown : p.grown ≤ 2 * most_grown
  pub scheme : grown_nodes p.scheme p.moves p.grown ≡ p.grown

-- ---- places

-- the numbers of moves and of grown nodes that were drawn, and the mark of the end
abbrev pub moves_place : ℕ
moves_place = 0

abbrev pub grown_place : ℕ
grown_place = 1

abbrev pub done_place : ℕ
done_place = 2

-- the roots and the grown nodes
abbrev pub nodes : PlanView → ℕ
nodes p = p.moves + p.grown

abbrev pub node_place : PlanView → ℕ → ℕ
node_place p n = 3 + n

abbrev pub child_place : PlanView → ℕ → ℕ
child_place p n = 3 + nodes p + n

-- of a grown node, whose number is not below that of the moves
abbrev pub parent_place : PlanView → ℕ → ℕ
parent_place p n = 3 + 2 * nodes p + (n - p.moves)

abbrev pub pair_place : PlanView → ℕ → ℕ
pair_place p d = 3 + 2 * p.moves + 3 * p.grown + d

abbrev pub vertex_place : PlanView → ℕ → ℕ
vertex_place p v = 3 + 3 * p.moves + 3 * p.grown + v

abbrev pub gift_place : PlanView → ℕ → ℕ
gift_place p d = 3 + 5 * p.moves + 3 * p.grown + d

abbrev pub fault_place : PlanView → ℕ → ℕ
fault_place p d = 3 + 6 * p.moves + 3 * p.grown + d

abbrev pub plan_words : PlanView → ℕ
plan_words p = 3 + 7 * p.moves + 3 * p.grown
