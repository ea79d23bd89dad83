-- The stages of a chain: which word each turn steps on and what it leaves there, and which stage comes next.
use Rattle.std.specs.Prelude.{◌+◌, ◌*◌, ℕ, cond}
use lib.Dec.{ltb}
use Rattle.spd_words.specs.Plan.{PlanView, moves_place, node_place, pair_place, vertex_place}
use Rattle.spd_words.specs.Words.{pack_pair, pack_vertex}
use Rattle.spd_words.specs.declared.finish_kind.FinishKind.{FinishKind}
use Rattle.spd_state.specs.Stages.{root_pair, chain_rest_vertex, body_vertex}
use Rattle.spd_state.specs.declared.view.Running.{Running}
use Rattle.spd_rule.specs.Moves.{pair_kind}
use Rattle.spd_dag.specs.Draws.{draw_writes}
use Rattle.spd_dag.specs.declared.chain.ChainStage.{ChainStage}
use Rattle.spd_dag.specs.declared.chain.ChainStage.TheVariants as stage

-- how many turns are left, at most
abbrev pub chain_left : ChainStage → ℕ
chain_left stage.Draw = 5
chain_left (stage.Root d) = 4
chain_left (stage.Pair d) = 3
chain_left (stage.Rest d) = 2
chain_left (stage.Body d) = 1

-- where the word of a turn's step stands
abbrev pub chain_place : PlanView → ChainStage → ℕ
chain_place p stage.Draw = moves_place
chain_place p (stage.Root d) = node_place p d
chain_place p (stage.Pair d) = pair_place p d
chain_place p (stage.Rest d) = vertex_place p (2 * d + 1)
chain_place p (stage.Body d) = vertex_place p (2 * d)

-- what a turn's step leaves there, by the chain's kind, the vertex that runs, and the word that it found
abbrev pub chain_writes : FinishKind → Running → ℕ → ChainStage → ℕ → ℕ
chain_writes kind r marks stage.Draw found = draw_writes marks found
chain_writes kind r marks (stage.Root d) found = 2
chain_writes kind r marks (stage.Pair d) found = pack_pair (root_pair d (pair_kind kind))
chain_writes kind r marks (stage.Rest d) found = pack_vertex (chain_rest_vertex r)
chain_writes kind r marks (stage.Body d) found = pack_vertex (body_vertex d)

-- what comes after a turn: another stage, the end of the move d, or that so many moves were drawn and none is left
pub data AfterChain : Type 0 where
  chain_goes : ChainStage → AfterChain
  chain_ends : ℕ → AfterChain
  chain_fills : ℕ → AfterChain

-- The table of turns: by the plan's moves, the stage and the word that its step found.
abbrev pub chain_next : ℕ → ChainStage → ℕ → AfterChain
chain_next moves stage.Draw found = cond (ltb found moves) (chain_goes (stage.Root found)) (chain_fills found)
chain_next moves (stage.Root d) found = chain_goes (stage.Pair d)
chain_next moves (stage.Pair d) found = chain_goes (stage.Rest d)
chain_next moves (stage.Rest d) found = chain_goes (stage.Body d)
chain_next moves (stage.Body d) found = chain_ends d
