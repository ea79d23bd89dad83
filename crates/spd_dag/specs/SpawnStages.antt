-- The stages of a spawn: which word each turn steps on and what it leaves there, and which stage comes next.
use Rattle.std.specs.Prelude.{◌+◌, ◌*◌, ◌%◌, ◌^◌, ℕ, cond}
use lib.Dec.{ltb}
use Rattle.spd_words.specs.Plan.{PlanView, moves_place, node_place, pair_place, vertex_place}
use Rattle.spd_words.specs.Words.{pair_of, pack_pair, pack_vertex}
use Rattle.spd_state.specs.Dag.{next_handle}
use Rattle.spd_state.specs.Stages.{spawn_pair, spawn_vertex}
use Rattle.spd_state.specs.declared.view.Running.{Running}
use Rattle.spd_dag.specs.Draws.{draw_writes}
use Rattle.spd_dag.specs.declared.spawn.SpawnStage.{SpawnStage}
use Rattle.spd_dag.specs.declared.spawn.SpawnStage.TheVariants as stage

-- how many turns are left, at most, under flat counters
abbrev pub spawn_left : SpawnStage → ℕ
spawn_left stage.Draw = 6
spawn_left (stage.Arrive d) = 5
spawn_left (stage.Claim d) = 4
spawn_left (stage.Pair d n) = 3
spawn_left (stage.Left d) = 2
spawn_left (stage.Right d) = 1

-- where the word of a turn's step stands
abbrev pub spawn_place : PlanView → Running → SpawnStage → ℕ
spawn_place p r stage.Draw = moves_place
spawn_place p r (stage.Arrive d) = node_place p r.inc
spawn_place p r (stage.Claim d) = pair_place p r.pair
spawn_place p r (stage.Pair d n) = pair_place p d
spawn_place p r (stage.Left d) = vertex_place p (2 * d)
spawn_place p r (stage.Right d) = vertex_place p (2 * d + 1)

-- what a turn's step leaves there, by the vertex that runs, the marks of the beginning and the word that it found
abbrev pub spawn_writes : Running → ℕ → SpawnStage → ℕ → ℕ
spawn_writes r marks stage.Draw found = draw_writes marks found
spawn_writes r marks (stage.Arrive d) found = (found + 2) % 2 ^ 64
spawn_writes r marks (stage.Claim d) found = (found + 1) % 2 ^ 64
spawn_writes r marks (stage.Pair d n) found = pack_pair (spawn_pair n r.inc)
spawn_writes r marks (stage.Left d) found = pack_vertex (spawn_vertex d r.finish 0 r.inc)
spawn_writes r marks (stage.Right d) found = pack_vertex (spawn_vertex d r.finish 1 r.inc)

-- what comes after a turn: another stage, the end of the move d, or that so many moves were drawn and none is left
pub data AfterSpawn : Type 0 where
  spawn_goes : SpawnStage → AfterSpawn
  spawn_ends : ℕ → AfterSpawn
  spawn_fills : ℕ → AfterSpawn

-- The table of turns: by the plan's moves, the stage and the word that its step found. It arrives before it claims.
abbrev pub spawn_next : ℕ → SpawnStage → ℕ → AfterSpawn
spawn_next moves stage.Draw found = cond (ltb found moves) (spawn_goes (stage.Arrive found)) (spawn_fills found)
spawn_next moves (stage.Arrive d) found = spawn_goes (stage.Claim d)
spawn_next moves (stage.Claim d) found = spawn_goes (stage.Pair d (next_handle (pair_of found)))
spawn_next moves (stage.Pair d n) found = spawn_goes (stage.Left d)
spawn_next moves (stage.Left d) found = spawn_goes (stage.Right d)
spawn_next moves (stage.Right d) found = spawn_ends d
