-- The stages of a signal: which word each turn steps on and what it leaves there, and which stage comes next.
use Rattle.std.specs.Prelude.{◌+◌, ◌-◌, ◌*◌, ◌%◌, ◌^◌, ◌==◌, ℕ, cond, Option, Some, None}
use Rattle.spd_words.specs.Plan.{PlanView, node_place, pair_place, vertex_place}
use Rattle.spd_words.specs.Words.{pair_of, node_of}
use Rattle.spd_state.specs.Dag.{next_handle}
use Rattle.spd_state.specs.declared.view.Running.{Running}
use Rattle.spd_dag.specs.declared.signal.SignalStage.{SignalStage}
use Rattle.spd_dag.specs.declared.signal.SignalStage.TheVariants as stage

-- how many turns are left, at most
abbrev pub signal_left : SignalStage → ℕ
signal_left stage.Claim = 3
signal_left (stage.Depart n) = 2
signal_left (stage.Wake f) = 1

-- where the word of a turn's step stands
abbrev pub signal_place : PlanView → Running → SignalStage → ℕ
signal_place p r stage.Claim = pair_place p r.pair
signal_place p r (stage.Depart n) = node_place p n
signal_place p r (stage.Wake f) = vertex_place p (2 * f + 1)

-- what a turn's step leaves there, by the word that it found: one claim more, one unit less, or ready after waiting
abbrev pub signal_writes : SignalStage → ℕ → ℕ
signal_writes stage.Claim found = (found + 1) % 2 ^ 64
signal_writes (stage.Depart n) found = (found + (2 ^ 64 - 2)) % 2 ^ 64
signal_writes (stage.Wake f) found = (found + 1) % 2 ^ 64

-- what comes after a turn: another stage, or the end with the vertex that it woke, if it woke one
pub data AfterSignal : Type 0 where
  signal_goes : SignalStage → AfterSignal
  signal_ends : Option ℕ → AfterSignal

-- The table of turns: by the stage and the word that its step found. A root is told where its count was 1.
abbrev pub signal_next : SignalStage → ℕ → AfterSignal
signal_next stage.Claim found = signal_goes (stage.Depart (next_handle (pair_of found)))
signal_next (stage.Depart n) found = cond ((node_of found).twice == 2) (signal_goes (stage.Wake n)) (signal_ends None)
signal_next (stage.Wake f) found = signal_ends (Some (2 * f + 1))
