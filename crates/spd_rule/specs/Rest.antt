-- The slots that a share holds, and that it holds none once it runs nothing and has no move in flight.
use Rattle.std.specs.Prelude.{ℕ, List, [], ◌∷◌, ◌++◌, Option, Some, None}
use Prim.Native.Nat.{suc}
use Rattle.atomic_table.specs.Table.{Me}
use Rattle.spd_words.specs.Words.{Node}
use Rattle.spd_state.specs.Steps.{sub_after}
use Rattle.spd_state.specs.Stages.{first_slot, second_slot}
use Rattle.spd_state.specs.declared.view.Draw.{Draw}
use Rattle.spd_state.specs.declared.view.Running.{Running}
use Rattle.spd_state.specs.declared.view.Flight.{Flight}
use Rattle.spd_state.specs.declared.view.View.{View}

-- those of the vertices of a move in flight that are yet to be stored, the next one in front
abbrev pub due_at : Draw → ℕ → ℕ → List ℕ
due_at draw d (suc (suc (suc stage))) = second_slot draw d ∷ []
due_at draw d _ = first_slot draw d ∷ second_slot draw d ∷ []

abbrev pub due_flight : Option Flight → List ℕ
due_flight None = []
due_flight (Some f) = due_at f.draw f.number f.stage

abbrev pub due_running : Option Running → List ℕ
due_running None = []
due_running (Some r) = r.vertex ∷ []

-- behind them that of the running vertex
abbrev pub due : Option Flight → Option Running → List ℕ
due f o = due_flight f ++ due_running o

-- A share that runs nothing and has no move in flight has given its slots home.
abbrev pub rested : {B : Type 0} → Option Running → Option Flight → Me (Option B) View → Me (Option B) View
rested None None me = (record me.0 { slots = [] }, [])
rested _ _ me = me

abbrev pub at_rest : {B : Type 0} → Me (Option B) View → Me (Option B) View
at_rest me = rested me.0.running me.0.flight me

-- a unit at d has left, where the word of the root was n
abbrev pub sub_known : {B : Type 0} → ℕ → Node → Me (Option B) View → Me (Option B) View
sub_known d n me = at_rest (sub_after d n me.0, me.1)
