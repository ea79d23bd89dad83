-- What a worker runs once it has asked to start a vertex.
use Rattle.std.specs.Prelude.{ℕ}
use Rattle.spd_words.specs.Meaning.{BodyView}
use Rattle.spd_state.specs.declared.view.Running.{Running}
use Rattle.spd_state.specs.declared.view.View.{View}
use Rattle.spd_vertex.specs.declared.starting.Start.{Start}
use Rattle.spd_vertex.specs.declared.starting.Start.TheVariants.{Ours, End, Taken}
use Rattle.spd_work.specs.Runs.{Rests, RunsTheEnd, RunsNew}

-- It runs the vertex with the body that it got, or the end, or nothing, where the vertex wasn't ready.
abbrev pub RunsStarted : {B : Type 0} → (B → BodyView) → ℕ → View → Start B → Type 0
RunsStarted view i v (Ours b) = (r : Running) × RunsNew v r i (view b)
RunsStarted view i v End = (r : Running) × RunsTheEnd v r
RunsStarted view i v (Taken state) = Rests v
