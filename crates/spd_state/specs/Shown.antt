-- Vertices that shares have seen ready: a fact beside the rule, which a start rests on that comes too late.
use Rattle.std.specs.Prelude.{◌≡◌, ℕ, ◌+◌, ◌*◌, ◌<◌, ◌≤◌, List, ◌∷◌, cond, ◌==◌}
use Rattle.spd_words.specs.Words.{Vertex}
use Rattle.spd_state.specs.Sums.{Each}
use Rattle.spd_state.specs.Steps.{stepped}
use Rattle.spd_state.specs.declared.view.Shown.{Shown}
use Rattle.spd_state.specs.declared.view.View.{View}

-- the word that was seen, with this state
abbrev pub shown_word : ℕ → Shown → Vertex
shown_word state s = record { state = state; side = s.side; pair = s.pair; finish = s.finish; inc = s.inc }

-- a vertex as it was seen
abbrev pub shown_of : ℕ → Vertex → Shown
shown_of i x = record { vertex = i; side = x.side; pair = x.pair; finish = x.finish; inc = x.inc }

-- It stands as it was seen, or it was started since.
pub record ShownOk (m : ℕ) (vertices : ℕ → Vertex) (s : Shown) : Type 0 where
  pub low : s.vertex < 2 * m
  pub woken : 2 ≤ (vertices s.vertex).state
  pub word : vertices s.vertex ≡ shown_word (vertices s.vertex).state s

-- All that any share has seen ready stands so.
abbrev pub AllShown : ℕ → (ℕ → Vertex) → List View → Type 0
AllShown m vertices vs = Each (λ (v : View). Each (ShownOk m vertices) v.shown) vs

-- `see_vertex` notes a ready vertex
abbrev pub note_ready : ℕ → Vertex → View → View
note_ready i x v = record v { shown = shown_of i x ∷ v.shown; steps = v.steps + 1 }

-- and nothing where the vertex isn't ready
abbrev pub see_after : ℕ → Vertex → View → View
see_after i x v = cond (x.state == 2) (note_ready i x v) (stepped v)
