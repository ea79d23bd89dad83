-- What a body has come to, and what a worker goes on with.
use Rattle.std.specs.Prelude.{◌<◌, ℕ, Option, None, Some}
use Rattle.spd_words.specs.Meaning.{BodyView}
use Rattle.spd_words.specs.BodyCalls.{Advances, StaysTame, FitsNext, event_seen}
use Rattle.spd_words.specs.declared.event.Event.{Event}
use Rattle.spd_words.specs.declared.event.Part.{Part}
use Rattle.spd_state.specs.declared.view.Running.{Running}
use Rattle.spd_state.specs.declared.view.View.{View}
use Rattle.spd_work.specs.Runs.{Rests, RunsBody}

-- A share that ran this body, which came to the event; the rest is left of it.
pub record Meets {B : Type 0} (view : B → BodyView) (fits : B → Part B → Type 0) (v : View) (r : Running) (b : BodyView)
    (rest : B) (event : Event B) : Type 0 where
  pub runs : RunsBody v r b
  pub step : Advances b (view rest) (event_seen view event)
  pub stays : StaysTame b (view rest) (event_seen view event)
  pub fitting : FitsNext fits rest event

-- The share goes on with this body, of which less than the bound is left, or runs nothing any more.
abbrev pub BodyGoesOn : {B : Type 0} → (B → BodyView) → View → ℕ → Option B → Type 0
BodyGoesOn view v bound None = Rests v
BodyGoesOn view v bound (Some body) = ((r : Running) × RunsBody v r (view body)) × ((view body).size < bound)
