-- How the numbers beside a seat change.
use Rattle.std.specs.Prelude.{◌≡◌, ◌+◌, ◌<◌, ℕ, List, [], Option, Some, None, Bool, true, false, length, cond, not, min, ◌||◌}
use Rattle.spd_state.specs.Sums.{same, count}
use Rattle.spd_words.specs.Words.{vertex_of}
use Rattle.spd_state.specs.Steps.{keep_if, is_over, start_run}
use Rattle.spd_state.specs.declared.view.Running.{Running}
use Rattle.spd_state.specs.declared.view.Flight.{Flight}
use Rattle.spd_state.specs.declared.view.Draw.{Draw}
use Rattle.spd_state.specs.declared.view.Draw.TheVariants.{Spawn}
use Rattle.spd_rule.specs.Steps.{drawn_flight}
use Rattle.spd_rule.specs.Moves.{after_first}
use Rattle.spd_rule.specs.declared.beside.Beside.{Beside}

-- the numbers of a share that holds nothing, with so many spare seats
pub record IsNewBeside (b : Beside) (spare : ℕ) : Type 0 where
  pub running : b.running ≡ None
  pub flight : b.flight ≡ None
  pub units : b.units.items ≡ []
  pub claimed : b.claimed ≡ 0
  pub told : b.told ≡ 0
  pub spares : b.spare ≡ spare
  pub full : b.full ≡ false
  pub starts : b.starts ≡ 0

-- One d less stands in the list, in whatever order.
abbrev pub TakesUnit : ℕ → List ℕ → List ℕ → Type 0
TakesUnit d old new = (n : ℕ) → count n new + same n d ≡ count n old

pub record HoldsOneMore (d : ℕ) (old new : Beside) : Type 0 where
  pub units : (n : ℕ) → count n new.units.items ≡ count n old.units.items + same n d
  pub running : new.running ≡ old.running
  pub flight : new.flight ≡ old.flight
  pub claimed : new.claimed ≡ old.claimed
  pub told : new.told ≡ old.told
  pub spare : new.spare ≡ old.spare
  pub full : new.full ≡ old.full
  pub starts : new.starts ≡ old.starts

-- For all lists with so many claimed units and told finishes: nothing, where such a share's vertex is over.
abbrev pub IsSettled : Option Running → Option Flight → ℕ → ℕ → Option Running → Type 0
IsSettled running flight claimed told new = (c t : List ℕ) → length c ≡ claimed → length t ≡ told
    → new ≡ keep_if (not (is_over running flight c t)) running

pub record DepartsFrom (d : ℕ) (last : Bool) (old new : Beside) : Type 0 where
  pub held : 0 < count d old.units.items → TakesUnit d old.units.items new.units.items × (new.claimed ≡ old.claimed)
  pub lone : count d old.units.items ≡ 0 → (new.units.items ≡ old.units.items) × (new.claimed + 1 ≡ old.claimed)
  pub told : new.told ≡ old.told + cond last 1 0
  pub running : IsSettled old.running old.flight new.claimed new.told new.running
  pub flight : new.flight ≡ old.flight
  pub spare : new.spare ≡ old.spare
  pub full : new.full ≡ old.full
  pub starts : new.starts ≡ old.starts

-- A finish is told no more.
pub record WakesBeside (old new : Beside) : Type 0 where
  pub told : new.told + 1 ≡ old.told
  pub running : IsSettled old.running old.flight old.claimed new.told new.running
  pub units : new.units ≡ old.units
  pub claimed : new.claimed ≡ old.claimed
  pub flight : new.flight ≡ old.flight
  pub spare : new.spare ≡ old.spare
  pub full : new.full ≡ old.full
  pub starts : new.starts ≡ old.starts

-- The vertex i runs, whose word was seen.
abbrev pub StartsBeside : ℕ → ℕ → Beside → Beside → Type 0
StartsBeside i seen old new = new ≡ record old { running = Some (start_run i (vertex_of seen)); starts = old.starts + 1 }

-- The spare seats and the starts of another share come to these, as far as the type goes, and so does its mark.
abbrev pub JoinsBeside : Beside → Beside → Beside → Type 0
JoinsBeside old other new = new ≡ record old {
  spare = old.spare + other.spare;
  full = old.full || other.full;
  starts = min (old.starts + other.starts) 18446744073709551615;
}

-- the move in flight at this stage
abbrev pub flight_at : ℕ → Option Flight → Option Flight
flight_at stage None = None
flight_at stage (Some f) = Some (record f { stage = stage })

abbrev pub is_spawn : Draw → Bool
is_spawn Spawn = true
is_spawn _ = false

abbrev pub flies_spawn : Option Flight → Bool
flies_spawn None = false
flies_spawn (Some f) = is_spawn f.draw

abbrev pub PairsRoot : Beside → Beside → Type 0
PairsRoot old new = new ≡ record old { flight = flight_at 2 old.flight }

abbrev pub DrawsBeside : Draw → ℕ → Beside → Beside → Type 0
DrawsBeside draw n old new = new ≡ record old { flight = Some (drawn_flight draw n old.running) }

-- The claimed unit and another one have left for a pair.
pub record PairsUnits (second : ℕ) (old new : Beside) : Type 0 where
  pub units : TakesUnit second old.units.items new.units.items
  pub claimed : new.claimed ≡ 0
  pub flight : new.flight ≡ flight_at 2 old.flight
  pub running : new.running ≡ old.running
  pub told : new.told ≡ old.told
  pub spare : new.spare ≡ old.spare
  pub full : new.full ≡ old.full
  pub starts : new.starts ≡ old.starts

abbrev pub StoresFirst : Flight → Beside → Beside → Type 0
StoresFirst f old new = new ≡ record old {
  flight = Some (record f { stage = 3 });
  running = after_first f.draw old.running;
}

abbrev pub StoresLast : Beside → Beside → Type 0
StoresLast old new = new ≡ record old { flight = None; running = None }
