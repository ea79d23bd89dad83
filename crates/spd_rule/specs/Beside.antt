-- The numbers that a share keeps beside its seat.
use Rattle.std.specs.Prelude.{◌≡◌, ◌<◌, ◌≤◌, ◌*◌, ℕ, Option, Some, length, map, min}
use lib.Dec.{ltb}
use Rattle.atomic_table.specs.Table.{Me}
use Rattle.atomic_table.specs.Seated.{TableId}
use Rattle.spd_words.specs.Plan.{most_moves}
use Rattle.spd_state.specs.Sums.{count}
use Rattle.spd_state.specs.Parts.{IsWithin}
use Rattle.spd_state.specs.declared.view.Running.{Running}
use Rattle.spd_state.specs.declared.view.Flight.{Flight}
use Rattle.spd_state.specs.declared.view.View.{View}
use Rattle.spd_rule.specs.declared.beside.Beside.{Beside}

-- They are those of the share's view and slots; and what steps have told of them stands too. A join doesn't tell how
-- few seats two shares have, so the number of starts ends at the greatest of its type; a share starts no more vertices
-- than the greatest plan has, for each of its seats.
pub record Mirrors {B : Type 0} (z : TableId) (me : Me (Option B) View) (b : Beside) : Type 0 where
  pub running : b.running ≡ me.0.running
  pub flight : b.flight ≡ me.0.flight
  pub units : (n : ℕ) → count n b.units.items ≡ count n me.0.held
  pub claimed : b.claimed ≡ length me.0.claimed
  pub told : b.told ≡ length me.0.told
  pub spare : b.spare ≡ me.0.spare
  pub marked : b.full ≡ ltb 0 me.0.full_draws
  pub starts : b.starts ≡ min me.0.starts 18446744073709551615
  pub begun : me.0.starts ≤ 2 * most_moves * me.0.seats
  pub inside : (r : Running) → b.running ≡ Some r → IsWithin z r × (r.side < 2)
  pub flies : (f : Flight) → b.flight ≡ Some f → 2 * f.number < z.slots
  pub few : 2 * b.told ≤ z.slots
  pub seated : 0 < me.0.seats
  pub slots : me.0.slots ≡ map (λ x. x.0) me.1
