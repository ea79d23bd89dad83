-- What a seat must be for a step, and what the rule must allow.
use Rattle.std.specs.Prelude.{◌≡◌, ◌<◌, ◌==◌, ℕ, Option}
use prog.Atomic.{either}
use Rattle.atomic_table.specs.Table.{Allows, Me}
use Rattle.atomic_table.specs.declared.shared.Seat.{Seat}
use Rattle.spd_state.specs.declared.view.View.{View}
use Rattle.spd_words.specs.Meaning.{BodyView}
use Rattle.spd_rule.specs.Held.{StepUnderRule}
use Rattle.spd_rule.specs.Kept.{Kept, StandsAround, means_of}
use Rattle.spd_rule.specs.declared.field.Field.{Field}

-- The seat is one of the field's table, which has this word.
pub record IsOfTable {B : Type 0} (f : Field B) (s : Seat (Option B) View) (word : ℕ) : Type 0 where
  pub fits : s.table_id ≡ f.table.shared.table_id
  pub inside : word < f.table.shared.table_id.words

pub record SeatStays {B : Type 0} (s t : Seat (Option B) View) : Type 0 where
  pub table : t.table_id ≡ s.table_id
  pub seat : t.id ≡ s.id

-- Whatever the table is under the rule when the word becomes f of what it was, the rule allows it and the step tells
-- this.
abbrev pub SeatMay : {B : Type 0} → (B → BodyView) → Field B → Seat (Option B) View → ℕ → (ℕ → ℕ)
    → (Me (Option B) View → ℕ → Me (Option B) View → Type 0) → Type 0
SeatMay view f s word change tells = Allows (Kept view f.plan) f.table.shared.table_id.slots s.id s.me word change (tells s.me)

abbrev pub SeatMayStore : {B : Type 0} → (B → BodyView) → Field B → Seat (Option B) View → ℕ → ℕ
    → (Me (Option B) View → ℕ → Me (Option B) View → Type 0) → Type 0
SeatMayStore view f s word x tells = Allows (Kept view f.plan) f.table.shared.table_id.slots s.id s.me word (λ _. x)
    (λ _. tells s.me x)

-- An exchange of `old` for `new` found this.
abbrev pub SeatExchanged : {B : Type 0} → Field B → ℕ → ℕ → ℕ → ℕ → Seat (Option B) View → Seat (Option B) View → Type 0
SeatExchanged f word old new found s t = StepUnderRule f.plan word found (either (found == old) new found) s.me t.me

-- The seat took one step under the rule, just before which and just after which the books stood.
abbrev pub SeatBooks : {B : Type 0} → (B → BodyView) → Field B → Seat (Option B) View → Seat (Option B) View → Type 0
SeatBooks view f s t = StandsAround (means_of view) f.plan s.me t.me
