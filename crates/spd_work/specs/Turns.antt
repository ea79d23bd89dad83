-- What a spawn, a chain and a signal leave that were driven to their end.
use Rattle.std.specs.Prelude.{◌≡◌, ℕ, ◌*◌, ◌<◌, [], Option, None, Some}
use Rattle.spd_rule.specs.Shares.{field_plan, share_known, share_view, share_bodies}
use Rattle.spd_rule.specs.declared.field.Field.{Field}
use Rattle.spd_rule.specs.declared.field.Share.{Share}
use Rattle.spd_dag.specs.Draws.{unmoved_known}
use Rattle.spd_dag.specs.Ends.{IsOver}
use Rattle.spd_work.specs.declared.turns.Spawned.{Spawned}
use Rattle.spd_work.specs.declared.turns.Spawned.TheVariants as spawned
use Rattle.spd_work.specs.declared.turns.Chained.{Chained}
use Rattle.spd_work.specs.declared.turns.Chained.TheVariants as chained

-- The share has ended its vertex in so many turns, with so many more vertices ready, and holds no slot.
pub record EndsVertex {B : Type 0} (f : Field B) (more turns : ℕ) (s t : Share B) : Type 0 where
  pub over : IsOver (field_plan f) (share_view s) (share_view t) more turns
  pub slots : share_bodies t ≡ []

-- The very bodies came back, and the share has found no move left.
pub record GetsBack {B : Type 0} (body rest body' rest' : B) (s t : Share B) : Type 0 where
  pub body_is : body' ≡ body
  pub rest_is : rest' ≡ rest
  pub unmoved : share_known t ≡ unmoved_known (share_known s)

abbrev pub HasSpawned : {B : Type 0} → Field B → B → B → Share B → Share B → Spawned B → Type 0
HasSpawned f body rest s t (spawned.Two left right) =
    (left < 2 * (field_plan f).moves) × (right < 2 * (field_plan f).moves) × EndsVertex f 2 6 s t
HasSpawned f body rest s t (spawned.Full b r) = GetsBack body rest b r s t

abbrev pub HasChained : {B : Type 0} → Field B → B → B → Share B → Share B → Chained B → Type 0
HasChained f body rest s t (chained.Opened first) = (first < 2 * (field_plan f).moves) × EndsVertex f 1 5 s t
HasChained f body rest s t (chained.Full b r) = GetsBack body rest b r s t

abbrev pub HasSignalled : {B : Type 0} → Field B → Share B → Share B → Option ℕ → Type 0
HasSignalled f s t None = EndsVertex f 0 2 s t
HasSignalled f s t (Some woken) = (woken < 2 * (field_plan f).moves) × EndsVertex f 1 3 s t
