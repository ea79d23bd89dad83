-- A make: what the share knows after each of its five steps.
use Rattle.std.specs.Prelude.{◌≡◌, ◌+◌, ◌*◌, ◌≤◌, [], Option, Some}
use Rattle.atomic_table.specs.Table.{Me}
use Rattle.spd_words.specs.Plan.{PlanView}
use Rattle.spd_words.specs.Meaning.{Meaning}
use Rattle.spd_state.specs.Promises.{whole_of}
use Rattle.spd_state.specs.declared.view.View.{View}
use Rattle.spd_rule.specs.Shares.{field_plan}
use Rattle.spd_rule.specs.declared.field.Field.{Field}
use Rattle.spd_rule.specs.declared.field.Share.{Share}

-- The make has begun with a body that means this, which every share that is split off from now on carries; one vertex
-- more is ready. The share runs nothing and keeps no slot, and what it knows of nodes and of the move that it has
-- stored is that of the view after.
abbrev pub made_view : Meaning → View → View → View
made_view m before after = record before {
  fresh = 0;
  slots = [];
  known = after.known;
  spawns = after.spawns;
  ready = before.ready + 1;
  body = after.body;
  gives = after.gives;
  whole = Some (whole_of m);
  sunk = 0;
  steps = after.steps;
}

-- The make took five steps; vertex 0 is ready, and vertex 1 waits.
pub record IsMade {B : Type 0} (p : PlanView) (m : Meaning) (before : View) (after : Me (Option B) View) : Type 0 where
  pub view : after.0 ≡ made_view m before after.0
  pub slots : after.1 ≡ []
  pub most : after.0.ready ≤ 2 * p.moves
  pub steps : after.0.steps ≡ before.steps + 5

abbrev pub MakesRegion : {B : Type 0} → Field B → Meaning → Share B → Share B → Type 0
MakesRegion f m s t = IsMade (field_plan f) m s.seat.me.0 t.seat.me
