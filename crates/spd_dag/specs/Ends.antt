-- How a share's view is after a whole call.
use Rattle.std.specs.Prelude.{◌≡◌, ◌+◌, ◌*◌, ◌≤◌, ℕ, [], None}
use Rattle.spd_words.specs.Plan.{PlanView}
use Rattle.spd_state.specs.declared.view.View.{View}

-- The share runs nothing any more, and has made so many more vertices ready. It keeps no slot, and is not sunk. What it
-- knows of nodes, what it did and what it owed, which nobody reads while it runs nothing, are those of the view after.
abbrev pub over_view : View → View → ℕ → View
over_view before after more = record before {
  running = None;
  lifted = after.lifted;
  slots = [];
  known = after.known;
  spawns = after.spawns;
  ready = before.ready + more;
  owes = after.owes;
  body = after.body;
  rest = after.rest;
  gives = after.gives;
  sunk = 0;
  steps = after.steps;
}

-- The vertex is over, with so many more ready and by so many steps; no share makes more ready than the plan has.
pub record IsOver (p : PlanView) (before after : View) (more turns : ℕ) : Type 0 where
  pub view : after ≡ over_view before after more
  pub most : after.ready ≤ 2 * p.moves
  pub steps : after.steps ≡ before.steps + turns
