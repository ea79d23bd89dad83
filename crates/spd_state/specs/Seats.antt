-- The view of a new field's share, and what `split` and `join` make of views.
use Rattle.std.specs.Prelude.{◌≡◌, ◌+◌, ◌-◌, [], Option, Some, None}
use Rattle.spd_words.specs.declared.finish_kind.FinishKind.TheVariants.{Plain}
use Rattle.spd_state.specs.Promises.{no_debt}
use Rattle.spd_state.specs.declared.view.View.{View}
use Rattle.spd_state.specs.declared.promise.Whole.{Whole}

-- the share that is split has one spare seat less
abbrev pub kept_view : View → View
kept_view v = record v { spare = v.spare - 1; steps = v.steps + 1 }

-- a view with one seat that knows and holds nothing
abbrev pub new_view : View
new_view = record {
  fresh = 0;
  running = None;
  flight = None;
  held = [];
  claimed = [];
  lifted = 0;
  above = [];
  rooted = [];
  told = [];
  slots = [];
  halves = [];
  known = [];
  links = [];
  sprout = None;
  shown = [];
  full_draws = 0;
  grow_draws = 0;
  full_grows = 0;
  seats = 1;
  spare = 0;
  spawns = 0;
  ready = 0;
  starts = 0;
  wild = 0;
  owes = no_debt;
  kind = Plain;
  awaited = None;
  seen = None;
  body = no_debt;
  rest = no_debt;
  gives = Plain;
  hurt = 0;
  sunk = 0;
  done = 0;
  whole = None;
  steps = 0;
}

-- the view of the share of a new field
abbrev pub first_view : View
first_view = record new_view { fresh = 1; spare = 63 }

-- the view that a split makes carries what was given to the make, and a join passes it on
abbrev pub given_view : View → View
given_view v = record new_view { whole = v.whole }

-- the first of two that is there
abbrev pub first_of : Option Whole → Option Whole → Option Whole
first_of None b = b
first_of (Some x) b = Some x

-- the joined share has the numbers of both, and what either was given
abbrev pub joined_view : View → View → View
joined_view v o = record v {
  fresh = v.fresh + o.fresh;
  full_draws = v.full_draws + o.full_draws;
  grow_draws = v.grow_draws + o.grow_draws;
  full_grows = v.full_grows + o.full_grows;
  seats = v.seats + o.seats;
  spare = v.spare + o.spare;
  spawns = v.spawns + o.spawns;
  ready = v.ready + o.ready;
  starts = v.starts + o.starts;
  done = v.done + o.done;
  whole = first_of v.whole o.whole;
  steps = v.steps + 1;
}

-- the other one is left with no seat
abbrev pub spent_view : View
spent_view = record new_view { seats = 0 }

-- The share holds nothing.
pub record IsEmpty (o : View) : Type 0 where
  pub running : o.running ≡ None
  pub flight : o.flight ≡ None
  pub held : o.held ≡ []
  pub claimed : o.claimed ≡ []
  pub rooted : o.rooted ≡ []
  pub above : o.above ≡ []
  pub halves : o.halves ≡ []
  pub sprout : o.sprout ≡ None
  pub told : o.told ≡ []
  pub slots : o.slots ≡ []
