-- What may stand at a place.
use Rattle.std.specs.Prelude.{ℕ, Bool, true, false, ◌||◌, ◌&&◌, not}
use Rattle.spd_check.specs.declared.place.Home.{Home}
use Rattle.spd_check.specs.declared.place.Home.TheVariants as home
use Rattle.spd_check.specs.declared.place.Place.{Place}

abbrev pub in_main : Home → Bool
in_main home.Main = true
in_main _ = false

abbrev pub in_function : Home → Bool
in_function home.Function = true
in_function _ = false

abbrev pub in_task : Home → Bool
in_task home.Task = true
in_task _ = false

-- the place of an item's own statements
abbrev pub place_in : Home → Place
place_in home = record { home = home; inside = false; outer = 0 }

-- the place of a finish or async block, where so many names are visible
abbrev pub place_inside : Place → ℕ → Place
place_inside place visible = record { home = place.home; inside = true; outer = visible }

-- An offer, an async or a run has a finish that it belongs to.
abbrev pub may_collect : Place → Bool
may_collect place = place.inside || in_task place.home

abbrev pub may_print : Place → Bool
may_print place = in_main place.home && not place.inside

abbrev pub may_return : Place → Bool
may_return place = in_function place.home && not place.inside
