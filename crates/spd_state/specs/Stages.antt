-- What each step of a move in flight does to the word that it writes, and to the view of the share that has the move.
use Rattle.std.specs.Prelude.{◌≡◌, ◌<◌, ℕ, ◌+◌, ◌-◌, ◌*◌, List, [], ◌∷◌, Option, Some, None, cond}
use lib.Dec.{ltb}
use Rattle.spd_words.specs.Words.{Node, Pair, Vertex}
use Rattle.spd_words.specs.Meaning.{Promise, Meaning}
use Rattle.spd_words.specs.declared.finish_kind.FinishKind.{FinishKind}
use Rattle.spd_state.specs.Sums.{without}
use Rattle.spd_state.specs.Promises.{owed_of, whole_of, less_move}
use Rattle.spd_state.specs.declared.view.Running.{Running}
use Rattle.spd_state.specs.declared.view.Flight.{Flight}
use Rattle.spd_state.specs.declared.view.Draw.{Draw}
use Rattle.spd_state.specs.declared.view.Draw.TheVariants.{Make, Chain, Spawn}
use Rattle.spd_state.specs.declared.view.View.{View}
use Rattle.spd_state.specs.declared.promise.Owed.{Owed}
use Rattle.spd_state.specs.declared.promise.Whole.{Whole}

-- ---- `draw_move`: the move with its two slots, that of the vertex which is stored first in front

-- the slot of the vertex that is stored first
abbrev pub first_slot : Draw → ℕ → ℕ
first_slot Spawn d = 2 * d
first_slot _ d = 2 * d + 1

-- and of the other one
abbrev pub second_slot : Draw → ℕ → ℕ
second_slot Spawn d = 2 * d + 1
second_slot _ d = 2 * d

-- the finish of the running vertex
abbrev pub finish_in : Option Running → ℕ
finish_in None = 0
finish_in (Some r) = r.finish

-- The make is drawn by the share that has yet to begin it and runs nothing, a chain or a spawn by one that runs a vertex with its right.
abbrev pub MayDraw : Draw → View → Type 0
MayDraw Make v = (0 < v.fresh) × (v.running ≡ None)
MayDraw _ v = (r : Running) × (v.running ≡ Some r) × (r.right ≡ 1)

-- the finish of the vertices that stand with the move's pair: the maker's for a spawn, else the one that it opens
abbrev pub flight_finish : Draw → ℕ → View → ℕ
flight_finish Spawn d v = finish_in v.running
flight_finish _ d v = d

-- 1 for a spawn
abbrev pub spawns_of : Draw → ℕ
spawns_of Spawn = 1
spawns_of _ = 0

-- what a make is given, and what a running share's draw takes
abbrev pub fresh_after : Draw → ℕ → ℕ
fresh_after Make n = 0
fresh_after _ n = n

-- a chain or a spawn takes one move out of what is owed
abbrev pub owes_after : Draw → Owed → Owed
owes_after Make o = o
owes_after _ o = less_move o

-- a make takes its body's promise
abbrev pub given_body : Draw → Meaning → Owed → Owed
given_body Make m o = owed_of m.promise
given_body _ m o = o

-- and its kind
abbrev pub given_kind : Draw → Meaning → FinishKind → FinishKind
given_kind Make m k = m.kind
given_kind _ m k = k

-- and keeps all that it was given
abbrev pub given_whole : Draw → Meaning → Option Whole → Option Whole
given_whole Make m w = Some (whole_of m)
given_whole _ m w = w

-- the move is drawn
abbrev pub drawn_view : Draw → ℕ → Meaning → View → View
drawn_view draw d m v = record v {
  fresh = fresh_after draw v.fresh;
  flight = Some record { draw = draw; number = d; finish = flight_finish draw d v; stage = 0 };
  slots = first_slot draw d ∷ second_slot draw d ∷ v.slots;
  spawns = v.spawns + spawns_of draw;
  owes = owes_after draw v.owes;
  body = given_body draw m v.body;
  gives = given_kind draw m v.gives;
  whole = given_whole draw m v.whole;
  steps = v.steps + 1;
}

-- there was no move left: the mark, and one move less owed too
abbrev pub full_view : View → View
full_view v = record v { full_draws = v.full_draws + 1; owes = less_move v.owes; steps = v.steps + 1 }

-- the view after a draw that found the number n
abbrev pub draw_after : Draw → ℕ → ℕ → Meaning → View → View
draw_after draw m n told v = cond (ltb n m) (drawn_view draw n told v) (full_view v)

-- ---- `set_root` of a make or a chain: its root has a unit, and a chain's vertex 2d takes its body's promise

-- count 1, version 0
abbrev pub root_node : Node
root_node = record { twice = 2; version = 0 }

-- a chain takes its body's promise
abbrev pub taken_body : Draw → Meaning → Owed → Owed
taken_body Chain m o = owed_of m.promise
taken_body _ m o = o

-- and its kind
abbrev pub taken_kind : Draw → Meaning → FinishKind → FinishKind
taken_kind Chain m k = m.kind
taken_kind _ m k = k

-- and its moves out of what it owes
abbrev pub taken_moves : Draw → Meaning → Owed → Owed
taken_moves Chain m o = record o { moves = o.moves - m.promise.moves }
taken_moves _ m o = o

-- the root is set
abbrev pub rooted_view : Draw → ℕ → Meaning → View → View
rooted_view draw d m v = record v {
  flight = Some record { draw = draw; number = d; finish = d; stage = 1 };
  rooted = d ∷ [];
  known = record { node = d; top = d } ∷ v.known;
  owes = taken_moves draw m v.owes;
  body = taken_body draw m v.body;
  gives = taken_kind draw m v.gives;
  steps = v.steps + 1;
}

-- ---- `set_pair` of a make or a chain: the unit of its root is the only handle

-- one handle, the root itself
abbrev pub root_pair : ℕ → ℕ → Pair
root_pair d kind = record { claims = 0; total = 1; kind = kind; first = d; second = 0 }

-- the pair is set
abbrev pub handed_view : Draw → ℕ → View → View
handed_view draw d v = record v {
  flight = Some record { draw = draw; number = d; finish = d; stage = 2 };
  rooted = [];
  steps = v.steps + 1;
}

-- `set_pair` of a spawn: the claimed unit and another one become the handles, and the bodies' promises come in place of what the vertex
-- owes

-- two handles
abbrev pub spawn_pair : ℕ → ℕ → Pair
spawn_pair c h = record { claims = 0; total = 2; kind = 0; first = c; second = h }

-- the pair is set, and the units have left
abbrev pub paired_view : Flight → ℕ → Promise → Promise → View → View
paired_view f h left right v = record v {
  flight = Some (record f { stage = 2 });
  held = without h v.held;
  claimed = [];
  lifted = 0;
  body = owed_of left;
  rest = owed_of right;
  gives = v.kind;
  steps = v.steps + 1;
}

-- ---- `set_vertex`: the view without the vertex and its slot, by what was stored

-- vertex 1, by the make
abbrev pub end_view : List ℕ → View → View
end_view slots v = record v {
  flight = Some record { draw = Make; number = 0; finish = 0; stage = 3 };
  slots = slots;
  steps = v.steps + 1;
}

-- the waiting vertex 2d + 1 of a chain, which takes the running vertex's place
abbrev pub chain_rest_view : Running → ℕ → List ℕ → View → View
chain_rest_view r d slots v = record v {
  running = Some (record r { right = 0 });
  flight = Some record { draw = Chain; number = d; finish = d; stage = 3 };
  slots = slots;
  steps = v.steps + 1;
}

-- the left vertex 2d of a spawn
abbrev pub spawn_left_view : ℕ → ℕ → List ℕ → View → View
spawn_left_view d f slots v = record v {
  flight = Some record { draw = Spawn; number = d; finish = f; stage = 3 };
  slots = slots;
  ready = v.ready + 1;
  steps = v.steps + 1;
}

-- the last vertex of a move
abbrev pub last_view : List ℕ → View → View
last_view slots v = record v {
  running = None;
  flight = None;
  slots = slots;
  ready = v.ready + 1;
  sunk = 0;
  steps = v.steps + 1;
}

-- the word of vertex 1
abbrev pub end_vertex : Vertex
end_vertex = record { state = 1; side = 0; pair = 0; finish = 0; inc = 0 }

-- the waiting vertex of a chain has its maker's numbers
abbrev pub chain_rest_vertex : Running → Vertex
chain_rest_vertex r = record { state = 1; side = r.side; pair = r.pair; finish = r.finish; inc = r.inc }

-- the body of a make or a chain is one of the finish that it opens
abbrev pub body_vertex : ℕ → Vertex
body_vertex d = record { state = 2; side = 0; pair = d; finish = d; inc = d }

-- a vertex of a spawn, by its side, the maker's finish and its node to increment at
abbrev pub spawn_vertex : ℕ → ℕ → ℕ → ℕ → Vertex
spawn_vertex d f side inc = record { state = 2; side = side; pair = d; finish = f; inc = inc }
