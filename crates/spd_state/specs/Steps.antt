-- What each step of a running share does to the typed word that it changes, and to the share's view.
use Rattle.std.specs.Prelude.{ℕ, ◌+◌, ◌-◌, List, [], ◌∷◌, Option, Some, None, Bool, true, false, cond, not, ◌==◌, ◌&&◌}
use lib.Dec.{ltb}
use Rattle.spd_words.specs.Words.{Node, Pair, Vertex}
use Rattle.spd_words.specs.Meaning.{Meaning}
use Rattle.spd_words.specs.declared.finish_kind.FinishKind.{FinishKind}
use Rattle.spd_state.specs.Sums.{count, without}
use Rattle.spd_state.specs.Dag.{next_handle, not_end}
use Rattle.spd_state.specs.Promises.{owed_of, expected_in, no_debt}
use Rattle.spd_state.specs.declared.view.Running.{Running}
use Rattle.spd_state.specs.declared.view.Flight.{Flight}
use Rattle.spd_state.specs.declared.view.View.{View}
use Rattle.spd_state.specs.declared.promise.Owed.{Owed}
use Rattle.spd_state.specs.declared.promise.Expected.{Expected}

-- ---- any step

-- a step that changes nothing else
abbrev pub stepped : View → View
stepped v = record v { steps = v.steps + 1 }

-- ---- `claim`: the next handle becomes a unit, in place of the right

-- one claim more
abbrev pub claim_pair : Pair → Pair
claim_pair q = record q { claims = q.claims + 1 }

-- without the right
abbrev pub lose_right : Option Running → Option Running
lose_right None = None
lose_right (Some r) = Some (record r { right = 0 })

-- the view after a claim that found the pair q
abbrev pub claim_after : Pair → View → View
claim_after q v = record v { running = lose_right v.running; claimed = next_handle q ∷ []; lifted = 0; steps = v.steps + 1 }

-- the same of a share that runs r
abbrev pub claim_view : Running → Pair → View → View
claim_view r q v = record v { running = Some (record r { right = 0 }); claimed = next_handle q ∷ []; lifted = 0; steps = v.steps + 1 }

-- ---- `add_root`: one unit more at the root d

-- count and one
abbrev pub add_node : Node → Node
add_node n = record n { twice = n.twice + 2 }

-- a unit at d more
abbrev pub add_view : ℕ → View → View
add_view d v = record v { held = d ∷ v.held; steps = v.steps + 1 }

-- ---- `sub_root`: a unit at d leaves, the claimed one only where there is no other; where it was the last, the share is told d

-- count less one
abbrev pub sub_node : Node → Node
sub_node n = record n { twice = n.twice - 2 }

-- told d, or not
abbrev pub tell_if : Bool → ℕ → List ℕ → List ℕ
tell_if b d told = cond b (d ∷ told) told

-- other units, and what is told
abbrev pub lose_view : List ℕ → List ℕ → List ℕ → View → View
lose_view held claimed told v = record v { held = held; claimed = claimed; told = told; steps = v.steps + 1 }

-- the running vertex, or none
abbrev pub keep_if : Bool → Option Running → Option Running
keep_if true o = o
keep_if false o = None

-- the mark, or none
abbrev pub keep_mark : Bool → ℕ → ℕ
keep_mark true n = n
keep_mark false n = 0

-- a share that runs a vertex other than the end, with no move in flight, right, claimed unit or told finish left
abbrev pub is_over : Option Running → Option Flight → List ℕ → List ℕ → Bool
is_over (Some r) None [] [] = (not (r.vertex == 1)) && (r.right == 0)
is_over _ _ _ _ = false

-- a share whose vertex is over runs nothing
abbrev pub settle_view : View → View
settle_view v = record v {
  running = keep_if (not (is_over v.running v.flight v.claimed v.told)) v.running;
  sunk = keep_mark (not (is_over v.running v.flight v.claimed v.told)) v.sunk;
}

-- the view after a step that found the word n of root d
abbrev pub sub_after : ℕ → Node → View → View
sub_after d n v = settle_view (cond (ltb 0 (count d v.held))
    (lose_view (without d v.held) v.claimed (tell_if (n.twice == 2) d v.told) v)
    (lose_view v.held (without d v.claimed) (tell_if (n.twice == 2) d v.told) v))

-- ---- `start_vertex`, where it succeeds: the share runs the vertex, whose slot it takes

-- started, with the same numbers
abbrev pub start_word : Vertex → Vertex
start_word x = record x { state = 3 }

-- the vertex i as a share runs it, with a right unless it is vertex 1
abbrev pub start_run : ℕ → Vertex → Running
start_run i x = record { vertex = i; side = x.side; pair = x.pair; finish = x.finish; inc = x.inc; right = not_end i }

-- what the view takes over of the body at home; vertex 1 has none
abbrev pub wild_in : Option Meaning → ℕ
wild_in None = 0
wild_in (Some m) = cond m.wild 1 0

-- what it owes
abbrev pub owed_in : Option Meaning → Owed
owed_in None = no_debt
owed_in (Some m) = owed_of m.promise

-- the kind of its finish
abbrev pub kind_in : Option Meaning → FinishKind → FinishKind
kind_in None k = k
kind_in (Some m) k = m.kind

-- and what it waits for
abbrev pub awaited_in : Option Meaning → Option Expected
awaited_in None = None
awaited_in (Some m) = expected_in m.awaited

-- the share runs the vertex i, whose body means m, and has one start more
abbrev pub start_view : ℕ → Vertex → Option Meaning → View → View
start_view i x m v = record v {
  running = Some (start_run i x);
  known = record { node = x.inc; top = x.finish } ∷ v.known;
  slots = i ∷ v.slots;
  wild = wild_in m;
  owes = owed_in m;
  kind = kind_in m v.kind;
  awaited = awaited_in m;
  seen = None;
  starts = v.starts + 1;
  steps = v.steps + 1;
}

-- ---- `wake_vertex`: the waiting vertex of a finish that the share is told becomes ready

-- waiting to ready
abbrev pub wake_word : Vertex → Vertex
wake_word x = record x { state = x.state + 1 }

-- the finish isn't told any more
abbrev pub wake_view : ℕ → View → View
wake_view f v = record v { told = without f v.told; ready = v.ready + 1; steps = v.steps + 1 }

-- and the share may be over
abbrev pub wake_after : ℕ → View → View
wake_after f v = settle_view (wake_view f v)
