-- When a share may set the words of its move in flight, and what it knows afterwards.
use Rattle.std.specs.Prelude.{◌≡◌, ◌≢◌, ◌⊎◌, ◌+◌, ◌*◌, ◌<◌, ◌≤◌, ◌∷◌, [], ℕ, List, Option, Some, None, false}
use Prim.Native.Nat.{zero, suc}
use Rattle.atomic_table.specs.Table.{Me, rest}
use Rattle.spd_words.specs.Plan.{PlanView, nodes}
use Rattle.spd_words.specs.Words.{Pair, Vertex, pair_with}
use Rattle.spd_words.specs.Meaning.{Meaning, Awaited, IsLawfulTotal, add}
use Rattle.spd_words.specs.declared.finish_kind.FinishKind.{FinishKind}
use Rattle.spd_words.specs.declared.finish_kind.FinishKind.TheVariants.{Plain, Sum, Least, Greatest}
use Rattle.spd_state.specs.Sums.{count}
use Rattle.spd_state.specs.Tree.{top_in}
use Rattle.spd_state.specs.Dag.{load_of}
use Rattle.spd_state.specs.Steps.{lose_right}
use Rattle.spd_state.specs.Promises.{promised}
use Rattle.spd_state.specs.Stages.{rooted_view, handed_view, paired_view, end_view, chain_rest_view, spawn_left_view}
use Rattle.spd_state.specs.Stages.{last_view, end_vertex, chain_rest_vertex, body_vertex, spawn_vertex}
use Rattle.spd_state.specs.declared.view.Draw.{Draw}
use Rattle.spd_state.specs.declared.view.Draw.TheVariants.{Make, Chain, Spawn}
use Rattle.spd_state.specs.declared.view.Running.{Running}
use Rattle.spd_state.specs.declared.view.Flight.{Flight}
use Rattle.spd_state.specs.declared.view.View.{View}
use Rattle.spd_state.specs.declared.promise.Owed.{Owed}
use Rattle.spd_state.specs.declared.promise.Whole.{Whole}

abbrev pub flight_with : Draw → ℕ → ℕ → ℕ → Flight
flight_with draw number finish stage = record { draw = draw; number = number; finish = finish; stage = stage }

-- the move d, which this draw has brought to this stage
abbrev pub Flies : Draw → ℕ → ℕ → ℕ → View → Type 0
Flies draw d finish stage v = v.flight ≡ Some (flight_with draw d finish stage)

-- a body that is told is a lawful one, and isn't wild where the running one isn't
pub record TellsBody (kind : FinishKind) (told : Meaning) : Type 0 where
  pub tame : told.wild ≡ false
  pub kinds : told.kind ≡ kind
  pub lawful : IsLawfulTotal told.kind told.promise.gift told.promise.fault

-- ---- `set_root`

-- what a chain is told of its body: a tame one, whose moves the vertex owes
abbrev pub ChainTold : Draw → Meaning → View → Type 0
ChainTold Chain told v = v.wild ≡ 0 → TellsBody told.kind told × (told.promise.moves ≤ v.owes.moves)
ChainTold _ told v = Unit {0}

-- It has a make or a chain of move d in flight, whose root isn't set, and room for a unit.
pub record MaySetRoot (d : ℕ) (told : Meaning) (v : View) : Type 0 where
  pub draw : Draw
  pub opens : draw ≢ Spawn
  pub flies : Flies draw d d 0 v
  pub room : load_of v < 66
  pub tells : ChainTold draw told v

abbrev pub draw_in : Option Flight → Draw
draw_in None = Make
draw_in (Some f) = f.draw

abbrev pub root_set : ℕ → Meaning → View → View
root_set d told v = rooted_view (draw_in v.flight) d told v

-- ---- `set_pair`

-- the number of a kind of finish in the word of a pair
abbrev pub pair_kind : FinishKind → ℕ
pair_kind Plain = 0
pair_kind Sum = 1
pair_kind Least = 2
pair_kind Greatest = 3

-- a pair that nobody has claimed of
abbrev pub fresh_pair : ℕ → ℕ → ℕ → ℕ → Pair
fresh_pair total kind first second = pair_with 0 total kind first second

-- A make or a chain that has set its root: the root's unit is the only handle.
pub record HandsRoot (d : ℕ) (q : Pair) (v : View) : Type 0 where
  pub draw : Draw
  pub opens : draw ≢ Spawn
  pub flies : Flies draw d d 1 v
  pub pair : q ≡ pair_with 0 1 (pair_kind v.gives) d 0

-- What a spawn is told of its two bodies: both are tame, and their promises are what the vertex owes.
pub record SpawnTold (left right : Meaning) (v : View) : Type 0 where
  pub left_body : TellsBody v.kind left
  pub right_body : TellsBody v.kind right
  pub owed : promised v.owes ≡ add v.kind left.promise right.promise

-- A spawn by a vertex of finish u: the claimed unit and another one under u become the handles.
pub record HandsTwo (d : ℕ) (q : Pair) (left right : Meaning) (v : View) : Type 0 where
  pub finish : ℕ
  pub flies : Flies Spawn d finish 0 v
  pub pair : q ≡ pair_with 0 2 0 q.first q.second
  pub claimed : v.claimed ≡ q.first ∷ []
  pub lifted : v.lifted ≡ 0
  pub held : 0 < count q.second v.held
  pub known : top_in q.second v.known ≡ Some finish
  pub tells : v.wild ≡ 0 → SpawnTold left right v

abbrev pub MaySetPair : ℕ → Pair → Meaning → Meaning → View → Type 0
MaySetPair d q left right v = HandsRoot d q v ⊎ HandsTwo d q left right v

-- Each number of the pair is one of the plan.
pub record IsPairOf (p : PlanView) (d : ℕ) (q : Pair) : Type 0 where
  pub pair : d < p.moves
  pub first : q.first < nodes p
  pub second : q.second < nodes p

abbrev pub flight_pair_set : Draw → Flight → ℕ → Meaning → Meaning → View → View
flight_pair_set Spawn f second left right v = paired_view f second left.promise right.promise v
flight_pair_set draw f second left right v = handed_view draw f.number v

abbrev pub pair_set : Option Flight → ℕ → Meaning → Meaning → View → View
pair_set None second left right v = v
pair_set (Some f) second left right v = flight_pair_set f.draw f second left right v

-- ---- `set_vertex`

-- what the body in the slot must be: a tame one with what the view says of the vertex
pub record BodyLies (kind : FinishKind) (owed : Owed) (awaited : Option Awaited) (m : Meaning) : Type 0 where
  pub tame : m.wild ≡ false
  pub kinds : m.kind ≡ kind
  pub promise : m.promise ≡ promised owed
  pub waits : m.awaited ≡ awaited

-- a share that makes knows from the make whether its body is wild
abbrev pub is_wild : Draw → View → ℕ
is_wild Make v = wild_whole v.whole
  where
    wild_whole : Option Whole → ℕ
    wild_whole None = 0
    wild_whole (Some w) = w.wild
is_wild draw v = v.wild

-- the five kinds of vertex, with the words and the bodies that they take
module _ {B : Type 0} (means : B → Meaning) (i : ℕ) (x : Vertex) (me : Me (Option B) View) where
  -- the slot of the vertex was taken last, and this body lies there
  abbrev pub SlotHas : Option B → Type 0
  SlotHas body = me.1 ≡ (i, body) ∷ rest me.1

  -- vertex 1, by a make that has set its pair
  pub record StoresEnd : Type 0 where
    pub flies : Flies Make 0 0 2 me.0
    pub vertex : i ≡ 1
    pub word : x ≡ end_vertex
    pub slot : SlotHas None

  -- the waiting vertex of a chain that has set its pair: the rest, which takes the running vertex's place
  pub record StoresRest : Type 0 where
    pub number : ℕ
    pub runs : Running
    pub running : me.0.running ≡ Some runs
    pub right : runs.right ≡ 1
    pub flies : Flies Chain number number 2 me.0
    pub vertex : i ≡ 2 * number + 1
    pub word : x ≡ chain_rest_vertex runs
    pub body : B
    pub slot : SlotHas (Some body)
    pub lies : me.0.wild ≡ 0 → BodyLies me.0.kind me.0.owes
        (Some (record { kind = me.0.gives; gift = me.0.body.gift; fault = me.0.body.fault })) (means body)

  -- the body of a make or a chain, its last vertex
  pub record StoresBody : Type 0 where
    pub draw : Draw
    pub opens : draw ≢ Spawn
    pub number : ℕ
    pub flies : Flies draw number number 3 me.0
    pub vertex : i ≡ 2 * number
    pub word : x ≡ body_vertex number
    pub body : B
    pub slot : SlotHas (Some body)
    pub lies : is_wild draw me.0 ≡ 0 → BodyLies me.0.gives me.0.body None (means body)

  -- the left vertex of a spawn that has set its pair, at a node under the finish
  pub record StoresLeft : Type 0 where
    pub number : ℕ
    pub finish : ℕ
    pub inc : ℕ
    pub flies : Flies Spawn number finish 2 me.0
    pub vertex : i ≡ 2 * number
    pub word : x ≡ spawn_vertex number finish 0 inc
    pub known : top_in inc me.0.known ≡ Some finish
    pub body : B
    pub slot : SlotHas (Some body)
    pub lies : me.0.wild ≡ 0 → BodyLies me.0.gives me.0.body None (means body)

  -- the right one, its last vertex
  pub record StoresRight : Type 0 where
    pub number : ℕ
    pub finish : ℕ
    pub inc : ℕ
    pub flies : Flies Spawn number finish 3 me.0
    pub vertex : i ≡ 2 * number + 1
    pub word : x ≡ spawn_vertex number finish 1 inc
    pub known : top_in inc me.0.known ≡ Some finish
    pub body : B
    pub slot : SlotHas (Some body)
    pub lies : me.0.wild ≡ 0 → BodyLies me.0.gives me.0.rest None (means body)

  pub data MaySetVertex : Type 0 where
    the_end : StoresEnd → MaySetVertex
    the_rest : StoresRest → MaySetVertex
    the_body : StoresBody → MaySetVertex
    the_left : StoresLeft → MaySetVertex
    the_right : StoresRight → MaySetVertex

-- Each number of the vertex is one of the plan.
pub record IsVertexOf (p : PlanView) (i : ℕ) (x : Vertex) : Type 0 where
  pub vertex : i < 2 * p.moves
  pub pair : x.pair < p.moves
  pub finish : x.finish < p.moves
  pub inc : x.inc < nodes p

abbrev pub less_first : List ℕ → List ℕ
less_first [] = []
less_first (x ∷ xs) = xs

-- the view without the vertex that was next, by what draws the move and by its stage
abbrev pub stored_by : Draw → ℕ → Flight → Option Running → List ℕ → View → View
stored_by Make (suc (suc zero)) f o slots v = end_view slots v
stored_by Chain (suc (suc zero)) f (Some r) slots v = chain_rest_view r f.number slots v
stored_by Spawn (suc (suc zero)) f o slots v = spawn_left_view f.number f.finish slots v
stored_by _ _ f o slots v = last_view slots v

abbrev pub stored_in : Option Flight → Option Running → List ℕ → View → View
stored_in None o slots v = v
stored_in (Some f) o slots v = stored_by f.draw f.stage f o slots v

-- and its slot goes home
abbrev pub vertex_set : {B : Type 0} → Me (Option B) View → Me (Option B) View
vertex_set me = (stored_in me.0.flight me.0.running (less_first me.0.slots) me.0, rest me.1)

-- the running vertex once the first vertex of a move is stored: a chain's has given its right to the rest
abbrev pub after_first : Draw → Option Running → Option Running
after_first Chain o = lose_right o
after_first _ o = o
