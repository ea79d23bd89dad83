-- When a share may take a step, and what a step tells beside the view after it.
use Rattle.std.specs.Prelude.{◌≡◌, ◌≢◌, ◌⊎◌, ◌+◌, ◌*◌, ◌<◌, ◌≤◌, ◌∷◌, ℕ, Option, Some, None}
use mathlib.Core.Option.{some}
use lib.ListN.{get_elem?}
use Rattle.atomic_table.specs.Table.{Me}
use Rattle.spd_words.specs.Plan.{PlanView}
use Rattle.spd_words.specs.Words.{Pair, pack_vertex, vertex_of}
use Rattle.spd_words.specs.Meaning.{Meaning, IsLawfulTotal, empty}
use Rattle.spd_state.specs.Sums.{count}
use Rattle.spd_state.specs.Dag.{load_of, right_in, busy, tree_right, claimed_at}
use Rattle.spd_state.specs.Parts.{IsInside}
use Rattle.spd_state.specs.Stages.{MayDraw, drawn_view, full_view, first_slot, second_slot, finish_in}
use Rattle.spd_state.specs.declared.view.Flight.{Flight}
use Rattle.spd_state.specs.Promises.{promised}
use Rattle.spd_state.specs.Seats.{joined_view}
use Rattle.spd_state.specs.Shown.{shown_word, see_after}
use Rattle.spd_state.specs.Steps.{stepped, claim_after, start_run, start_view, wake_after}
use Rattle.spd_state.specs.declared.view.Draw.{Draw}
use Rattle.spd_state.specs.declared.view.Draw.TheVariants.{Make, Spawn}
use Rattle.spd_state.specs.declared.view.Running.{Running}
use Rattle.spd_state.specs.declared.view.Shown.{Shown}
use Rattle.spd_state.specs.declared.view.View.{View}
use Rattle.spd_debts.specs.Payments.{sees_view}
use Rattle.spd_rule.specs.Rest.{at_rest}

-- the number and the pair of the running vertex
abbrev pub vertex_in : Option Running → Option ℕ
vertex_in None = None
vertex_in (Some r) = Some r.vertex

abbrev pub pair_in : Option Running → ℕ
pair_in None = 0
pair_in (Some r) = r.pair

-- It has neither to collect nor to put the code 0.
abbrev pub IsFree : View → Type 0
IsFree v = busy v.awaited + v.hurt ≡ 0

-- ---- `claim`

-- It runs a vertex with its right, and has room for a unit.
pub record MayClaim (v : View) : Type 0 where
  pub right : right_in v.running ≡ 1
  pub room : load_of v < 66
  pub free : IsFree v

-- the pair's word was q
abbrev pub claim_known : {B : Type 0} → Pair → Me (Option B) View → Me (Option B) View
claim_known q me = (claim_after q me.0, me.1)

-- ---- `add_root` and `sub_root`

-- It has a right in the tree of root d, and room for a unit.
pub record MayAdd (d : ℕ) (v : View) : Type 0 where
  pub right : 0 < tree_right d v
  pub room : load_of v < 64

-- It owes nothing more, or has put the code 0. A share that runs a wild body owes nothing.
abbrev pub HasPaid : View → Type 0
HasPaid v = v.wild ≡ 0 → (0 < v.sunk) ⊎ (promised v.owes ≡ empty v.kind)

-- It holds a unit at d. The claimed one leaves only where there is no other, no move is in flight and nothing is owed.
pub record MaySub (d : ℕ) (v : View) : Type 0 where
  pub unit : 0 < count d v.held + claimed_at v.lifted d v.claimed
  pub lone : count d v.held ≡ 0 → v.flight ≡ None
  pub paid : count d v.held ≡ 0 → HasPaid v

-- ---- `draw_move`

-- What a make is told is lawful, and a running share that isn't wild owes a move.
abbrev pub MayPay : Draw → Meaning → View → Type 0
MayPay Make told v = IsLawfulTotal told.kind told.promise.gift told.promise.fault
MayPay _ told v = v.wild ≡ 0 → 0 < v.owes.moves

-- It has no move in flight and hasn't seen the moves full. It makes, and has begun no make and runs nothing; or it runs
-- a vertex with its right.
pub record MayDrawMove (draw : Draw) (told : Meaning) (v : View) : Type 0 where
  pub flight : v.flight ≡ None
  pub unmarked : v.full_draws ≡ 0
  pub maker : MayDraw draw v
  pub free : IsFree v
  pub pays : MayPay draw told v

-- its two slots are taken, that of the vertex which is stored first in front
abbrev pub drawn_known : {B : Type 0} → Draw → ℕ → Meaning → Me (Option B) View → Me (Option B) View
drawn_known draw n told me = (
  drawn_view draw n told me.0,
  (first_slot draw n, None) ∷
      (second_slot draw n, None) ∷ me.1,
)

-- The word of the drawn moves was n: the move n is the share's, or there is none left.
pub record DrawsMove {B : Type 0} (p : PlanView) (draw : Draw) (told : Meaning) (n : ℕ)
    (me me' : Me (Option B) View) : Type 0 where
  pub drawn : n < p.moves → me' ≡ drawn_known draw n told me
  pub full : p.moves ≤ n → me' ≡ (full_view me.0, me.1)
  pub few : n ≤ p.moves + 64

-- the move in flight of a share that has drawn it
abbrev pub drawn_flight : Draw → ℕ → Option Running → Flight
drawn_flight Spawn n running = record { draw = Spawn; number = n; finish = finish_in running; stage = 0 }
drawn_flight draw n running = record { draw = draw; number = n; finish = n; stage = 0 }

-- ---- `start_vertex`

-- It runs nothing and has no move in flight; the vertex has been seen ready.
pub record MayStart (seen : ℕ) (v : View) : Type 0 where
  pub ready : (vertex_of seen).state ≡ 2
  pub running : v.running ≡ None
  pub flight : v.flight ≡ None

-- It has seen the vertex i ready, in this word.
pub record HasSeen (i seen : ℕ) (v : View) : Type 0 where
  pub at : ℕ
  pub noted : Shown
  pub there : get_elem? v.shown at ≡ some noted
  pub vertex : noted.vertex ≡ i
  pub word : pack_vertex (shown_word 2 noted) ≡ seen

-- The word of the vertex i was found to be n, and not as it was seen. Where it was seen ready, another has started it.
pub record LateStart {B : Type 0} (i seen n : ℕ) (me me' : Me (Option B) View) : Type 0 where
  pub known : me' ≡ (stepped me.0, me.1)
  pub taken : HasSeen i seen me.0 → (vertex_of n).state ≡ 3

-- what lies in the slot of a vertex means, if a body lies there
abbrev pub meaning_in : {B : Type 0} → (B → Meaning) → Option B → Option Meaning
meaning_in means None = None
meaning_in means (Some b) = Some (means b)

-- The share runs the vertex i, whose word was seen: it has taken the slot, and knows what its body means. Vertex 1 has
-- no body. No share has more starts than there are vertices.
pub record StartsVertex {B : Type 0} (means : B → Meaning) (p : PlanView) (i seen : ℕ)
    (me me' : Me (Option B) View) : Type 0 where
  pub body : Option B
  pub known : me' ≡ (start_view i (vertex_of seen) (meaning_in means body) me.0, (i, body) ∷ me.1)
  pub end : i ≡ 1 → body ≡ None
  pub other : i ≢ 1 → (b : B) × (body ≡ Some b)
  pub inside : IsInside p (start_run i (vertex_of seen))
  pub few : me'.0.starts ≤ 2 * p.moves

-- ---- `see_moves`, `see_vertex` and `wake_vertex`

-- It has seen the moves full. A running share that isn't wild owes a move.
pub record MaySeeMoves (v : View) : Type 0 where
  pub marked : 0 < v.full_draws
  pub pays : right_in v.running ≡ 1 → v.wild ≡ 0 → 0 < v.owes.moves

-- one move less is owed
abbrev pub sees_known : {B : Type 0} → Me (Option B) View → Me (Option B) View
sees_known me = (sees_view me.0, me.1)

-- the word of the vertex i was n
abbrev pub see_known : {B : Type 0} → ℕ → ℕ → Me (Option B) View → Me (Option B) View
see_known i n me = (see_after i (vertex_of n) me.0, me.1)

-- It is told the finish f.
abbrev pub IsTold : ℕ → View → Type 0
IsTold f v = 0 < count f v.told

-- the waiting vertex of the finish f is woken
abbrev pub wake_known : {B : Type 0} → ℕ → Me (Option B) View → Me (Option B) View
wake_known f me = at_rest (wake_after f me.0, me.1)

-- ---- `join`

abbrev pub joined_known : {B : Type 0} → Me (Option B) View → View → Me (Option B) View
joined_known me other = (joined_view me.0 other, me.1)
