-- Debts: what each unfinished vertex owes, to which finish, and all of them together.
use Rattle.std.specs.Prelude.{ℕ, ◌+◌, ◌*◌, List, [], ◌∷◌, ◌++◌, length, Option, Some, None}
use Prim.Native.Nat.{zero, suc}
use mathlib.Core.Option.{some}
use mathlib.Core.Option as maybe
use lib.ListN.{get_elem?}
use Rattle.spd_words.specs.Gather.{gather}
use Rattle.spd_words.specs.Meaning.{Promise, Meaning}
use Rattle.spd_words.specs.Plan.{PlanView}
use Rattle.spd_words.specs.Words.{Vertex}
use Rattle.spd_state.specs.Dag.{waits, not_end}
use Rattle.spd_state.specs.Promises.{promised}
use Rattle.spd_state.specs.declared.view.Running.{Running}
use Rattle.spd_state.specs.declared.view.Flight.{Flight}
use Rattle.spd_state.specs.declared.promise.Owed.{Owed}
use Rattle.spd_state.specs.declared.view.Draw.{Draw}
use Rattle.spd_state.specs.declared.view.Draw.TheVariants.{Make, Chain, Spawn}
use Rattle.spd_state.specs.declared.view.View.{View}

-- a promise, and the finish that it is made to; a make whose root isn't set owes its moves to the region, and nothing to a finish
pub record Debt : Type 0 where
  pub finish : Option ℕ
  pub promise : Promise

-- a promise to the finish f
abbrev pub owe : ℕ → Promise → Debt
owe f p = record { finish = Some f; promise = p }

-- the list where the number isn't 0
abbrev pub if_any : {A : Type 0} → ℕ → List A → List A
if_any zero l = []
if_any (suc k) l = l

-- what the body in a slot promises to its vertex's finish
abbrev pub body_debt : {B : Type 0} → (B → Meaning) → ℕ → maybe.Option (maybe.Option (Option B)) → List Debt
body_debt view f (some (some (Some b))) = owe f (view b).promise ∷ []
body_debt view f _ = []

-- the vertex v with the word x owes so while it waits or is ready; vertex 1 never owes
abbrev pub home_debt : {B : Type 0} → (B → Meaning) → ℕ → Vertex → maybe.Option (maybe.Option (Option B)) → List Debt
home_debt view v x slot = if_any (not_end v) (if_any (waits x.state) (body_debt view x.finish slot))

-- a running vertex owes what is left of its promise, while its share has the right or the claimed unit
abbrev pub run_debt : Option Running → List ℕ → Owed → List Debt
run_debt None claimed owes = []
run_debt (Some r) claimed owes = if_any (not_end r.vertex) (if_any (r.right + length claimed) (owe r.finish (promised owes) ∷ []))

-- what the vertices owe that a move in flight has yet to store, by what drew it, its stage and their finish
abbrev pub move_debt : Draw → ℕ → ℕ → Owed → Owed → List Debt
move_debt Make zero f body rest = record { finish = None; promise = promised body } ∷ []
move_debt Make (suc s) f body rest = owe f (promised body) ∷ []
move_debt Chain zero f body rest = []
move_debt Chain (suc s) f body rest = owe f (promised body) ∷ []
move_debt Spawn zero f body rest = []
move_debt Spawn (suc zero) f body rest = []
move_debt Spawn (suc (suc zero)) f body rest = owe f (promised body) ∷ owe f (promised rest) ∷ []
move_debt Spawn (suc (suc (suc s))) f body rest = owe f (promised rest) ∷ []

-- the same, where a move is in flight
abbrev pub fly_debt : Option Flight → Owed → Owed → List Debt
fly_debt None body rest = []
fly_debt (Some g) body rest = move_debt g.draw g.stage g.finish body rest

-- all that a share owes
abbrev pub debts : View → List Debt
debts v = run_debt v.running v.claimed v.owes ++ fly_debt v.flight v.body v.rest

-- ---- all together

-- what all the numbers below n are worth, as `gather` has it of a list
abbrev pub gather_below : {C : Type 0} → (C → C → C) → C → ℕ → (ℕ → C) → C
gather_below op e zero worth = e
gather_below op e (suc n) worth = op (worth n) (gather_below op e n worth)

-- what all vertices owe that wait or are ready
abbrev pub owed_home : {B C : Type 0} → (C → C → C) → C → (Debt → C) → (B → Meaning) → PlanView → (ℕ → Vertex)
    → List (maybe.Option (Option B)) → C
owed_home op e worth view p vertices homes =
    gather_below op e (2 * p.moves) (λ x. gather op e worth (home_debt view x (vertices x) (get_elem? homes x)))

-- what all shares owe
abbrev pub owed_by : {C : Type 0} → (C → C → C) → C → (Debt → C) → List View → C
owed_by op e worth vs = gather op e (λ (v : View). gather op e worth (debts v)) vs

-- what everybody owes, by a way to join and what one debt is worth
abbrev pub owed : {B C : Type 0} → (C → C → C) → C → (Debt → C) → (B → Meaning) → PlanView → (ℕ → Vertex)
    → List (maybe.Option (Option B)) → List View → C
owed op e worth view p vertices homes vs = op (owed_home op e worth view p vertices homes) (owed_by op e worth vs)
