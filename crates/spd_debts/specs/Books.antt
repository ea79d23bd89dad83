-- The books: what each open finish has got, with what is still owed to it, is what it is to give.
use Rattle.std.specs.Prelude.{◌≡◌, ◌≢◌, ℕ, ◌+◌, ◌*◌, ◌<◌, ◌≤◌, List, length, Option, Some, None, min, ℤ, false}
use mathlib.Core.Option.{some}
use mathlib.Core.Option as maybe
use lib.ListN.{get_elem?}
use Rattle.spd_words.specs.Gift.{join, identity, no_fault}
use Rattle.spd_words.specs.Meaning.{Awaited, Meaning}
use Rattle.spd_words.specs.Plan.{PlanView}
use Rattle.spd_words.specs.Words.{Vertex}
use Rattle.spd_state.specs.Sums.{same, gate, total, Each}
use Rattle.spd_state.specs.Dag.{Dag, runs_it, busy, right_in, root_of, openings}
use Rattle.spd_state.specs.Promises.{awaited_of}
use Rattle.spd_state.specs.declared.view.Running.{Running}
use Rattle.spd_state.specs.declared.view.Flight.{Flight}
use Rattle.spd_state.specs.declared.view.View.{View}
use Rattle.spd_state.specs.declared.promise.Expected.{Expected}
use Rattle.spd_state.specs.declared.promise.Whole.{Whole}
use Rattle.spd_debts.specs.Debts.{move_debt, owed}
use Rattle.spd_debts.specs.Worth.{gift_of, gift_to, fault_to, moves_in}

-- ---- taint: the fault word is 0, or a share is hurt that runs a vertex of the finish

-- 1 where the running vertex is one of finish f
abbrev pub finish_is : ℕ → Option Running → ℕ
finish_is f None = 0
finish_is f (Some r) = same f r.finish

-- 1 where the share is hurt, and runs a vertex of finish f
abbrev pub hurt_in : ℕ → View → ℕ
hurt_in f v = gate v.hurt (finish_is f v.running)

-- how many shares are hurt in finish f
abbrev pub hurts : List View → ℕ → ℕ
hurts vs f = total (hurt_in f) vs

-- 1 where the share runs the waiting vertex of finish f, and has yet to collect or is hurt
abbrev pub pend_in : ℕ → View → ℕ
pend_in f v = gate (busy v.awaited + v.hurt) (runs_it (2 * f + 1) v.running)

-- how many shares do
abbrev pub pending : List View → ℕ → ℕ
pending vs f = total (pend_in f) vs

-- The finish is open and not tainted.
pub record Clear (opens faults hurting : ℕ → ℕ) (f : ℕ) : Type 0 where
  pub is_open : 0 < opens f
  pub pure : faults f ≢ 0
  pub unhurt : hurting f ≡ 0

-- ---- the four parts

-- A clear finish's word, joined with all that is owed to it, is the gift that it is to give.
pub record GiftBook (m : ℕ) (expects : ℕ → Awaited) (gifts : ℕ → ℕ) (clear : ℕ → Type 0) (owes : ℕ → ℤ) : Type 0 where
  pub whole : (f : ℕ) → f < m → clear f → join (expects f).kind (gift_of (expects f).kind (gifts f)) (owes f) ≡ (expects f).gift

-- Its fault word and the least code that is owed to it are the code that it is to give.
pub record FaultBook (m : ℕ) (expects : ℕ → Awaited) (faults : ℕ → ℕ) (clear : ℕ → Type 0) (owes : ℕ → ℕ) : Type 0 where
  pub whole : (f : ℕ) → f < m → clear f → min (faults f) (owes f) ≡ (expects f).fault

-- A fault 0 has gone on to the waiting vertex's finish once that vertex is started and nobody is still to pass it on.
pub record TaintBook (m : ℕ) (vertices : ℕ → Vertex) (faults pends : ℕ → ℕ) : Type 0 where
  pub on : (f : ℕ) → f < m → 0 < f → faults f ≡ 0 → 3 ≤ (vertices (2 * f + 1)).state → pends f ≡ 0
      → faults (vertices (2 * f + 1)).finish ≡ 0

-- Where no fault is 0, the moves drawn and owed are the region's number, or both that number and the draws are past the plan's moves.
pub record MoveBook (m drawn region : ℕ) (faults : ℕ → ℕ) (owes : ℕ) : Type 0 where
  pub few : ((f : ℕ) → f < m → faults f ≢ 0) → drawn ≤ m → drawn + owes ≡ region
  pub many : ((f : ℕ) → f < m → faults f ≢ 0) → m < drawn → m < region

-- ---- what the bodies at home and the views say of finishes

-- A body at home in the slot of vertex x, of finish g: it is tame, of g's kind, and waits exactly where x is the waiting vertex of an
-- open finish, for what that finish is to give.
pub record BodyOk (opens : ℕ → ℕ) (expects : ℕ → Awaited) (x g : ℕ) (b : Meaning) : Type 0 where
  pub tame : b.wild ≡ false
  pub kind : b.kind ≡ (expects g).kind
  pub waits : (f : ℕ) → 0 < f → x ≡ 2 * f + 1 → 0 < opens f → b.awaited ≡ Some (expects f)
  pub only : (w : Awaited) → b.awaited ≡ Some w → (f : ℕ) × (x ≡ 2 * f + 1) × (0 < opens f)

-- each body of a waiting or ready vertex is so
abbrev pub Bodies : {B : Type 0} → (B → Meaning) → ℕ → (ℕ → Vertex) → List (maybe.Option (Option B)) → (ℕ → ℕ) → (ℕ → Awaited) → Type 0
Bodies {B} view m vertices homes opens expects = (x : ℕ) (b : B) → x < 2 * m → 0 < (vertices x).state → (vertices x).state < 3 → x ≢ 1
    → get_elem? homes x ≡ some (some (Some b)) → BodyOk opens expects x (vertices x).finish (view b)

-- what was given to the make, as what finish 0 is to give
abbrev pub awaited_whole : Whole → Awaited
awaited_whole w = record { kind = w.kind; gift = w.owes.gift; fault = w.owes.fault }

-- 0 where a view's move in flight owes nothing
abbrev pub flying_debts : Flight → View → ℕ
flying_debts g v = length (move_debt g.draw g.stage g.finish v.body v.rest)

-- What a view says of finishes stands.
pub record ViewOk (opens : ℕ → ℕ) (expects : ℕ → Awaited) (faults : ℕ → ℕ) (v : View) : Type 0 where
  -- A share that has yet to collect, or is hurt, has its right still.
  pub right : 0 < busy v.awaited + v.hurt → right_in v.running ≡ 1
  -- An unfinished running vertex owes in the kind of its finish.
  pub kind : (r : Running) → v.running ≡ Some r → 0 < r.right + length v.claimed → v.kind ≡ (expects r.finish).kind
  -- What its vertex awaits is what the finish is to give for which it waits.
  pub awaited : (r : Running) (w : Expected) → v.running ≡ Some r → v.awaited ≡ Some w
      → (f : ℕ) × (r.vertex ≡ 2 * f + 1) × (0 < f) × (0 < opens f) × (awaited_of w ≡ expects f)
  -- A share that has put the code 0 runs a vertex whose finish has it.
  pub sunk : 0 < v.sunk → (r : Running) × (v.running ≡ Some r) × (r.vertex ≢ 1) × (faults r.finish ≡ 0)
  -- What its move in flight owes is of the kind of the finish that it is owed to,
  pub gives : (g : Flight) → v.flight ≡ Some g → 0 < flying_debts g v → v.gives ≡ (expects g.finish).kind
  -- and the finish that the move opens is to give what its body promises.
  pub begun : (g : Flight) → v.flight ≡ Some g → root_of g.draw 1 ≡ 1 → 0 < flying_debts g v
      → (v.body.gift ≡ (expects g.number).gift) × (v.body.fault ≡ (expects g.number).fault)
  -- What was given to the make is what finish 0 is to give.
  pub whole : (w : Whole) → v.whole ≡ Some w → awaited_whole w ≡ expects 0
  -- It runs no wild body.
  pub tame : v.wild ≡ 0

-- ---- all of this, in a field that keeps books

pub record Books {B : Type 0} (view : B → Meaning) (p : PlanView) (a : Dag) (homes : List (maybe.Option (Option B))) (vs : List View)
    : Type 0 where
  pub gifts : GiftBook p.moves a.expects a.gifts (Clear (openings a.vertices vs) a.faults (hurts vs))
      (λ f. owed (join (a.expects f).kind) (identity (a.expects f).kind) (gift_to (a.expects f).kind f) view p a.vertices homes vs)
  pub faults : FaultBook p.moves a.expects a.faults (Clear (openings a.vertices vs) a.faults (hurts vs))
      (λ f. owed min no_fault (fault_to f) view p a.vertices homes vs)
  pub passes : TaintBook p.moves a.vertices a.faults (pending vs)
  pub counts : MoveBook p.moves a.drawn a.region a.faults (owed (λ m n. m + n) 0 moves_in view p a.vertices homes vs)
  pub bodies : Bodies view p.moves a.vertices homes (openings a.vertices vs) a.expects
  pub views : Each (ViewOk (openings a.vertices vs) a.expects a.faults) vs

-- ---- beside the books, in every field

-- Before the make has begun no share knows or owes anything.
pub record Unbegun (v : View) : Type 0 where
  pub awaited : v.awaited ≡ None
  pub hurt : v.hurt ≡ 0
  pub sunk : v.sunk ≡ 0
  pub whole : v.whole ≡ None
  pub wild : v.wild ≡ 0

-- The gift word that a share has seen of the finish for which its vertex waited still stands.
pub record Shows (gifts : ℕ → ℕ) (v : View) : Type 0 where
  pub gift : (r : Running) (n f : ℕ) → v.running ≡ Some r → v.seen ≡ Some n → r.vertex ≡ 2 * f + 1 → gifts f ≡ n
