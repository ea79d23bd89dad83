-- The rule with the books: what holds of the table between any two steps, and a step under both.
use Rattle.std.specs.Prelude.{◌≡◌, ◌<◌, ◌*◌, ◌+◌, ◌∷◌, ℕ, List, Option, Some, false}
use mathlib.Core.Option.{some}
use mathlib.Core.Option as maybe
use lib.ListN.{get_elem?}
use Rattle.atomic_table.specs.Table.{State, Me, rest}
use Rattle.spd_words.specs.Meaning.{Meaning, BodyView, Awaited, Going, IsTame}
use Rattle.spd_words.specs.Words.{Vertex}
use Rattle.spd_words.specs.Plan.{PlanView}
use Rattle.spd_state.specs.declared.view.View.{View}
use Rattle.spd_debts.specs.BookRule.{BookRule}
use Rattle.spd_state.specs.declared.promise.Whole.{Whole}
use Rattle.spd_rule.specs.Payments.{KnowsBooks}
use Rattle.spd_rule.specs.Held.{Held, StepUnderRule}

-- what bodies mean, of what is told of them
abbrev pub means_of : {B : Type 0} → (B → BodyView) → B → Meaning
means_of view b = (view b).means

-- A body that may lie in a slot: it goes on, and is tame unless it is wild.
pub record IsFit (b : BodyView) : Type 0 where
  pub goes : b.stage ≡ Going
  pub tame : b.means.wild ≡ false → IsTame b.means

-- Each body at home of a vertex that waits or is ready is one.
abbrev pub FitHomes : {B : Type 0} → (B → BodyView) → ℕ → (ℕ → Vertex) → List (maybe.Option (Option B)) → Type 0
FitHomes {B} view m vertices homes = (x : ℕ) (b : B) → x < 2 * m → 0 < (vertices x).state → (vertices x).state < 3
    → get_elem? homes x ≡ some (some (Some b)) → IsFit (view b)

-- The rule, the books where they are kept, and fit bodies.
pub record Kept {B : Type 0} (view : B → BodyView) (p : PlanView) (s : State (Option B) View) : Type 0 where
  pub held : Held p s
  pub books : BookRule (means_of view) p held.dag s.homes s.views
  pub fit : FitHomes view p.moves held.dag.vertices s.homes

-- What lies in the slot that the share took last, if a body lies there, is fit.
abbrev pub SlotFits : {B : Type 0} → (B → BodyView) → Me (Option B) View → Type 0
SlotFits {B} view me = (i : ℕ) (b : B) → me.1 ≡ (i, Some b) ∷ rest me.1 → IsFit (view b)

-- The body of the vertex i that a share with this view starts is fit. Where the share carries that books are kept, it isn't wild, and waits
-- only where the vertex waited for a finish.
pub record FitsStart (v : View) (i : ℕ) (b : BodyView) : Type 0 where
  pub fit : IsFit b
  pub tame : (w : Whole) → KnowsBooks v w → b.means.wild ≡ false
  pub waits : (w : Whole) → KnowsBooks v w → (x : Awaited) → b.means.awaited ≡ Some x → (f : ℕ) × (i ≡ 2 * f + 1)

abbrev pub StartsFit : {B : Type 0} → (B → BodyView) → ℕ → Me (Option B) View → Me (Option B) View → Type 0
StartsFit {B} view i me me' = (b : B) → me'.1 ≡ (i, Some b) ∷ me.1 → FitsStart me.0 i (view b)

-- A step under the rule, just before which and just after which the books stood.
pub record StepUnderBooks {B : Type 0} (means : B → Meaning) (p : PlanView) (place found left : ℕ) (me me' : Me (Option B) View) : Type 0 where
  pub step : StepUnderRule p place found left me me'
  pub books_before : BookRule means p step.held.dag step.before.homes step.before.views
  pub books_after : BookRule means p step.kept.dag step.after.homes step.after.views

-- A share that had the view and the slots `me`, and then `me'`, took one step under the rule, just before which and just after which the books
-- stood.
pub record StandsAround {B : Type 0} (means : B → Meaning) (p : PlanView) (me me' : Me (Option B) View) : Type 0 where
  pub place : ℕ
  pub found : ℕ
  pub left : ℕ
  pub step : StepUnderBooks means p place found left me me'
