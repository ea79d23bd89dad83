-- The book rule: the books where they are kept, and what shares know of them in every field.
use Rattle.std.specs.Prelude.{◌≡◌, ℕ, ◌+◌, List, Option, Some}
use mathlib.Core.Option as maybe
use Rattle.spd_words.specs.Meaning.{Meaning, IsLawfulTotal}
use Rattle.spd_words.specs.Plan.{PlanView}
use Rattle.spd_state.specs.Sums.{Each}
use Rattle.spd_state.specs.Dag.{Dag}
use Rattle.spd_state.specs.declared.promise.Whole.{Whole}
use Rattle.spd_state.specs.declared.view.View.{View}
use Rattle.spd_debts.specs.Books.{Books, Unbegun, Shows}

-- What a share carries of the make tells whether books are kept, and then the region's number of moves.
pub record Carries (tame region : ℕ) (v : View) : Type 0 where
  pub keeps : (w : Whole) → v.whole ≡ Some w → w.wild ≡ 0 → (tame ≡ 1) × (w.owes.moves + 1 ≡ region)
  pub only : (w : Whole) → v.whole ≡ Some w → tame ≡ 1 → w.wild ≡ 0

pub record BookRule {B : Type 0} (view : B → Meaning) (p : PlanView) (a : Dag) (homes : List (maybe.Option (Option B))) (vs : List View)
    : Type 0 where
  -- All four parts stand in a field that keeps books, and finish 0 is to give a lawful total.
  pub kept : a.tame ≡ 1 → Books view p a homes vs
  pub lawful : a.tame ≡ 1 → IsLawfulTotal (a.expects 0).kind (a.expects 0).gift (a.expects 0).fault
  -- A gift word that a share has seen of the finish for which its vertex waited still stands.
  pub shows : Each (Shows a.gifts) vs
  pub carries : Each (Carries a.tame a.region) vs
  -- Before the make no share knows or owes anything.
  pub unbegun : a.drawn ≡ 0 → Each Unbegun vs
