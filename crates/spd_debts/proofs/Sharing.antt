-- The book rule of a new field, and that splits and joins keep it.
use Rattle.std.proofs.Common.{◌≡◌, ◌≢◌, ℕ, ◌+◌, List, [], ◌∷◌, ◌++◌, set, refl, sym, ap, ◌∙◌, subst, arith, Option, Some, None}
use mathlib.Core.Option.{some, some-ne-none}
use mathlib.Core.Option as maybe
use lib.ListN.{get_elem?}
use Rattle.spd_words.specs.Meaning.{Meaning}
use Rattle.spd_words.specs.Plan.{PlanView}
use Rattle.spd_state.specs.Sums.{Each}
use Rattle.spd_state.specs.Dag.{Dag}
use Rattle.spd_state.specs.Seats.{kept_view, given_view, joined_view, spent_view, first_view, first_of}
use Rattle.spd_state.specs.declared.promise.Whole.{Whole}
use Rattle.spd_state.specs.declared.view.View.{View}
use Rattle.spd_state.proofs.Opening.{blank}
use Rattle.spd_state.proofs.Sums.{each_kept, each_more, each_cons}
use Rattle.spd_debts.specs.Books.{Unbegun, Shows}
use Rattle.spd_debts.specs.BookRule.{BookRule, Carries}
use Rattle.spd_debts.proofs.Halves.{unbegun_first, unbegun_spent, unbegun_kept, unbegun_given, unbegun_joined, split_books, join_books}
use Rattle.spd_debts.proofs.Seen.{shows_kept, shows_none}
use Rattle.spd_debts.proofs.Standing.{carries_kept}

-- a view that carries nothing tells nothing
carries_none : (tame region : ℕ) (w : View) → w.whole ≡ None → Carries tame region w
carries_none tame region w e = record { keeps = λ x is. let z = sym e ∙ is in absurd (cc); only = λ x is. let z = sym e ∙ is in absurd (cc) }

-- nor does one that has seen nothing
shows_nothing : (gifts : ℕ → ℕ) (w : View) → w.seen ≡ None → Shows gifts w
shows_nothing gifts w e = record { gift = λ r n f is saw odd. let z = sym e ∙ saw in absurd (cc) }

-- where a view carries what either of two has
carries_first : (tame region : ℕ) (v o w : View) → w.whole ≡ first_of v.whole o.whole → Carries tame region v → Carries tame region o → Carries tame region w
carries_first tame region v o w e h k = by v.whole refl
  where
    by : (x : Option Whole) → v.whole ≡ x → Carries tame region w
    by None is = carries_kept tame region o w (e ∙ ap (λ x. first_of x o.whole) is) k
    by (Some x) is = carries_kept tame region v w (e ∙ ap (λ x. first_of x o.whole) is ∙ sym is) h

pub blank_stands : {B : Type 0} (view : B → Meaning) (p : PlanView) (homes : List (maybe.Option (Option B))) → BookRule view p (blank p) homes (first_view ∷ [])
blank_stands view p homes = record {
  kept = λ z. absurd (omega arith);
  lawful = λ z. absurd (omega arith);
  shows = each_cons (Shows (λ _. 0)) first_view [] (shows_nothing (λ _. 0) first_view refl) (λ j u e. absurd (some-ne-none u (sym e)));
  carries = each_cons (Carries 0 0) first_view [] (carries_none 0 0 first_view refl) (λ j u e. absurd (some-ne-none u (sym e)));
  unbegun = λ _. each_cons Unbegun first_view [] unbegun_first (λ j u e. absurd (some-ne-none u (sym e)));
}

module _ {B : Type 0} (view : B → Meaning) (p : PlanView) (a : Dag) (homes : List (maybe.Option (Option B))) (vs : List View)
    (stands : BookRule view p a homes vs) (id : ℕ) (v : View) (at : get_elem? vs id ≡ some v) where
  pub split_stands : BookRule view p a homes (set vs id (kept_view v) ++ (given_view v ∷ []))
  split_stands = record {
    kept = λ t. split_books view p a homes vs (stands.kept t) id v at;
    lawful = stands.lawful;
    shows = each_more (Shows a.gifts) (set vs id (kept_view v)) (given_view v) (shows_nothing a.gifts (given_view v) refl)
        (shows_kept a.gifts vs stands.shows id v at (kept_view v) (λ r e. (r, e, refl)) refl);
    carries = let c = stands.carries id v at in each_more (Carries a.tame a.region) (set vs id (kept_view v)) (given_view v)
        (carries_kept a.tame a.region v (given_view v) refl c)
        (each_kept (Carries a.tame a.region) vs id (kept_view v) (carries_kept a.tame a.region v (kept_view v) refl c) stands.carries);
    unbegun = λ z. let u = stands.unbegun z in each_more Unbegun (set vs id (kept_view v)) (given_view v) (unbegun_given v (u id v at))
        (each_kept Unbegun vs id (kept_view v) (unbegun_kept v (u id v at)) u);
  }

  -- the other share runs nothing and has no move in flight; its view is spent
  pub join_stands : (other : ℕ) (o : View) → get_elem? vs other ≡ some o → get_elem? (set vs id (joined_view v o)) other ≡ some o → o.running ≡ None
      → o.flight ≡ None → BookRule view p a homes (set (set vs id (joined_view v o)) other spent_view)
  join_stands other o there_before there idle free = record {
    kept = λ t. join_books view p a homes vs (stands.kept t) id v at other o there_before there idle free;
    lawful = stands.lawful;
    shows = shows_none a.gifts (set vs id (joined_view v o)) (shows_kept a.gifts vs stands.shows id v at (joined_view v o) (λ r e. (r, e, refl)) refl)
        other o there spent_view refl;
    carries = each_kept (Carries a.tame a.region) (set vs id (joined_view v o)) other spent_view (carries_none a.tame a.region spent_view refl)
        (each_kept (Carries a.tame a.region) vs id (joined_view v o)
        (carries_first a.tame a.region v o (joined_view v o) refl (stands.carries id v at) (stands.carries other o there_before)) stands.carries);
    unbegun = λ z. let u = stands.unbegun z in each_kept Unbegun (set vs id (joined_view v o)) other spent_view unbegun_spent
        (each_kept Unbegun vs id (joined_view v o) (unbegun_joined v (u id v at) o (u other o there_before)) u);
  }
