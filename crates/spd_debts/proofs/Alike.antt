-- Steps that change no debt keep the books: loads, `see_vertex`, `see_sum`, `add_root`.
use Rattle.spd_state.specs.Steps.{stepped, add_view}
use Rattle.spd_state.specs.Shown.{note_ready}
use Rattle.spd_words.specs.Words.{Vertex}
use Rattle.std.proofs.Common.{◌≡◌, inl, ℕ, ◌+◌, List, set, min, refl, sym, ap, ◌∙◌, Option}
use mathlib.Core.Option.{some, none}
use mathlib.Core.Option as maybe
use lib.ListN.{get_elem?}
use Rattle.spd_words.specs.declared.finish_kind.FinishKind.{FinishKind}
use Rattle.spd_words.specs.Gift.{join}
use Rattle.spd_words.specs.Meaning.{Meaning}
use Rattle.spd_words.specs.Plan.{PlanView}
use Rattle.spd_words.specs.Words.{Node, Pair}
use Rattle.spd_state.specs.declared.view.View.{View}
use Rattle.spd_words.specs.Words.{Node}
use Rattle.spd_state.specs.Dag.{Dag, openings, opens_in}
use Rattle.spd_debts.specs.Books.{Books, ViewOk, hurt_in, pend_in}
use Rattle.spd_debts.specs.Debts.{debts}
use Rattle.spd_debts.specs.Payments.{shown_view}
use Rattle.spd_debts.specs.Worth.{fault_debt, gift_debt, gift_of, moves_debt}
use Rattle.spd_debts.proofs.Offers.{opened_kept}
use Rattle.spd_debts.proofs.Turns.{turn_keeps, view_on}

-- ---- a change of the view that changes no debt

module _ {B : Type 0} (view : B → Meaning) (p : PlanView) (a : Dag) (homes : List (maybe.Option (Option B))) (vs : List View)
    (books : Books view p a homes vs) (id : ℕ) (v : View) (at : get_elem? vs id ≡ some v)
    (w : View) (nodes' : ℕ → Node) (pairs' : ℕ → Pair) (owe_same : debts w ≡ debts v) (flies : w.flight ≡ v.flight)
    (hurts : (f : ℕ) → hurt_in f w ≡ hurt_in f v) (pends : (f : ℕ) → pend_in f w ≡ pend_in f v)
    (new : ViewOk (openings a.vertices vs) a.expects a.faults w) where
  pub like_keeps : Books view p (record a { nodes = nodes'; pairs = pairs' }) homes (set vs id w)
  like_keeps = turn_keeps view p a homes vs books id v w at a.drawn nodes' pairs' a.gifts a.faults
      record {
        opens = λ f. ap (opens_in f) flies;
        sinks = λ f e. e;
        hurts = λ f _ h. sym (hurts f) ∙ h;
        gifts = λ f l _ _. let k : FinishKind = (a.expects f).kind in ap (λ d. join k (gift_of k (a.gifts f)) (gift_debt k f d)) owe_same;
        faults = λ f l _ _. ap (λ d. min (a.faults f) (fault_debt f d)) owe_same;
        passes = λ f l z e s h. inl (e, sym (pends f) ∙ h);
        few = λ h l. (l, ap (λ d. a.drawn + moves_debt d) owe_same);
        many = λ h l. inl l;
      }
      (view_on (openings a.vertices vs) (openings a.vertices (set vs id w)) a.expects a.faults a.faults w (λ f o. opened_kept a vs id v w at flies f o)
      (λ f e. e) new)

-- ---- the steps

module _ {B : Type 0} (view : B → Meaning) (p : PlanView) (a : Dag) (homes : List (maybe.Option (Option B))) (vs : List View)
    (books : Books view p a homes vs) (id : ℕ) (v : View) (at : get_elem? vs id ≡ some v) where
  old : ViewOk (openings a.vertices vs) a.expects a.faults v
  old = books.views id v at

  -- any load that only counts, also of the word of the end (`see_done`)
  pub load_books : Books view p a homes (set vs id (stepped v))
  load_books = like_keeps view p a homes vs books id v at (stepped v) a.nodes a.pairs refl refl (λ f. refl) (λ f. refl)
      record {
        right = old.right;
        kind = old.kind;
        awaited = old.awaited;
        sunk = old.sunk;
        gives = old.gives;
        begun = old.begun;
        whole = old.whole;
        tame = old.tame;
      }

  -- `see_vertex` of a ready vertex
  pub note_books : (i : ℕ) (x : Vertex) → Books view p a homes (set vs id (note_ready i x v))
  note_books i x = like_keeps view p a homes vs books id v at (note_ready i x v) a.nodes a.pairs refl refl (λ f. refl) (λ f. refl)
      record {
        right = old.right;
        kind = old.kind;
        awaited = old.awaited;
        sunk = old.sunk;
        gives = old.gives;
        begun = old.begun;
        whole = old.whole;
        tame = old.tame;
      }

  -- `see_sum`
  pub shown_books : (n : ℕ) → Books view p a homes (set vs id (shown_view n v))
  shown_books n = like_keeps view p a homes vs books id v at (shown_view n v) a.nodes a.pairs refl refl (λ f. refl) (λ f. refl)
      record {
        right = old.right;
        kind = old.kind;
        awaited = old.awaited;
        sunk = old.sunk;
        gives = old.gives;
        begun = old.begun;
        whole = old.whole;
        tame = old.tame;
      }

  -- `add_root`
  pub add_books : (d : ℕ) (nodes' : ℕ → Node) → Books view p (record a { nodes = nodes' }) homes (set vs id (add_view d v))
  add_books d nodes' = like_keeps view p a homes vs books id v at (add_view d v) nodes' a.pairs refl refl (λ f. refl) (λ f. refl)
      record {
        right = old.right;
        kind = old.kind;
        awaited = old.awaited;
        sunk = old.sunk;
        gives = old.gives;
        begun = old.begun;
        whole = old.whole;
        tame = old.tame;
      }
