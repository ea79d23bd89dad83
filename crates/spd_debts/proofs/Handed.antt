-- `set_pair` of a make or a chain keeps the books: its body owes what it owed.
use Rattle.std.proofs.Common.{◌≡◌, inl, ℕ, ◌+◌, ◌<◌, List, length, ◌++◌, set, min, refl, sym, ap, ◌∙◌, arith, Option, Some}
use mathlib.Core.Option.{some}
use mathlib.Core.Option as maybe
use lib.ListN.{get_elem?}
use Rattle.spd_words.specs.declared.finish_kind.FinishKind.{FinishKind}
use Rattle.spd_words.specs.Gift.{join}
use Rattle.spd_words.specs.Meaning.{Meaning}
use Rattle.spd_words.specs.Plan.{PlanView}
use Rattle.spd_words.specs.Words.{Pair}
use Rattle.spd_state.specs.Sums.{same, gate}
use Rattle.spd_state.specs.Dag.{Dag, openings, opens_in, root_of}
use Rattle.spd_state.specs.Stages.{handed_view}
use Rattle.spd_state.specs.declared.view.Flight.{Flight}
use Rattle.spd_state.specs.declared.promise.Owed.{Owed}
use Rattle.spd_state.specs.declared.view.Draw.{Draw}
use Rattle.spd_state.specs.declared.view.Draw.TheVariants.{Make, Chain}
use Rattle.spd_state.specs.declared.view.View.{View}
use Rattle.spd_state.proofs.Sums.{total_kept}
use Rattle.spd_debts.specs.Books.{Books, ViewOk, flying_debts}
use Rattle.spd_debts.specs.Debts.{debts, fly_debt, move_debt, run_debt}
use Rattle.spd_debts.specs.Worth.{fault_debt, gift_debt, gift_of, moves_debt}
use Rattle.spd_debts.proofs.Turns.{turn_keeps, view_on}

-- what stays from stage 1 to stage 2
pub record Handing (draw : Draw) : Type 0 where
  pub debt : (f : ℕ) (body rest : Owed) → move_debt draw 2 f body rest ≡ move_debt draw 1 f body rest
  pub root : root_of draw 2 ≡ root_of draw 1

pub make_handing : Handing Make
make_handing = record { debt = λ f b r. refl; root = refl }

pub chain_handing : Handing Chain
chain_handing = record { debt = λ f b r. refl; root = refl }

module _ {B : Type 0} (view : B → Meaning) (p : PlanView) (a : Dag) (homes : List (maybe.Option (Option B))) (vs : List View)
    (books : Books view p a homes vs) (id : ℕ) (v : View) (at : get_elem? vs id ≡ some v)
    (draw : Draw) (kind : Handing draw) (d : ℕ) (flies : v.flight ≡ Some record { draw = draw; number = d; finish = d; stage = 1 }) (pairs' : ℕ → Pair) where
  abbrev w : View
  w = handed_view draw d v

  old : ViewOk (openings a.vertices vs) a.expects a.faults v
  old = books.views id v at

  abbrev g : Flight
  g = record { draw = draw; number = d; finish = d; stage = 1 }

  abbrev g' : Flight
  g' = record { draw = draw; number = d; finish = d; stage = 2 }

  owe_same : debts w ≡ debts v
  owe_same = ap (λ l. run_debt v.running v.claimed v.owes ++ l) (kind.debt d v.body v.rest ∙ sym (ap (λ o. fly_debt o v.body v.rest) flies))

  opens_same : (f : ℕ) → opens_in f w.flight ≡ opens_in f v.flight
  opens_same f = ap (λ k. gate k (same f d)) kind.root ∙ sym (ap (opens_in f) flies)

  -- it owed something before too
  owed_before : (e : Flight) → g' ≡ e → 0 < flying_debts e v → 0 < flying_debts g v
  owed_before e m z = let x = ap (λ (e : Flight). flying_debts e v) m in
      let y : flying_debts g' v ≡ flying_debts g v = ap length (kind.debt d v.body v.rest) in omega arith

  pub handed_books : Books view p (record a { pairs = pairs' }) homes (set vs id w)
  handed_books = turn_keeps view p a homes vs books id v w at a.drawn a.nodes pairs' a.gifts a.faults
      record {
        opens = opens_same;
        sinks = λ f e. e;
        hurts = λ f _ h. h;
        gifts = λ f l _ _. let k : FinishKind = (a.expects f).kind in ap (λ l. join k (gift_of k (a.gifts f)) (gift_debt k f l)) owe_same;
        faults = λ f l _ _. ap (λ l. min (a.faults f) (fault_debt f l)) owe_same;
        passes = λ f l z e s h. inl (e, h);
        few = λ h l. (l, ap (λ l. a.drawn + moves_debt l) owe_same);
        many = λ h l. inl l;
      }
      (view_on (openings a.vertices vs) (openings a.vertices (set vs id w)) a.expects a.faults a.faults w
      (λ f o. let t = total_kept (λ (u : View). opens_in f u.flight) vs id v w at (opens_same f) in omega arith) (λ f e. e)
      record {
        right = old.right;
        kind = old.kind;
        awaited = old.awaited;
        sunk = old.sunk;
        gives = λ e k z. let m : g' ≡ e = cc in old.gives g flies (owed_before e m z) ∙ ap (λ (e : Flight). (a.expects e.finish).kind) m;
        begun = λ e k o z. let m : g' ≡ e = cc in let t = old.begun g flies (ap (λ (e : Flight). root_of e.draw 1) m ∙ o) (owed_before e m z) in
            (t.0 ∙ ap (λ (e : Flight). (a.expects e.number).gift) m, t.1 ∙ ap (λ (e : Flight). (a.expects e.number).fault) m);
        whole = old.whole;
        tame = old.tame;
      })
