-- A step that stores, starts or wakes a vertex keeps the books where it only moves debts.
use Rattle.std.proofs.Common.{◌≡◌, ◌≢◌, ◌⊎◌, ⊎_elim, ℕ, ◌+◌, ◌*◌, ◌<◌, ◌≤◌, List, ◌++◌, set, min, refl, sym, ap, ◌∙◌, subst, arith, Option, Some}
use mathlib.Core.Option.{some, none}
use mathlib.Core.Option as maybe
use lib.ListN.{get_elem?}
use Rattle.spd_words.specs.declared.finish_kind.FinishKind.{FinishKind}
use Rattle.spd_words.specs.Gift.{join, identity, no_fault}
use Rattle.spd_words.specs.Meaning.{Meaning}
use Rattle.spd_words.specs.Plan.{PlanView}
use Rattle.spd_words.specs.Words.{Vertex}
use Rattle.spd_state.specs.Sums.{put}
use Rattle.spd_state.specs.Dag.{Dag, openings}
use Rattle.spd_state.specs.declared.view.View.{View}
use Rattle.spd_state.proofs.Sums.{put_case, put_here, put_else, total_set, total_kept, total_has, each_set}
use Rattle.spd_words.proofs.Gather.{faults_join, gifts_join, moves_join}
use Rattle.spd_words.specs.Gather.{IsJoin, gather}
use Rattle.spd_debts.specs.Books.{BodyOk, Books, Clear, ViewOk, hurt_in, hurts, pend_in}
use Rattle.spd_debts.specs.Debts.{Debt, debts, home_debt, owed}
use Rattle.spd_debts.specs.Worth.{fault_to, gift_of, gift_to, moves_in}
use Rattle.spd_debts.proofs.Folds.{turned_same}
use Rattle.spd_debts.proofs.Owing.{turn_slot}
use Rattle.spd_debts.proofs.Turns.{view_on}

-- ---- a step that stores, starts or wakes the vertex i

pub record Placed {B : Type 0} (view : B → Meaning) (p : PlanView) (a : Dag) (homes homes' : List (maybe.Option (Option B))) (v w : View) (i : ℕ)
    (x : Vertex) : Type 0 where
  pub low : i < 2 * p.moves
  pub others : (k : ℕ) → k ≢ i → get_elem? homes' k ≡ get_elem? homes k
  pub moved : home_debt view i x (get_elem? homes' i) ++ debts w ≡ home_debt view i (a.vertices i) (get_elem? homes i) ++ debts v
  pub hurts : (f : ℕ) → hurt_in f w ≡ hurt_in f v
  pub pends : (f : ℕ) → pend_in f v ≤ pend_in f w
  pub passes : (f : ℕ) → f < p.moves → i ≡ 2 * f + 1 → 3 ≤ x.state → 0 < f → a.faults f ≡ 0 → (0 < pend_in f w) ⊎ (a.faults x.finish ≡ 0)

module _ {B : Type 0} (view : B → Meaning) (p : PlanView) (a : Dag) (homes homes' : List (maybe.Option (Option B))) (vs : List View)
    (books : Books view p a homes vs) (id : ℕ) (v w : View) (at : get_elem? vs id ≡ some v)
    (i : ℕ) (x : Vertex) (t : Placed view p a homes homes' v w i x) (same_open : (f : ℕ)
    → openings (put a.vertices i x) (set vs id w) f ≡ openings a.vertices vs f)
    (new : ViewOk (openings a.vertices vs) a.expects a.faults w)
    (body : (b : B) → 0 < x.state → x.state < 3 → i ≢ 1 → get_elem? homes' i ≡ some (some (Some b))
    → BodyOk (openings a.vertices vs) a.expects i x.finish (view b)) where
  abbrev after : List View
  after = set vs id w

  abbrev vertices' : ℕ → Vertex
  vertices' = put a.vertices i x

  abbrev opens : ℕ → ℕ
  opens = openings a.vertices vs

  abbrev opens' : ℕ → ℕ
  opens' = openings vertices' after

  same_hurts : (f : ℕ) → hurts after f ≡ hurts vs f
  same_hurts f = total_kept (hurt_in f) vs id v w at (t.hurts f)

  back : (f : ℕ) → Clear opens' a.faults (hurts after) f → Clear opens a.faults (hurts vs) f
  back f c = let s = same_open f in let o = c.is_open in let u = c.unhurt in let h = same_hurts f in
      record { is_open = omega arith; pure = c.pure; unhurt = omega arith }

  here : vertices' i ≡ x
  here = put_here a.vertices i x i refl

  -- what is owed stays, by every measure
  pub owed_same : {C : Type 0} (op : C → C → C) (e : C) (law : IsJoin op e) (worth : Debt → C)
      → owed op e worth view p vertices' homes' after ≡ owed op e worth view p a.vertices homes vs
  owed_same op e law worth = turned_same op e law
      (ap (gather op e worth) (ap (λ y. home_debt view i y (get_elem? homes' i) ++ debts w) here ∙ t.moved))
      (turn_slot op e law worth view p vs id v w at a.vertices vertices' homes homes' i t.low
      (λ k n j. home_debt view k (put_else a.vertices i x k n j) (t.others k n j)))

  pub placed_keeps : Books view p (record a { vertices = vertices' }) homes' after
  placed_keeps = record {
    gifts = record {
      whole = λ f l c. let k : FinishKind = (a.expects f).kind in
          ap (join k (gift_of k (a.gifts f))) (owed_same (join k) (identity k) (gifts_join k) (gift_to k f)) ∙ books.gifts.whole f l (back f c);
    };
    faults = record { whole = λ f l c. ap (min (a.faults f)) (owed_same min no_fault faults_join (fault_to f)) ∙ books.faults.whole f l (back f c) };
    passes = record {
      on = λ f l z e s n. let k = total_set (pend_in f) vs id v w at in let h = total_has (pend_in f) vs id v at in let q = t.pends f in
          put_case (λ (y : Vertex). 3 ≤ y.state → a.faults y.finish ≡ 0) a.vertices i x (2 * f + 1)
          (λ g s'. ⊎_elim (λ (y : 0 < pend_in f w). absurd (omega arith)) (λ (y : a.faults x.finish ≡ 0). y) (t.passes f l (sym g) s' z e))
          (λ g s'. books.passes.on f l z e s' (omega arith)) s;
    };
    counts = let o = owed_same (λ x y. x + y) 0 moves_join moves_in in
        record { few = λ h l. ap (λ k. a.drawn + k) o ∙ books.counts.few h l; many = books.counts.many };
    bodies = λ k b l s u n e. put_case (λ (y : Vertex). 0 < y.state → y.state < 3 → BodyOk opens' a.expects k y.finish (view b)) a.vertices i x k
        (λ g s' u'. subst (λ j. BodyOk opens' a.expects j x.finish (view b)) (sym g)
        (on i x.finish b (body b s' u' (λ z. n (g ∙ z)) (ap (get_elem? homes') (sym g) ∙ e))))
        (λ g s' u'. on k (a.vertices k).finish b (books.bodies k b l s' u' n (sym (t.others k g) ∙ e))) s u;
    views = each_set (ViewOk opens a.expects a.faults) (ViewOk opens' a.expects a.faults) vs id w
        (view_on opens opens' a.expects a.faults a.faults w (λ f o. let s = same_open f in omega arith) (λ f e. e) new) books.views
        (λ j u _ _ k. view_on opens opens' a.expects a.faults a.faults u (λ f o. let s = same_open f in omega arith) (λ f e. e) k);
  }
    where
      on : (k g : ℕ) (b : B) → BodyOk opens a.expects k g (view b) → BodyOk opens' a.expects k g (view b)
      on k g b h = record {
        tame = h.tame;
        kind = h.kind;
        waits = λ f z q o. let s = same_open f in
            h.waits f z q (omega arith);
        only = λ y r. let q = h.only y r in let s = same_open q.0 in let o = q.2 in (q.0, q.1, omega arith);
      }
