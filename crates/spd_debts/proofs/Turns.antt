-- Steps keep the books: a step that changes a view, and among the words those of books alone.
use Rattle.std.proofs.Common.{◌≡◌, ◌≢◌, ◌⊎◌, ⊎_elim, ℕ, ◌+◌, ◌*◌, ◌<◌, ◌≤◌, List, set, min, ◌∙◌, arith, Option}
use mathlib.Core.Option.{some, none}
use mathlib.Core.Option as maybe
use lib.ListN.{get_elem?}
use Rattle.spd_words.specs.declared.finish_kind.FinishKind.{FinishKind}
use Rattle.spd_words.specs.Gift.{join, identity, no_fault}
use Rattle.spd_words.specs.Meaning.{Awaited, Meaning}
use Rattle.spd_words.specs.Plan.{PlanView}
use Rattle.spd_words.specs.Words.{Node, Pair}
use Rattle.spd_state.specs.Dag.{Dag, openings, opens_in}
use Rattle.spd_state.specs.declared.view.View.{View}
use Rattle.spd_state.proofs.Sums.{total_set, total_kept, total_has, each_set}
use Rattle.spd_words.proofs.Gather.{faults_join, gifts_join, moves_join}
use Rattle.spd_debts.specs.Books.{Books, Clear, ViewOk, hurt_in, hurts, pend_in}
use Rattle.spd_debts.specs.Debts.{debts}
use Rattle.spd_debts.specs.Worth.{fault_debt, fault_to, gift_debt, gift_of, gift_to, moves_debt, moves_in}
use Rattle.spd_debts.proofs.Folds.{turned_put}
use Rattle.spd_debts.proofs.Owing.{turn_view}

-- what the rule says of another share's view stays where finishes stay open and a fault 0 stays
pub view_on : (opens opens' : ℕ → ℕ) (expects : ℕ → Awaited) (faults faults' : ℕ → ℕ) (v : View) → ((f : ℕ) → 0 < opens f → 0 < opens' f)
    → ((f : ℕ) → faults f ≡ 0 → faults' f ≡ 0) → ViewOk opens expects faults v → ViewOk opens' expects faults' v
view_on opens opens' expects faults faults' v o z h = record {
  right = h.right;
  kind = h.kind;
  awaited = λ r w is e. let t = h.awaited r w is e in (t.0, t.1, t.2, o t.0 t.3, t.4);
  sunk = λ s. let t = h.sunk s in (t.0, t.1, t.2, z t.0.finish t.3);
  gives = h.gives;
  begun = h.begun;
  whole = h.whole;
  tame = h.tame;
}

-- a fault word other than 0 was none before
pub pure_before : (faults faults' : ℕ → ℕ) (m : ℕ) → ((f : ℕ) → faults f ≡ 0 → faults' f ≡ 0) → ((f : ℕ) → f < m → faults' f ≢ 0) → (f : ℕ) → f < m
    → faults f ≢ 0
pure_before faults faults' m z h f l e = h f l (z f e)

-- ---- a step that changes a view, and the words that it writes aren't vertices

pub record Turn (p : PlanView) (a : Dag) (vs : List View) (v w : View) (drawn' : ℕ) (gifts' faults' : ℕ → ℕ) : Type 0 where
  pub opens : (f : ℕ) → opens_in f w.flight ≡ opens_in f v.flight
  pub sinks : (f : ℕ) → a.faults f ≡ 0 → faults' f ≡ 0
  pub hurts : (f : ℕ) → faults' f ≢ 0 → hurt_in f w ≡ 0 → hurt_in f v ≡ 0
  pub gifts : (f : ℕ) → f < p.moves → faults' f ≢ 0 → hurt_in f w ≡ 0 → let k : FinishKind = (a.expects f).kind in
      join k (gift_of k (gifts' f)) (gift_debt k f (debts w)) ≡ join k (gift_of k (a.gifts f)) (gift_debt k f (debts v))
  pub faults : (f : ℕ) → f < p.moves → faults' f ≢ 0 → hurt_in f w ≡ 0 → min (faults' f) (fault_debt f (debts w)) ≡ min (a.faults f) (fault_debt f (debts v))
  pub passes : (f : ℕ) → f < p.moves → 0 < f → faults' f ≡ 0 → 3 ≤ (a.vertices (2 * f + 1)).state → pend_in f w ≡ 0 → ((a.faults f ≡ 0) × (pend_in f v ≡ 0))
      ⊎ (faults' (a.vertices (2 * f + 1)).finish ≡ 0)
  pub few : ((f : ℕ) → f < p.moves → faults' f ≢ 0) → drawn' ≤ p.moves → (a.drawn ≤ p.moves)
      × (drawn' + moves_debt (debts w) ≡ a.drawn + moves_debt (debts v))
  pub many : ((f : ℕ) → f < p.moves → faults' f ≢ 0) → p.moves < drawn' → (p.moves < a.drawn) ⊎ (p.moves < a.region)

module _ {B : Type 0} (view : B → Meaning) (p : PlanView) (a : Dag) (homes : List (maybe.Option (Option B))) (vs : List View)
    (books : Books view p a homes vs) (id : ℕ) (v w : View) (at : get_elem? vs id ≡ some v)
    (drawn' : ℕ) (nodes' : ℕ → Node) (pairs' : ℕ → Pair) (gifts' faults' : ℕ → ℕ) (t : Turn p a vs v w drawn' gifts' faults')
    (new : ViewOk (openings a.vertices (set vs id w)) a.expects faults' w) where
  abbrev after : List View
  after = set vs id w

  abbrev opens : ℕ → ℕ
  opens = openings a.vertices vs

  abbrev opens' : ℕ → ℕ
  opens' = openings a.vertices after

  same_open : (f : ℕ) → opens' f ≡ opens f
  same_open f = let k = total_kept (λ (u : View). opens_in f u.flight) vs id v w at (t.opens f) in omega arith

  -- a finish that isn't tainted after the step wasn't before
  back : (f : ℕ) → Clear opens' faults' (hurts after) f → Clear opens a.faults (hurts vs) f
  back f c = let s = same_open f in let o = c.is_open in let u = c.unhurt in let k = total_set (hurt_in f) vs id v w at in
      let h = t.hurts f c.pure (mine f c) in
      record { is_open = omega arith; pure = λ e. c.pure (t.sinks f e); unhurt = omega arith }
    where
      mine : (g : ℕ) → Clear opens' faults' (hurts after) g → hurt_in g w ≡ 0
      mine g d = let e = d.unhurt in let k = total_set (hurt_in g) vs id v w at in let h = total_has (hurt_in g) vs id v at in omega arith

  mine : (g : ℕ) → Clear opens' faults' (hurts after) g → hurt_in g w ≡ 0
  mine g d = let e = d.unhurt in let k = total_set (hurt_in g) vs id v w at in let h = total_has (hurt_in g) vs id v at in omega arith

  pub turn_keeps : Books view p (record a { drawn = drawn'; nodes = nodes'; pairs = pairs'; gifts = gifts'; faults = faults' }) homes after
  turn_keeps = record {
    gifts = record {
      whole = λ f l c. let k : FinishKind = (a.expects f).kind in
          turned_put (join k) (identity k) (gifts_join k) (gift_of k (a.gifts f)) (gift_of k (gifts' f)) (t.gifts f l c.pure (mine f c))
          (turn_view (join k) (identity k) (gifts_join k) (gift_to k f) view p vs id v w at a.vertices homes) ∙ books.gifts.whole f l (back f c);
    };
    faults = record {
      whole = λ f l c. turned_put min no_fault faults_join (a.faults f) (faults' f) (t.faults f l c.pure (mine f c))
          (turn_view min no_fault faults_join (fault_to f) view p vs id v w at a.vertices homes) ∙ books.faults.whole f l (back f c);
    };
    passes = record {
      on = λ f l z e s n. let k = total_set (pend_in f) vs id v w at in let h = total_has (pend_in f) vs id v at in
          ⊎_elim (λ (q : (a.faults f ≡ 0) × (pend_in f v ≡ 0)). let q₁ = q.1 in
          t.sinks (a.vertices (2 * f + 1)).finish (books.passes.on f l z q.0 s (omega arith)))
          (λ (q : faults' (a.vertices (2 * f + 1)).finish ≡ 0). q) (t.passes f l z e s (omega arith));
    };
    counts = record {
      few = λ h l. let q = t.few h l in turned_put (λ x y. x + y) 0 moves_join a.drawn drawn' q.1
          (turn_view (λ x y. x + y) 0 moves_join moves_in view p vs id v w at a.vertices homes)
          ∙ books.counts.few (pure_before a.faults faults' p.moves t.sinks h) q.0;
      many = λ h l. ⊎_elim (λ (q : p.moves < a.drawn). books.counts.many (pure_before a.faults faults' p.moves t.sinks h) q)
          (λ (q : p.moves < a.region). q) (t.many h l);
    };
    bodies = λ x b l s u n e. let h = books.bodies x b l s u n e in record {
      tame = h.tame;
      kind = h.kind;
      waits = λ f z q o. let s = same_open f in
          h.waits f z q (omega arith);
      only = λ y g. let r = h.only y g in let s = same_open r.0 in let o = r.2 in (r.0, r.1, omega arith);
    };
    views = each_set (ViewOk opens a.expects a.faults) (ViewOk opens' a.expects faults') vs id w new books.views
        (λ j u _ _ k. view_on opens opens' a.expects a.faults faults' u (λ f o. let s = same_open f in omega arith) t.sinks k);
  }
