-- `split` and `join` keep the books.
use Rattle.std.proofs.Common.{◌≡◌, ℕ, ◌+◌, ◌*◌, ◌<◌, List, [], ◌∷◌, ◌++◌, set, min, refl, sym, ap, ◌∙◌, arith, Option, Some, None}
use mathlib.Core.Option.{some, none}
use mathlib.Core.Option as maybe
use mathlib.Core.Logic.{dite}
use native.Mathlib.Decide.{ℕ_discrete}
use lib.ListN.{get_elem?}
use Rattle.spd_words.specs.declared.finish_kind.FinishKind.{FinishKind}
use Rattle.spd_words.specs.Gift.{join, identity, no_fault}
use Rattle.spd_words.specs.Meaning.{Meaning}
use Rattle.spd_words.specs.Plan.{PlanView}
use Rattle.spd_state.specs.Sums.{gate}
use Rattle.spd_state.specs.declared.view.View.{View}
use Rattle.spd_state.specs.Dag.{Dag, openings, opens_in, runs_it, busy, right_in}
use Rattle.spd_state.specs.Steps.{stepped}
use Rattle.spd_state.specs.Seats.{first_view, kept_view, first_of, spent_view, given_view, joined_view}
use Rattle.spd_state.specs.declared.promise.Whole.{Whole}
use Rattle.spd_state.proofs.Sums.{total_more, each_more}
use Rattle.spd_words.proofs.Gather.{faults_join, gather-append, gather_is, gifts_join, moves_join}
use Rattle.spd_words.specs.Gather.{IsJoin, gather}
use Rattle.spd_debts.specs.Books.{Books, Clear, Unbegun, ViewOk, awaited_whole, finish_is, hurt_in, hurts, pend_in}
use Rattle.spd_debts.specs.Debts.{Debt, debts, fly_debt, gather_below, home_debt, owed, run_debt}
use Rattle.spd_debts.specs.Worth.{fault_to, gift_of, gift_to, moves_in}
use Rattle.spd_debts.proofs.Alike.{like_keeps}
use Rattle.spd_debts.proofs.Turns.{view_on}

-- ---- a share more, which owes nothing

-- ---- before the make no share knows of books

pub unbegun_first : Unbegun first_view
unbegun_first = record { awaited = refl; hurt = refl; sunk = refl; whole = refl; wild = refl }

pub unbegun_spent : Unbegun spent_view
unbegun_spent = record { awaited = refl; hurt = refl; sunk = refl; whole = refl; wild = refl }

module _ (v : View) (h : Unbegun v) where
  pub unbegun_stepped : Unbegun (stepped v)
  unbegun_stepped = record { awaited = h.awaited; hurt = h.hurt; sunk = h.sunk; whole = h.whole; wild = h.wild }

  pub unbegun_kept : Unbegun (kept_view v)
  unbegun_kept = record { awaited = h.awaited; hurt = h.hurt; sunk = h.sunk; whole = h.whole; wild = h.wild }

  pub unbegun_given : Unbegun (given_view v)
  unbegun_given = record { awaited = refl; hurt = refl; sunk = refl; whole = h.whole; wild = refl }

  pub unbegun_joined : (o : View) → Unbegun o → Unbegun (joined_view v o)
  unbegun_joined o k = record { awaited = h.awaited; hurt = h.hurt; sunk = h.sunk; whole = (λ i. first_of (h.whole i) (k.whole i)); wild = h.wild }

module _ {B : Type 0} (view : B → Meaning) (p : PlanView) (a : Dag) (homes : List (maybe.Option (Option B))) (vs : List View)
    (books : Books view p a homes vs) (u : View)
    (idle : u.running ≡ None) (free : u.flight ≡ None) (new : ViewOk (openings a.vertices vs) a.expects a.faults u) where
  abbrev after : List View
  after = vs ++ (u ∷ [])

  no_debt_here : debts u ≡ []
  no_debt_here j = run_debt (idle j) u.claimed u.owes ++ fly_debt (free j) u.body u.rest

  owed_same : {C : Type 0} (op : C → C → C) (e : C) (law : IsJoin op e) (worth : Debt → C)
      → owed op e worth view p a.vertices homes after ≡ owed op e worth view p a.vertices homes vs
  owed_same op e law worth = let f : View → _ = λ (v : View). gather op e worth (debts v) in
      ap (op (gather_below op e (2 * p.moves) (λ x. gather op e worth (home_debt view x (a.vertices x) (get_elem? homes x)))))
      (gather-append op e law f vs (u ∷ []) ∙ ap (op (gather op e f vs)) (ap (λ k. op k e) (ap (gather op e worth) no_debt_here) ∙ law.unit)
      ∙ law.comm (gather op e f vs) e ∙ gather_is op e law f vs)

  opens_same : (f : ℕ) → openings a.vertices after f ≡ openings a.vertices vs f
  opens_same f = let t = total_more (λ (u : View). opens_in f u.flight) vs u in let z : opens_in f u.flight ≡ 0 = ap (opens_in f) free in omega arith

  back : (f : ℕ) → Clear (openings a.vertices after) a.faults (hurts after) f → Clear (openings a.vertices vs) a.faults (hurts vs) f
  back f c = let o = opens_same f in let t = total_more (hurt_in f) vs u in let h = c.unhurt in let i = c.is_open in
      record { is_open = omega arith; pure = c.pure; unhurt = omega arith }

  on : (v : View) → ViewOk (openings a.vertices vs) a.expects a.faults v → ViewOk (openings a.vertices after) a.expects a.faults v
  on v h = view_on (openings a.vertices vs) (openings a.vertices after) a.expects a.faults a.faults v (λ f o. let s = opens_same f in omega arith)
      (λ f e. e) h

  pub more_books : Books view p a homes after
  more_books = record {
    gifts = record {
      whole = λ f l c. let k : FinishKind = (a.expects f).kind in
          ap (join k (gift_of k (a.gifts f))) (owed_same (join k) (identity k) (gifts_join k) (gift_to k f)) ∙ books.gifts.whole f l (back f c);
    };
    faults = record { whole = λ f l c. ap (min (a.faults f)) (owed_same min no_fault faults_join (fault_to f)) ∙ books.faults.whole f l (back f c) };
    passes = record { on = λ f l z e s n. let t = total_more (pend_in f) vs u in books.passes.on f l z e s (omega arith) };
    counts = let o = owed_same (λ x y. x + y) 0 moves_join moves_in in
        record { few = λ h l. ap (λ k. a.drawn + k) o ∙ books.counts.few h l; many = books.counts.many };
    bodies = λ x b l s w n e. let h = books.bodies x b l s w n e in record {
      tame = h.tame;
      kind = h.kind;
      waits = λ f z q o. let s' = opens_same f in
          h.waits f z q (omega arith);
      only = λ y g. let r = h.only y g in let s' = opens_same r.0 in let o = r.2 in (r.0, r.1, omega arith);
    };
    views = each_more (ViewOk (openings a.vertices after) a.expects a.faults) vs u (on u new) (λ j v e. on v (books.views j v e));
  }

module _ {B : Type 0} (view : B → Meaning) (p : PlanView) (a : Dag) (homes : List (maybe.Option (Option B))) (vs : List View)
    (books : Books view p a homes vs) (id : ℕ) (v : View) (at : get_elem? vs id ≡ some v) where
  old : ViewOk (openings a.vertices vs) a.expects a.faults v
  old = books.views id v at

  pub split_books : Books view p a homes (set vs id (kept_view v) ++ (given_view v ∷ []))
  split_books = let first = like_keeps view p a homes vs books id v at (kept_view v) a.nodes a.pairs refl refl (λ f. refl) (λ f. refl)
      (let h = old in record {
        right = h.right;
        kind = h.kind;
        awaited = h.awaited;
        sunk = h.sunk;
        gives = h.gives;
        begun = h.begun;
        whole = h.whole;
        tame = h.tame;
      }) in
      more_books view p a homes (set vs id (kept_view v)) first (given_view v) refl refl record {
        right = λ (z : 0 < 0 + 0). absurd (omega arith);
        kind = λ r (e : None ≡ Some r). absurd (cc);
        awaited = λ r x (e : None ≡ Some r). absurd (cc);
        sunk = λ (z : 0 < 0). absurd (omega arith);
        gives = λ g (e : None ≡ Some g). absurd (cc);
        begun = λ g (e : None ≡ Some g). absurd (cc);
        whole = old.whole;
        tame = refl;
      }

  -- the other share runs nothing and has no move in flight; its view is spent
  pub join_books : (other : ℕ) (o : View) → get_elem? vs other ≡ some o → get_elem? (set vs id (joined_view v o)) other ≡ some o → o.running ≡ None
      → o.flight ≡ None → Books view p a homes (set (set vs id (joined_view v o)) other spent_view)
  join_books other o there_before there idle free =
      let h = old in let k = books.views other o there_before in
      let first = like_keeps view p a homes vs books id v at (joined_view v o) a.nodes a.pairs refl refl (λ f. refl) (λ f. refl)
      record {
        right = h.right;
        kind = h.kind;
        awaited = h.awaited;
        sunk = h.sunk;
        gives = h.gives;
        begun = h.begun;
        whole = either v.whole h.whole k.whole;
        tame = h.tame;
      } in
      let still : busy o.awaited + o.hurt ≡ 0 = dite (ℕ_discrete (busy o.awaited + o.hurt) 0) (λ e. e)
      (λ e. let r = k.right (omega arith) in let z : right_in o.running ≡ 0 = ap right_in idle in absurd (omega arith)) in
      like_keeps view p a homes (set vs id (joined_view v o)) first other o there spent_view a.nodes a.pairs
      (sym (λ j. run_debt (idle j) o.claimed o.owes ++ fly_debt (free j) o.body o.rest)) (sym free)
      (λ f. sym (ap (λ n. gate n (finish_is f o.running)) (let z : o.hurt ≡ 0 = omega arith in z)))
      (λ f. sym (ap (λ n. gate n (runs_it (2 * f + 1) o.running)) still))
      record {
        right = λ (z : 0 < 0 + 0). absurd (omega arith);
        kind = λ r (e : None ≡ Some r). absurd (cc);
        awaited = λ r x (e : None ≡ Some r). absurd (cc);
        sunk = λ (z : 0 < 0). absurd (omega arith);
        gives = λ g (e : None ≡ Some g). absurd (cc);
        begun = λ g (e : None ≡ Some g). absurd (cc);
        whole = λ w (e : None ≡ Some w). absurd (cc);
        tame = refl;
      }
    where
      either : (z : Option Whole) → ((w : Whole) → z ≡ Some w → awaited_whole w ≡ a.expects 0)
          → ((w : Whole) → o.whole ≡ Some w → awaited_whole w ≡ a.expects 0) → (w : Whole) → first_of z o.whole ≡ Some w → awaited_whole w ≡ a.expects 0
      either None f g = g
      either (Some x) f g = f
