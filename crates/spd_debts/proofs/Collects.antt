-- A share that collects: it sees the fault word of the finish that its vertex waited for.
use Rattle.std.proofs.Common.{◌≡◌, ◌≢◌, inl, ℕ, ◌+◌, ◌*◌, List, set, refl, ap, ◌∙◌, arith, Option, Some, None}
use Prim.Native.Nat.{zero, suc}
use mathlib.Core.Option.{some, none}
use mathlib.Core.Option as maybe
use lib.ListN.{get_elem?}
use Rattle.spd_words.specs.Meaning.{Meaning}
use Rattle.spd_words.specs.Plan.{PlanView}
use Rattle.spd_state.specs.Sums.{gate}
use Rattle.spd_state.specs.declared.view.Running.{Running}
use Rattle.spd_state.specs.declared.promise.Expected.{Expected}
use Rattle.spd_state.specs.declared.view.View.{View}
use Rattle.spd_state.specs.Dag.{Dag, openings, runs_it, busy}
use Rattle.spd_state.proofs.Sums.{same_else}
use Rattle.spd_debts.specs.Books.{Books, ViewOk, finish_is, hurt_in, pend_in}
use Rattle.spd_debts.specs.Payments.{collect_view}
use Rattle.spd_debts.proofs.Gates.{gate_more, gate_zero}
use Rattle.spd_debts.proofs.Offers.{opened_kept}
use Rattle.spd_debts.proofs.Turns.{turn_keeps, view_on}

module _ {B : Type 0} (view : B → Meaning) (p : PlanView) (a : Dag) (homes : List (maybe.Option (Option B))) (vs : List View)
    (books : Books view p a homes vs) (id : ℕ) (v : View) (at : get_elem? vs id ≡ some v)
    (r : Running) (is : v.running ≡ Some r) (d : ℕ) (odd : r.vertex ≡ 2 * d + 1) (x : Expected) (waits : v.awaited ≡ Some x) where
  old : ViewOk (openings a.vertices vs) a.expects a.faults v
  old = books.views id v at

  -- it sees a code other than 0
  module _ (c : ℕ) (saw : a.faults d ≡ suc c) where
    abbrev w : View
    w = collect_view (suc c) v

    others : (f : ℕ) → f ≢ d → pend_in f v ≡ 0
    others f n = (λ j. gate (busy v.awaited + v.hurt) (runs_it (2 * f + 1) (is j)))
        ∙ ap (gate (busy v.awaited + v.hurt)) (same_else (2 * f + 1) r.vertex (λ k. n (let o = odd in omega arith))) ∙ gate_zero (busy v.awaited + v.hurt)

    pub collect_keeps : Books view p a homes (set vs id w)
    collect_keeps = turn_keeps view p a homes vs books id v w at a.drawn a.nodes a.pairs a.gifts a.faults
        record {
          opens = λ f. refl;
          sinks = λ f e. e;
          hurts = λ f _ h. h;
          gifts = λ f l _ _. refl;
          faults = λ f l _ _. refl;
          passes = λ f l z e s _. inl (e, others f (λ q. let k : a.faults f ≡ a.faults d = ap a.faults q in let y = saw in absurd (omega arith)));
          few = λ h l. (l, refl);
          many = λ h l. inl l;
        }
        (let h = old in view_on (openings a.vertices vs) (openings a.vertices (set vs id w)) a.expects a.faults a.faults w
        (λ f o. opened_kept a vs id v w at refl f o) (λ f e. e)
        record {
          right = λ z. h.right (omega arith);
          kind = h.kind;
          awaited = λ _ _ _ (e : None ≡ Some _). absurd (cc);
          sunk = h.sunk;
          gives = h.gives;
          begun = h.begun;
          whole = h.whole;
          tame = h.tame;
        })

  -- it sees 0: the share is hurt, and so the finish of its vertex is tainted
  module _ (saw : a.faults d ≡ 0) where
    abbrev y : View
    y = collect_view 0 v

    pends : busy v.awaited ≡ 1
    pends = ap busy waits

    waits_still : (f : ℕ) → pend_in f v ≡ pend_in f y
    waits_still f = gate_more (busy v.awaited + v.hurt) (runs_it (2 * f + 1) v.running) (let p = pends in omega arith)

    hurts_more : (f : ℕ) → hurt_in f y ≡ 0 → hurt_in f v ≡ 0
    hurts_more f z = (let e : finish_is f v.running ≡ 0 = z in ap (gate v.hurt) e) ∙ gate_zero v.hurt

    pub hurt_keeps : Books view p a homes (set vs id y)
    hurt_keeps = turn_keeps view p a homes vs books id v y at a.drawn a.nodes a.pairs a.gifts a.faults
        record {
          opens = λ f. refl;
          sinks = λ f e. e;
          hurts = λ f _ h. hurts_more f h;
          gifts = λ f l _ _. refl;
          faults = λ f l _ _. refl;
          passes = λ f l z e s k. inl (e, waits_still f ∙ k);
          few = λ h l. (l, refl);
          many = λ h l. inl l;
        }
        (let h = old in view_on (openings a.vertices vs) (openings a.vertices (set vs id y)) a.expects a.faults a.faults y
        (λ f o. opened_kept a vs id v y at refl f o) (λ f e. e)
        record {
          right = λ z. let q = pends in h.right (omega arith);
          kind = h.kind;
          awaited = λ _ _ _ (e : None ≡ Some _). absurd (cc);
          sunk = h.sunk;
          gives = h.gives;
          begun = h.begun;
          whole = h.whole;
          tame = h.tame;
        })

  -- `see_fault`, whatever it sees
  pub collect_books : (n : ℕ) → a.faults d ≡ n → Books view p a homes (set vs id (collect_view n v))
  collect_books zero saw = hurt_keeps saw
  collect_books (suc c) saw = collect_keeps c saw
