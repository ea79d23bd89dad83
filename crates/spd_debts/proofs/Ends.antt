-- What is left: `wake_vertex`, vertex 1, what was shown of a gift word, the done word, the words of finishes that aren't open, and the end.
use Rattle.std.proofs.Common.{◌≡◌, ◌≢◌, ℕ, ◌+◌, ◌*◌, ◌<◌, ◌≤◌, List, [], ◌∷◌, ◌++◌, length, set, refl, sym, ap, ◌∙◌, arith, Option, Some, None}
use mathlib.Core.Option.{some, none}
use mathlib.Core.Option as maybe
use mathlib.Core.Logic.{dite}
use native.Mathlib.Decide.{ℕ_discrete}
use lib.ListN.{get_elem?}
use Rattle.spd_words.specs.Meaning.{Meaning}
use Rattle.spd_words.specs.Plan.{PlanView}
use Rattle.spd_words.specs.Words.{Vertex}
use Rattle.spd_state.specs.Sums.{same, gate, put}
use Rattle.spd_state.specs.declared.view.Running.{Running}
use Rattle.spd_state.specs.declared.view.Flight.{Flight}
use Rattle.spd_state.specs.declared.view.View.{View}
use Rattle.spd_state.specs.Dag.{Dag, waits, openings, opens_in, named, stored, runs_it, busy, not_end}
use Rattle.spd_state.specs.Steps.{wake_word, wake_view, wake_after}
use Rattle.spd_state.specs.History.{Shut, Done}
use Rattle.spd_state.specs.Promises.{promised}
use Rattle.spd_state.specs.declared.view.Draw.TheVariants.{Make}
use Rattle.spd_state.proofs.Sums.{put_else, put_kept, total_kept}
use Rattle.spd_debts.specs.Books.{Books, ViewOk, finish_is}
use Rattle.spd_debts.specs.Debts.{body_debt, debts, fly_debt, owe, run_debt, if_any}
use Rattle.spd_debts.specs.Payments.{done_view}
use Rattle.spd_debts.proofs.Alike.{like_keeps}
use Rattle.spd_debts.proofs.Gates.{gate_zero}
use Rattle.spd_debts.proofs.Placed.{placed_keeps}
use Rattle.spd_debts.proofs.Signals.{settled_books}

-- ---- `wake_vertex`, and vertex 1 of a make

module _ {B : Type 0} (view : B → Meaning) (p : PlanView) (a : Dag) (homes : List (maybe.Option (Option B))) (vs : List View)
    (books : Books view p a homes vs) (id : ℕ) (v : View) (at : get_elem? vs id ≡ some v) where
  old : ViewOk (openings a.vertices vs) a.expects a.faults v
  old = books.views id v at

  module _ (f i : ℕ) (low : i < 2 * p.moves) (waiting : (a.vertices i).state ≡ 1) where
    abbrev w : View
    w = wake_view f v

    abbrev x : Vertex
    x = wake_word (a.vertices i)

    ready : x.state ≡ 2
    ready = let s = waiting in omega arith

    open_same : (e : ℕ) → openings (put a.vertices i x) (set vs id w) e ≡ openings a.vertices vs e
    open_same e = let n : named e (put a.vertices i x (2 * e)) ≡ named e (a.vertices (2 * e)) = put_kept (named e) a.vertices i x (2 * e)
        (λ j. gate (both j) (same e (a.vertices i).finish)) in let t = total_kept (λ (u : View). opens_in e u.flight) vs id v w at refl in omega arith
      where
        both : stored x.state ≡ stored (a.vertices i).state
        both = ap stored ready ∙ sym (ap stored waiting)

    pub wake_books : Books view p (record a { vertices = put a.vertices i x }) homes (set vs id w)
    wake_books = placed_keeps view p a homes homes vs books id v w at i x
        record {
          low = low;
          others = λ k n. refl;
          moved = ap (λ k. if_any (not_end i) (if_any k (body_debt view (a.vertices i).finish (get_elem? homes i))) ++ debts v)
              (ap waits ready ∙ sym (ap waits waiting));
          hurts = λ e. refl;
          pends = λ e. omega arith;
          passes = λ e l o s z k. let r = ready in absurd (omega arith);
        } open_same
        record {
          right = old.right;
          kind = old.kind;
          awaited = old.awaited;
          sunk = old.sunk;
          gives = old.gives;
          begun = old.begun;
          whole = old.whole;
          tame = old.tame;
        }
        (λ b s u n e. let t = waiting in books.bodies i b low (omega arith) (omega arith) n e)

    -- and the share may be over
    pub wake_after_books : Books view p (record a { vertices = put a.vertices i x }) homes (set vs id (wake_after f v))
    wake_after_books = settled_books view p (record a { vertices = put a.vertices i x }) homes vs id v w at wake_books

  -- vertex 1 has no body, and owes nothing
  module _ (x : Vertex) (not_three : x.state < 3) (rest : List ℕ) (flies : v.flight ≡ Some record { draw = Make; number = 0; finish = 0; stage = 2 })
      (low : 1 < 2 * p.moves)
      (open_end : (f : ℕ) → openings (put a.vertices 1 x) (set vs id (record v {
        flight = Some record { draw = Make; number = 0; finish = 0; stage = 3 };
        slots = rest;
        steps = v.steps + 1;
      })) f ≡ openings a.vertices vs f) where
    abbrev y : View
    y = record v { flight = Some record { draw = Make; number = 0; finish = 0; stage = 3 }; slots = rest; steps = v.steps + 1 }

    pub end_books : (homes' : List (maybe.Option (Option B))) → ((k : ℕ) → k ≢ 1 → get_elem? homes' k ≡ get_elem? homes k)
        → Books view p (record a { vertices = put a.vertices 1 x }) homes' (set vs id y)
    end_books homes' others = placed_keeps view p a homes homes' vs books id v y at 1 x
        record {
          low = low;
          others = others;
          moved = ap (λ o. run_debt v.running v.claimed v.owes ++ fly_debt o v.body v.rest) (sym flies);
          hurts = λ e. refl;
          pends = λ e. omega arith;
          passes = λ e l o s z k. absurd (omega arith);
        } open_end
        (let same_flight : (g : Flight) → y.flight ≡ Some g → (record { draw = Make; number = 0; finish = 0; stage = 3 } ≡ g) = λ g e. cc in
        let g₀ : Flight = record { draw = Make; number = 0; finish = 0; stage = 2 } in record {
          right = old.right;
          kind = old.kind;
          awaited = old.awaited;
          sunk = old.sunk;
          gives = λ g e _. old.gives g₀ flies (omega arith) ∙ ap (λ (g : Flight). (a.expects g.finish).kind) (same_flight g e);
          begun = λ g e _ _. let t = old.begun g₀ flies refl (omega arith) in (
            t.0 ∙ ap (λ (g : Flight). (a.expects g.number).gift) (same_flight g e),
            t.1
                ∙ ap (λ (g : Flight). (a.expects g.number).fault) (same_flight g e),
          );
          whole = old.whole;
          tame = old.tame;
        })
        (λ b s u n e. absurd (n refl))

  -- `set_done`: vertex 1 owes nothing
  pub done_books : (r : Running) → v.running ≡ Some r → r.vertex ≡ 1 → v.awaited ≡ None → v.hurt ≡ 0 → v.sunk ≡ 0
      → Books view p a homes (set vs id (done_view v))
  done_books r is one none_waited unhurt unsunk = let w : View = done_view v in
      like_keeps view p a homes vs books id v at w a.nodes a.pairs
      (ap (λ l. l ++ fly_debt v.flight v.body v.rest) (sym (ap (λ o. run_debt o v.claimed v.owes) is
      ∙ ap (λ k. if_any (not_end k) (if_any (r.right + length v.claimed) (owe r.finish (promised v.owes) ∷ []))) one)))
      refl (λ f. gate_zero v.hurt ∙ sym (ap (λ k. gate k (finish_is f v.running)) unhurt))
      (λ f. gate_zero (busy v.awaited + v.hurt) ∙ sym (ap (λ k. gate k (runs_it (2 * f + 1) v.running))
      (let z : busy v.awaited ≡ 0 = ap busy none_waited in let h = unhurt in let k : busy v.awaited + v.hurt ≡ 0 = omega arith in k)))
      record {
        right = λ z. let q : busy v.awaited ≡ 0 = ap busy none_waited in let h = unhurt in absurd (omega arith);
        kind = λ y (e : None ≡ Some y). absurd (cc);
        awaited = λ y q (e : None ≡ Some y). absurd (cc);
        sunk = λ z. let u = unsunk in absurd (omega arith);
        gives = old.gives;
        begun = old.begun;
        whole = old.whole;
        tame = old.tame;
      }

-- the done word
pub done_done : (done ending marks ending' marks' : ℕ) (end : Vertex) → Done done end ending marks → 3 ≤ end.state → ending ≡ 1 → ending' + 1 ≡ ending
    → marks' ≡ marks + 1 → Done 1 end ending' marks'
done_done done ending marks ending' marks' end h s mine less more = let o = h.one in let m = h.mark in
    let none : done ≡ 0 = dite (ℕ_discrete done 1) (λ e. let t = h.over e in let t₁ = t.1 in absurd (omega arith)) (λ e. omega arith) in
    record { one = omega arith; mark = omega arith; over = λ _. (s, omega arith) }

-- ---- the words of a finish that isn't open

pub shut_kept : (m : ℕ) (o o' g f : ℕ → ℕ) → ((d : ℕ) → o' d ≡ 0 → o d ≡ 0) → Shut m o g f → Shut m o' g f
shut_kept m o o' g f e h = record { gift = λ d l z. h.gift d l (e d z); fault = λ d l z. h.fault d l (e d z) }

pub shut_put : (m : ℕ) (o g f : ℕ → ℕ) (d n : ℕ) → 0 < o d → Shut m o g f → Shut m o (put g d n) f
shut_put m o g f d n is_open h = record { gift = λ e l z. put_else g d n e (λ q. let k : o e ≡ o d = ap o q in omega arith) ∙ h.gift e l z; fault = h.fault }

pub shut_lower : (m : ℕ) (o g f : ℕ → ℕ) (d n : ℕ) → 0 < o d → Shut m o g f → Shut m o g (put f d n)
shut_lower m o g f d n is_open h = record {
  gift = h.gift;
  fault = λ e l z. put_else f d n e (λ q. let k : o e ≡ o d = ap o q in omega arith)
      ∙ h.fault e l z;
}
