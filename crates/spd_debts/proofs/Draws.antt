-- Draws of moves keep the books, full or not.
use Rattle.spd_state.proofs.Sums.{total_kept}
use Rattle.spd_state.specs.Stages.{flight_finish}
use Rattle.std.proofs.Common.{◌≡◌, ◌≢◌, ◌⊎◌, inl, inr, ℕ, ◌+◌, ◌<◌, List, [], ◌∷◌, ◌++◌, length, set, min, refl, sym, ap, ◌∙◌, arith, Option, Some, None}
use mathlib.Core.Option.{some, none}
use mathlib.Core.Option as maybe
use mathlib.Core.Logic.{dite}
use native.Mathlib.Decide.{dec_lt}
use lib.ListN.{get_elem?}
use Rattle.spd_words.specs.declared.finish_kind.FinishKind.{FinishKind}
use Rattle.spd_words.specs.Gift.{join}
use Rattle.spd_words.specs.Meaning.{Meaning}
use Rattle.spd_words.specs.Plan.{PlanView}
use Rattle.spd_state.specs.Sums.{same, gate}
use Rattle.spd_state.specs.declared.view.Running.{Running}
use Rattle.spd_state.specs.declared.view.Flight.{Flight}
use Rattle.spd_state.specs.declared.promise.Owed.{Owed}
use Rattle.spd_state.specs.declared.view.View.{View}
use Rattle.spd_state.specs.Dag.{Dag, openings, opens_in, root_of}
use Rattle.spd_state.specs.Promises.{less_move}
use Rattle.spd_state.specs.Stages.{drawn_view, owes_after, given_whole}
use Rattle.spd_state.specs.declared.promise.Whole.{Whole}
use Rattle.std.proofs.Common.{Option}
use Rattle.spd_state.specs.Stages.{full_view}
use Rattle.spd_state.specs.Promises.{promised}
use Rattle.spd_state.specs.declared.view.Draw.{Draw}
use Rattle.spd_state.specs.declared.view.Draw.TheVariants.{Chain, Spawn}
use Rattle.spd_words.proofs.Gather.{moves_join}
use Rattle.spd_debts.specs.Books.{Books, ViewOk}
use Rattle.spd_debts.specs.Debts.{Debt, debts, fly_debt, move_debt, owe, owed, run_debt}
use Rattle.spd_debts.specs.Payments.{sees_view}
use Rattle.spd_debts.specs.Worth.{fault_debt, gift_debt, gift_of, moves_debt, moves_in}
use Rattle.spd_debts.proofs.Offers.{opened_kept, run_is}
use Rattle.spd_debts.proofs.Owing.{turn_view}
use Rattle.spd_debts.proofs.Turns.{turn_keeps, view_on}

-- a chain or a spawn: it owes nothing before its root or its pair is set
pub record Quiet (draw : Draw) : Type 0 where
  pub nothing : (f : ℕ) (body rest : Owed) → move_debt draw 0 f body rest ≡ []
  pub shut : root_of draw 0 ≡ 0
  pub owes : (o : Owed) → owes_after draw o ≡ less_move o
  pub whole : (m : Meaning) (w : Option Whole) → given_whole draw m w ≡ w

pub chain_quiet : Quiet Chain
chain_quiet = record { nothing = λ f b r. refl; shut = refl; owes = λ o. refl; whole = λ m w. refl }

pub spawn_quiet : Quiet Spawn
spawn_quiet = record { nothing = λ f b r. refl; shut = refl; owes = λ o. refl; whole = λ m w. refl }

module _ {B : Type 0} (view : B → Meaning) (p : PlanView) (a : Dag) (homes : List (maybe.Option (Option B))) (vs : List View)
    (books : Books view p a homes vs) (id : ℕ) (v : View) (at : get_elem? vs id ≡ some v)
    (r : Running) (is : v.running ≡ Some r) (alive : 0 < r.right + length v.claimed) (other : r.vertex ≢ 1) (owes_move : 0 < v.owes.moves) where
  abbrev g : ℕ
  g = r.finish

  old : ViewOk (openings a.vertices vs) a.expects a.faults v
  old = books.views id v at

  abbrev fly : List Debt
  fly = fly_debt v.flight v.body v.rest

  were : debts v ≡ owe g (promised v.owes) ∷ fly
  were = ap (λ l. l ++ fly) (run_is v.running r v.claimed v.owes is other alive)

  now : run_debt v.running v.claimed (less_move v.owes) ++ fly ≡ owe g (promised (less_move v.owes)) ∷ fly
  now = ap (λ l. l ++ fly) (run_is v.running r v.claimed (less_move v.owes) is other alive)

  -- one move is there to be drawn
  owed_one : 0 < owed (λ x y. x + y) 0 moves_in view p a.vertices homes vs
  owed_one = let t = turn_view (λ x y. x + y) 0 moves_join moves_in view p vs id v v at a.vertices homes in let b = t.before in let m = ap moves_debt were in
      omega arith

  -- the number that the draw saw was the plan's or more, or one below
  over : ((f : ℕ) → f < p.moves → a.faults f ≢ 0) → p.moves < a.drawn + 1 → (p.moves < a.drawn) ⊎ (p.moves < a.region)
  over h l = dite (dec_lt p.moves a.drawn) (λ z. inl z) (λ z. let f = books.counts.few h (omega arith) in let o = owed_one in inr (omega arith))

  pub full_books : Books view p (record a { drawn = a.drawn + 1 }) homes (set vs id (full_view v))
  full_books = let w : View = full_view v in turn_keeps view p a homes vs books id v w at (a.drawn + 1) a.nodes a.pairs a.gifts a.faults
      record {
        opens = λ f. refl;
        sinks = λ f e. e;
        hurts = λ f _ h. h;
        gifts = λ f l _ _. let k : FinishKind = (a.expects f).kind in ap (join k (gift_of k (a.gifts f)))
            (ap (gift_debt k f) now ∙ ap (gift_debt k f) (sym were));
        faults = λ f l _ _. ap (min (a.faults f)) (ap (fault_debt f) now ∙ ap (fault_debt f) (sym were));
        passes = λ f l z e s h. inl (e, h);
        few = λ h l. let x = ap moves_debt now in let y = ap moves_debt were in let m = owes_move in (omega arith, omega arith);
        many = over;
      }
      (let h = old in view_on (openings a.vertices vs) (openings a.vertices (set vs id w)) a.expects a.faults a.faults w
      (λ f o. opened_kept a vs id v w at refl f o) (λ f e. e)
      record { right = h.right; kind = h.kind; awaited = h.awaited; sunk = h.sunk; gives = h.gives; begun = h.begun; whole = h.whole; tame = h.tame })

  -- `see_moves` under the mark
  pub see_books : p.moves < a.drawn → Books view p a homes (set vs id (sees_view v))
  see_books past = let w : View = sees_view v in turn_keeps view p a homes vs books id v w at a.drawn a.nodes a.pairs a.gifts a.faults
      record {
        opens = λ f. refl;
        sinks = λ f e. e;
        hurts = λ f _ h. h;
        gifts = λ f l _ _. let k : FinishKind = (a.expects f).kind in ap (join k (gift_of k (a.gifts f)))
            (ap (gift_debt k f) now ∙ ap (gift_debt k f) (sym were));
        faults = λ f l _ _. ap (min (a.faults f)) (ap (fault_debt f) now ∙ ap (fault_debt f) (sym were));
        passes = λ f l z e s h. inl (e, h);
        few = λ h l. absurd (omega arith);
        many = λ h l. inl l;
      }
      (let h = old in view_on (openings a.vertices vs) (openings a.vertices (set vs id w)) a.expects a.faults a.faults w
      (λ f o. opened_kept a vs id v w at refl f o) (λ f e. e)
      record { right = h.right; kind = h.kind; awaited = h.awaited; sunk = h.sunk; gives = h.gives; begun = h.begun; whole = h.whole; tame = h.tame })

  -- the move is drawn
  module _ (free : v.flight ≡ None) (draw : Draw) (quiet : Quiet draw) (m : Meaning) where
    abbrev w : View
    w = drawn_view draw a.drawn m v

    no_fly : fly ≡ []
    no_fly = ap (λ o. fly_debt o v.body v.rest) free

    have : debts w ≡ owe g (promised (less_move v.owes)) ∷ []
    have = (λ j. run_debt v.running v.claimed (quiet.owes v.owes j) ++ quiet.nothing (flight_finish draw a.drawn v) w.body v.rest j)
        ∙ ap (λ l. l ++ []) (run_is v.running r v.claimed (less_move v.owes) is other alive)

    had : debts v ≡ owe g (promised v.owes) ∷ []
    had = were ∙ ap (λ l. owe g (promised v.owes) ∷ l) no_fly

    opens_same : (f : ℕ) → opens_in f w.flight ≡ opens_in f v.flight
    opens_same f = ap (λ k. gate k (same f a.drawn)) quiet.shut ∙ sym (ap (opens_in f) free)

    nothing_yet : (e : Flight) → w.flight ≡ Some e → 0 < length (move_debt e.draw e.stage e.finish w.body v.rest) → ⊥
    nothing_yet e is z = let k : record { draw = draw; number = a.drawn; finish = flight_finish draw a.drawn v; stage = 0 } ≡ e = cc in
        let n : length (move_debt e.draw e.stage e.finish w.body v.rest) ≡ 0 = ap
        (λ (e : Flight). length (move_debt e.draw e.stage e.finish w.body v.rest)) (sym k)
        ∙ ap length (quiet.nothing (flight_finish draw a.drawn v) w.body v.rest) in omega arith

    pub draw_books : Books view p (record a { drawn = a.drawn + 1 }) homes (set vs id w)
    draw_books = turn_keeps view p a homes vs books id v w at (a.drawn + 1) a.nodes a.pairs a.gifts a.faults
        record {
          opens = opens_same;
          sinks = λ f e. e;
          hurts = λ f _ h. h;
          gifts = λ f l _ _. let k : FinishKind = (a.expects f).kind in ap (join k (gift_of k (a.gifts f)))
              (ap (gift_debt k f) have ∙ ap (gift_debt k f) (sym had));
          faults = λ f l _ _. ap (min (a.faults f)) (ap (fault_debt f) have ∙ ap (fault_debt f) (sym had));
          passes = λ f l z e s h. inl (e, h);
          few = λ h l. let x = ap moves_debt have in let y = ap moves_debt had in let m = owes_move in (omega arith, omega arith);
          many = over;
        }
        (let h = old in view_on (openings a.vertices vs) (openings a.vertices (set vs id w)) a.expects a.faults a.faults w
        (λ f o. let t = total_kept (λ (u : View). opens_in f u.flight) vs id v w at (opens_same f) in omega arith) (λ f e. e)
        record {
          right = h.right;
          kind = h.kind;
          awaited = h.awaited;
          sunk = h.sunk;
          gives = λ e is z. absurd (nothing_yet e is z);
          begun = λ e is _ z. absurd
              (nothing_yet e is z);
          whole = λ x e. h.whole x (sym (quiet.whole m v.whole) ∙ e);
          tame = h.tame;
        })
