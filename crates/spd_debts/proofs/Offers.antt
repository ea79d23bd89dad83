-- Offers and faults keep the books.
use Rattle.std.proofs.Common.{◌^◌}
use Rattle.std.specs.Int.{w64}
use Rattle.std.specs.Prelude.{FitsSigned}
use Rattle.spd_words.specs.declared.finish_kind.FinishKind.TheVariants.{Sum}
use Rattle.std.proofs.Common.{◌≡◌, ◌≢◌, ◌⊎◌, inl, inr, ⊎_elim, ℕ, ◌+◌, ◌*◌, ◌<◌, ◌≤◌, List, [], ◌∷◌, ◌++◌, length, set, min, refl, sym, ap, ◌∙◌, subst, arith}
use Rattle.std.proofs.Common.{Option, Some, ℤ}
use Prim.Native.Nat.{zero, suc}
use mathlib.Core.Option.{some, none}
use mathlib.Core.Option as maybe
use mathlib.Core.Logic.{dite}
use native.Mathlib.Decide.{ℕ_discrete}
use lib.ListN.{get_elem?}
use Rattle.spd_words.specs.declared.finish_kind.FinishKind.{FinishKind}
use Rattle.spd_words.specs.Gift.{join, identity, no_fault}
use Rattle.spd_words.specs.Meaning.{Meaning}
use Rattle.spd_words.specs.Plan.{PlanView}
use Rattle.spd_words.specs.Words.{Vertex}
use Rattle.spd_state.specs.Sums.{same, gate, put}
use Rattle.spd_state.specs.declared.view.Running.{Running}
use Rattle.spd_state.specs.declared.promise.Owed.{Owed}
use Rattle.spd_state.specs.declared.view.View.{View}
use Rattle.spd_state.specs.Parts.{Rule}
use Rattle.spd_state.specs.Dag.{Dag, openings, opens_in, runs_it, busy, not_end}
use Rattle.spd_state.specs.Promises.{promised}
use Rattle.spd_state.proofs.Sums.{same_else, same_tells, put_here, put_else, put_case, total_kept}
use Rattle.spd_state.proofs.Rights.{running_ok, right_holds, finish_inside, unit_opens}
use Rattle.spd_words.proofs.Gather.{faults_join, gifts_join}
use Rattle.spd_words.specs.Gather.{IsJoin}
use Rattle.spd_debts.specs.Books.{Books, ViewOk, finish_is, hurt_in, pend_in}
use Rattle.spd_debts.specs.Debts.{Debt, debts, fly_debt, owe, run_debt, if_any}
use Rattle.spd_debts.specs.Payments.{added_word, fault_view, lower_view, lowered_word, offer_view, raised_word, sink_view}
use Rattle.spd_debts.specs.Worth.{fault_debt, gift_debt, gift_of, moves_debt, pick}
use Rattle.spd_debts.proofs.Gates.{gate_zero, not_end_more, when_more}
use Rattle.spd_debts.proofs.Turns.{turn_keeps, view_on}
use Rattle.spd_debts.proofs.Values.{gift_added, gift_raised, takes_over}

-- an unfinished running vertex owes
pub run_is : (o : Option Running) (r : Running) (claimed : List ℕ) (owes : Owed) → o ≡ Some r → r.vertex ≢ 1 → 0 < r.right + length claimed
    → run_debt o claimed owes ≡ owe r.finish (promised owes) ∷ []
run_is o r claimed owes is n h = ap (λ o. run_debt o claimed owes) is
    ∙ when_more (not_end r.vertex) (if_any (r.right + length claimed) (owe r.finish (promised owes) ∷ [])) (not_end_more r.vertex n)
    ∙ when_more (r.right + length claimed) (owe r.finish (promised owes) ∷ []) h

-- a view whose move in flight stays keeps finishes open
pub opened_kept : (a : Dag) (vs : List View) (id : ℕ) (v w : View) → get_elem? vs id ≡ some v → w.flight ≡ v.flight → (f : ℕ) → 0 < openings a.vertices vs f
    → 0 < openings a.vertices (set vs id w) f
opened_kept a vs id v w at e f o = let t = total_kept (λ (u : View). opens_in f u.flight) vs id v w at (ap (opens_in f) e) in omega arith

module _ {C : Type 0} (op : C → C → C) (e : C) (law : IsJoin op e) where
  pub put_head : (u w x y r : C) → op w y ≡ op u x → op w (op y r) ≡ op u (op x r)
  put_head u w x y r h = sym (law.assoc w y r) ∙ ap (λ k. op k r) h ∙ law.assoc u x r

module _ {B : Type 0} (view : B → Meaning) (p : PlanView) (a : Dag) (homes : List (maybe.Option (Option B))) (vs : List View) (rule : Rule p a homes vs)
    (books : Books view p a homes vs) (id : ℕ) (v : View) (at : get_elem? vs id ≡ some v)
    (r : Running) (is : v.running ≡ Some r) (mine : r.right ≡ 1) (other : r.vertex ≢ 1) where
  abbrev g : ℕ
  g = r.finish

  abbrev old : Type 0
  old = ViewOk (openings a.vertices vs) a.expects a.faults v

  abbrev fly : List Debt
  fly = fly_debt v.flight v.body v.rest

  debts_are : (owes : Owed) → run_debt v.running v.claimed owes ++ fly ≡ owe g (promised owes) ∷ fly
  debts_are owes = ap (λ l. l ++ fly) (run_is v.running r v.claimed owes is other (let m = mine in omega arith))

  kind_is : v.kind ≡ (a.expects g).kind
  kind_is = (books.views id v at).kind r is (let m = mine in omega arith)

  -- a vertex that still has its right keeps its finish from ending
  pub not_woken : (a.vertices (2 * g + 1)).state ≤ 1
  not_woken = let low = finish_inside p a homes vs rule id v at r is in let h = right_holds p a homes vs rule id v at r is mine in
      (rule.finishes.going g low (unit_opens p a homes vs rule g low h) h).0

  -- an offer: the word becomes n, and left is owed, which together are what word and promise were
  module _ (left : ℤ) (n : ℕ) (pays : join v.kind (gift_of v.kind n) left ≡ join v.kind (gift_of v.kind (a.gifts g)) v.owes.gift) where
    abbrev w : View
    w = offer_view left v

    gift_turn : (f : ℕ) → let k : FinishKind = (a.expects f).kind in
        join k (gift_of k (put a.gifts g n f)) (gift_debt k f (debts w)) ≡ join k (gift_of k (a.gifts f)) (gift_debt k f (debts v))
    gift_turn f = let k : FinishKind = (a.expects f).kind in let rest : ℤ = gift_debt k f fly in
        (λ j. join k (gift_of k (put a.gifts g n f)) (gift_debt k f (debts_are w.owes j)))
        ∙ put_head (join k) (identity k) (gifts_join k) (gift_of k (a.gifts f)) (gift_of k (put a.gifts g n f)) (pick (same f g) v.owes.gift (identity k))
        (pick (same f g) left (identity k)) rest (here f)
        ∙ (λ j. join k (gift_of k (a.gifts f)) (gift_debt k f (sym (debts_are v.owes) j)))
      where
        here : (f : ℕ) → let k : FinishKind = (a.expects f).kind in join k (gift_of k (put a.gifts g n f)) (pick (same f g) left (identity k)) ≡ join k
            (gift_of k (a.gifts f)) (pick (same f g) v.owes.gift (identity k))
        here f = ⊎_elim
            (λ (t : (f ≡ g) × (same f g ≡ 1)). let k : FinishKind = (a.expects f).kind in let same_kind : v.kind ≡ k = kind_is
            ∙ ap (λ j. (a.expects j).kind) (sym t.0) in
            (λ j. join k (gift_of k (put_here a.gifts g n f t.0 j)) (pick (t.1 j) left (identity k)))
            ∙ subst (λ k. join k (gift_of k n) left ≡ join k (gift_of k (a.gifts f)) v.owes.gift) same_kind
            (pays ∙ (λ j. join v.kind (gift_of v.kind (a.gifts (sym t.0 j))) v.owes.gift))
            ∙ (λ j. join k (gift_of k (a.gifts f)) (pick (sym t.1 j) v.owes.gift (identity k))))
            (λ (t : (f ≢ g) × (same f g ≡ 0)). let k : FinishKind = (a.expects f).kind in
            (λ j. join k (gift_of k (put_else a.gifts g n f t.0 j)) (pick (t.1 j) left (identity k)))
            ∙ (λ j. join k (gift_of k (a.gifts f)) (pick (sym t.1 j) v.owes.gift (identity k))))
            (same_tells f g)

    fault_same : (f : ℕ) → fault_debt f (debts w) ≡ fault_debt f (debts v)
    fault_same f = ap (fault_debt f) (debts_are w.owes) ∙ ap (fault_debt f) (sym (debts_are v.owes))

    moves_same : moves_debt (debts w) ≡ moves_debt (debts v)
    moves_same = ap moves_debt (debts_are w.owes) ∙ ap moves_debt (sym (debts_are v.owes))

    pub offer_keeps : Books view p (record a { gifts = put a.gifts g n }) homes (set vs id w)
    offer_keeps = turn_keeps view p a homes vs books id v w at a.drawn a.nodes a.pairs (put a.gifts g n) a.faults
        record {
          opens = λ f. refl;
          sinks = λ f e. e;
          hurts = λ f _ h. h;
          gifts = λ f l _ _. gift_turn f;
          faults = λ f l _ _. ap (min (a.faults f)) (fault_same f);
          passes = λ f l z e s h. inl (e, h);
          few = λ h l. (l, ap (λ k. a.drawn + k) moves_same);
          many = λ h l. inl l;
        }
        (let h = books.views id v at in view_on (openings a.vertices vs) (openings a.vertices (set vs id w)) a.expects a.faults a.faults w
        (λ f o. opened_kept a vs id v w at refl f o) (λ f e. e)
        record { right = h.right; kind = h.kind; awaited = h.awaited; sunk = h.sunk; gives = h.gives; begun = h.begun; whole = h.whole; tame = h.tame })

  -- `add_sum`: x is taken out of what is owed
  pub add_sum_books : (x left : ℤ) → v.kind ≡ Sum → v.owes.gift ≡ join Sum x left → FitsSigned w64 x → a.gifts g < 2 ^ 64
      → Books view p (record a { gifts = put a.gifts g (added_word x (a.gifts g)) }) homes (set vs id (offer_view left v))
  add_sum_books x left sums parts fits low = offer_keeps left (added_word x (a.gifts g))
      (subst (λ k. join k (gift_of k (added_word x (a.gifts g))) left ≡ join k (gift_of k (a.gifts g)) v.owes.gift) (sym sums)
      (takes_over Sum (a.gifts g) (added_word x (a.gifts g)) x left v.owes.gift (gift_added (a.gifts g) x low fits) parts))

  -- `raise_best`: the value whose own word is y
  pub raise_books : (y : ℕ) (left : ℤ) → v.kind ≢ Sum → v.owes.gift ≡ join v.kind (gift_of v.kind y) left
      → Books view p (record a { gifts = put a.gifts g (raised_word y (a.gifts g)) }) homes (set vs id (offer_view left v))
  raise_books y left best parts = offer_keeps left (raised_word y (a.gifts g))
      (takes_over v.kind (a.gifts g) (raised_word y (a.gifts g)) (gift_of v.kind y) left v.owes.gift (gift_raised v.kind (a.gifts g) y best) parts)

  -- `lower_fault` with a code other than 0: what is left is told
  module _ (c left : ℕ) (not_zero : c ≢ 0) (parts : v.owes.fault ≡ min c left) where
    abbrev y : View
    y = fault_view left v

    abbrev lowered : ℕ → ℕ
    lowered = put a.faults g (min (a.faults g) c)

    fault_turn : (f : ℕ) → min (lowered f) (fault_debt f (debts y)) ≡ min (a.faults f) (fault_debt f (debts v))
    fault_turn f = let rest : ℕ = fault_debt f fly in
        (λ j. min (lowered f) (fault_debt f (debts_are y.owes j)))
        ∙ put_head min no_fault faults_join (a.faults f) (lowered f) (pick (same f g) v.owes.fault no_fault) (pick (same f g) left no_fault) rest
        (⊎_elim
        (λ (t : (f ≡ g) × (same f g ≡ 1)). let n : lowered f ≡ min (a.faults g) c = put_here a.faults g (min (a.faults g) c) f t.0 in
        let b : a.faults f ≡ a.faults g = ap a.faults t.0 in
        (λ j. min (n j) (pick (t.1 j) left no_fault)) ∙ (let q = parts in
        let z : min (min (a.faults g) c) left ≡ min (a.faults f) v.owes.fault = omega arith in z)
        ∙ (λ j. min (a.faults f) (pick (sym t.1 j) v.owes.fault no_fault)))
        (λ (t : (f ≢ g) × (same f g ≡ 0)). (λ j. min (put_else a.faults g (min (a.faults g) c) f t.0 j) (pick (t.1 j) left no_fault))
        ∙ (λ j. min (a.faults f) (pick (sym t.1 j) v.owes.fault no_fault)))
        (same_tells f g))
        ∙ (λ j. min (a.faults f) (fault_debt f (sym (debts_are v.owes) j)))

    sinks : (f : ℕ) → a.faults f ≡ 0 → lowered f ≡ 0
    sinks f e = put_case (λ (k : ℕ). k ≡ 0) a.faults g (min (a.faults g) c) f (λ q. let z : a.faults f ≡ a.faults g = ap a.faults q in omega arith) (λ _. e)

    rises : (f : ℕ) → lowered f ≡ 0 → a.faults f ≡ 0
    rises f = put_case (λ (k : ℕ). k ≡ 0 → a.faults f ≡ 0) a.faults g (min (a.faults g) c) f
        (λ q z. let h : a.faults f ≡ a.faults g = ap a.faults q in dite (ℕ_discrete (a.faults g) 0) (λ e. omega arith) (λ e. absurd (not_zero (omega arith))))
        (λ _ z. z)

    pub fault_keeps : Books view p (record a { faults = lowered }) homes (set vs id y)
    fault_keeps = turn_keeps view p a homes vs books id v y at a.drawn a.nodes a.pairs a.gifts lowered
        record {
          opens = λ f. refl;
          sinks = sinks;
          hurts = λ f _ h. h;
          gifts = λ f l _ _. let k : FinishKind = (a.expects f).kind in ap (join k (gift_of k (a.gifts f)))
              (ap (gift_debt k f) (debts_are y.owes) ∙ ap (gift_debt k f) (sym (debts_are v.owes)));
          faults = λ f l _ _. fault_turn f;
          passes = λ f l z e s h. inl (rises f e, h);
          few = λ h l. (l, ap (λ k. a.drawn + k) (ap moves_debt (debts_are y.owes) ∙ ap moves_debt (sym (debts_are v.owes))));
          many = λ h l. inl l;
        }
        (let h = books.views id v at in view_on (openings a.vertices vs) (openings a.vertices (set vs id y)) a.expects a.faults lowered y
        (λ f o. opened_kept a vs id v y at refl f o) sinks
        record { right = h.right; kind = h.kind; awaited = h.awaited; sunk = h.sunk; gives = h.gives; begun = h.begun; whole = h.whole; tame = h.tame })

  -- `lower_fault` with the code 0: nothing is taken out, and the mark goes from "hurt" to "sunk"
  abbrev z₀ : View
  z₀ = sink_view v

  abbrev sunken : ℕ → ℕ
  sunken = put a.faults g 0

  here_zero : sunken g ≡ 0
  here_zero = put_here a.faults g 0 g refl

  sinks_on : (f : ℕ) → a.faults f ≡ 0 → sunken f ≡ 0
  sinks_on f e = put_case (λ (k : ℕ). k ≡ 0) a.faults g 0 f (λ _. refl) (λ _. e)

  -- the finishes whose fault word isn't 0 now are others
  apart : (f : ℕ) → sunken f ≢ 0 → f ≢ g
  apart f n e = n (put_here a.faults g 0 f e)

  low : g < p.moves
  low = finish_inside p a homes vs rule id v at r is

  hurt_elsewhere : (f : ℕ) → f ≢ g → hurt_in f v ≡ 0
  hurt_elsewhere f n = (λ j. gate v.hurt (finish_is f (is j))) ∙ ap (gate v.hurt) (same_else f g n) ∙ gate_zero v.hurt

  -- the share runs the vertex whose finish is g, so what it was to pass on has come there
  passed : (f : ℕ) → f < p.moves → 0 < f → sunken f ≡ 0 → 3 ≤ (a.vertices (2 * f + 1)).state → ((a.faults f ≡ 0) × (pend_in f v ≡ 0))
      ⊎ (sunken (a.vertices (2 * f + 1)).finish ≡ 0)
  passed f l h e s = dite (ℕ_discrete r.vertex (2 * f + 1))
      (λ q. let w = (running_ok p a homes vs rule id v at r is).word in
      let top : (a.vertices (2 * f + 1)).finish ≡ g = ap (λ k. (a.vertices k).finish) (sym q) ∙ ap (λ (x : Vertex). x.finish) w in
      inr (ap sunken top ∙ here_zero))
      (λ q. inl (
        put_case (λ (k : ℕ). k ≡ 0 → a.faults f ≡ 0) a.faults g 0 f (λ t _. let n = not_woken in
            let k : (a.vertices (2 * f + 1)).state ≡ (a.vertices (2 * g + 1)).state = ap (λ j. (a.vertices (2 * j + 1)).state) t in absurd (omega arith))
            (λ _ z. z) e,
        (λ j. gate (busy v.awaited + v.hurt) (runs_it (2 * f + 1) (is j)))
            ∙ ap (gate (busy v.awaited + v.hurt)) (same_else (2 * f + 1) r.vertex (λ k. q (sym k))) ∙ gate_zero (busy v.awaited + v.hurt),
      ))

  pub sink_keeps : Books view p (record a { faults = sunken }) homes (set vs id z₀)
  sink_keeps = turn_keeps view p a homes vs books id v z₀ at a.drawn a.nodes a.pairs a.gifts sunken
      record {
        opens = λ f. refl;
        sinks = sinks_on;
        hurts = λ f n _. hurt_elsewhere f (apart f n);
        gifts = λ f l _ _. refl;
        faults = λ f l n _. ap (λ k. min k (fault_debt f (debts v))) (put_else a.faults g 0 f (apart f n));
        passes = λ f l h e s _. passed f l h e s;
        few = λ h l. absurd (h g low here_zero);
        many = λ h l. absurd (h g low here_zero);
      }
      (let h = books.views id v at in let k = view_on (openings a.vertices vs) (openings a.vertices (set vs id z₀)) a.expects a.faults sunken v
      (λ f o. opened_kept a vs id v z₀ at refl f o) sinks_on h in
      record {
        right = λ b. h.right (omega arith);
        kind = k.kind;
        awaited = k.awaited;
        sunk = λ _. (r, is, other, here_zero);
        gives = k.gives;
        begun = k.begun;
        whole = k.whole;
        tame = k.tame;
      })

  -- `lower_fault`, whatever the code
  pub lower_books : (c left : ℕ) → (c ≢ 0 → v.owes.fault ≡ min c left)
      → Books view p (record a { faults = put a.faults g (lowered_word c (a.faults g)) }) homes (set vs id (lower_view c left v))
  lower_books zero left parts = subst (λ (n : ℕ). Books view p (record a { faults = put a.faults g n }) homes (set vs id z₀))
      (let e : 0 ≡ min (a.faults g) 0 = omega arith in e) sink_keeps
  lower_books (suc c) left parts = fault_keeps (suc c) left (λ e. omega arith) (parts (λ e. omega arith))
