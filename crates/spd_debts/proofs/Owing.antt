-- What is owed, before and after a step; and that a finish without units is owed nothing.
use Rattle.std.proofs.Common.{◌≡◌, ◌≢◌, ℕ, ◌+◌, ◌*◌, ◌<◌, ◌≤◌, List, [], ◌∷◌, ◌++◌, length, set, refl, sym, ap, ◌∙◌, subst, arith, Option, Some, None}
use Prim.Native.Nat.{zero, suc}
use mathlib.Core.Option.{some, none}
use mathlib.Core.Option as maybe
use lib.ListN.{get_elem?}
use Rattle.spd_words.specs.Meaning.{Promise, Meaning}
use Rattle.spd_words.specs.Plan.{PlanView}
use Rattle.spd_words.specs.Words.{Vertex}
use Rattle.spd_state.specs.Sums.{same, times, total, count}
use Rattle.spd_state.specs.Dag.{Dag, waits, not_end, handles, units, right_of, yet_of, yet_in}
use Rattle.spd_state.specs.Parts.{FlightsOk, RootedOk, Rule}
use Rattle.spd_state.specs.Promises.{promised}
use Rattle.spd_state.specs.declared.view.Running.{Running}
use Rattle.spd_state.specs.declared.view.Flight.{Flight}
use Rattle.spd_state.specs.declared.view.Draw.{Draw}
use Rattle.spd_state.specs.declared.view.Draw.TheVariants.{Make, Chain, Spawn}
use Rattle.spd_state.specs.declared.view.View.{View}
use Rattle.spd_state.proofs.Sums.{same_self, same_else, summand_le, total_has}
use Rattle.spd_state.proofs.Rights.{unit_counts}
use Rattle.spd_state.proofs.Ended.{handle_left, standing_holds, no_right, no_claim}
use Rattle.spd_state.proofs.Rights.{unit_roots}
use Rattle.spd_words.proofs.Gather.{gather-append, interchange, swap}
use Rattle.spd_words.specs.Gather.{IsJoin, gather}
use Rattle.spd_debts.specs.Debts.{Debt, body_debt, debts, fly_debt, gather_below, home_debt, move_debt, owe, owed, run_debt, if_any}
use Rattle.spd_debts.specs.Worth.{pick, to}
use Rattle.spd_debts.proofs.Folds.{Turned, below_none, below_set, gather_none, gather_set}
use Rattle.spd_debts.proofs.Gates.{is_not_end}

-- how many debts are to f
abbrev pub one_to : ℕ → Option ℕ → ℕ
one_to f o = to f o 1 0

abbrev pub owing : ℕ → List Debt → ℕ
owing f l = total (λ (d : Debt). one_to f d.finish) l

pub owing-append : (f : ℕ) (l k : List Debt) → owing f (l ++ k) ≡ owing f l + owing f k
owing-append f [] k = omega arith
owing-append f (d ∷ l) k = let h = owing-append f l k in omega arith

module _ {C : Type 0} (op : C → C → C) (e : C) (law : IsJoin op e) where
  -- debts to others are worth nothing here
  pub others_none : (f : ℕ) (val : Debt → C) (l : List Debt) → owing f l ≡ 0 → gather op e (λ (d : Debt). to f d.finish (val d) e) l ≡ e
  others_none f val [] h = refl
  others_none f val (d ∷ l) h = (λ i. op (one d.finish (omega arith) i) (others_none f val l (omega arith) i)) ∙ law.unit
    where
      one : (o : Option ℕ) → one_to f o ≡ 0 → to f o (val d) e ≡ e
      one None z = refl
      one (Some g) z = by (same f g) z
        where
          by : (k : ℕ) → (let n : ℕ = pick k 1 0 in n ≡ 0) → pick k (val d) e ≡ e
          by zero q = refl
          by (suc k) q = absurd (omega arith)

  module _ (worth : Debt → C) {B : Type 0} (view : B → Meaning) (p : PlanView) (vs : List View) (id : ℕ) (v w : View) (at : get_elem? vs id ≡ some v) where
    -- a step that changes a view
    pub turn_view : (vertices : ℕ → Vertex) (homes : List (maybe.Option (Option B)))
        → Turned op (gather op e worth (debts v)) (gather op e worth (debts w)) (owed op e worth view p vertices homes vs)
        (owed op e worth view p vertices homes (set vs id w))
    turn_view vertices homes = let h = gather_below op e (2 * p.moves) (λ x. gather op e worth (home_debt view x (vertices x) (get_elem? homes x))) in
        let t = gather_set op e law (λ (u : View). gather op e worth (debts u)) vs id v w at in
        record {
          rest = op h t.rest;
          before = ap (op h) t.before ∙ swap op e law h (gather op e worth (debts v)) t.rest;
          after = ap (op h) t.after
              ∙ swap op e law h (gather op e worth (debts w)) t.rest;
        }

    -- a step that changes a view and one slot or vertex
    pub turn_slot : (vertices vertices' : ℕ → Vertex) (homes homes' : List (maybe.Option (Option B))) (i : ℕ) (low : i < 2 * p.moves)
        → ((k : ℕ) → k ≢ i → home_debt view k (vertices' k) (get_elem? homes' k) ≡ home_debt view k (vertices k) (get_elem? homes k))
        → Turned op (gather op e worth (home_debt view i (vertices i) (get_elem? homes i) ++ debts v))
        (gather op e worth (home_debt view i (vertices' i) (get_elem? homes' i) ++ debts w)) (owed op e worth view p vertices homes vs)
        (owed op e worth view p vertices' homes' (set vs id w))
    turn_slot vertices vertices' homes homes' i low same_else =
        let old : ℕ → C = λ x. gather op e worth (home_debt view x (vertices x) (get_elem? homes x)) in let new : ℕ
        → C = λ x. gather op e worth (home_debt view x (vertices' x) (get_elem? homes' x)) in
        let b = below_set op e law (2 * p.moves) old new i low (λ k _ n. ap (gather op e worth) (same_else k n)) in
        let t = gather_set op e law (λ (u : View). gather op e worth (debts u)) vs id v w at in record {
          rest = op b.rest t.rest;
          before = (λ j. op (b.before j) (t.before j)) ∙ interchange op e law (old i) b.rest (gather op e worth (debts v)) t.rest
              ∙ ap (λ k. op k (op b.rest t.rest)) (sym (gather-append op e law worth (home_debt view i (vertices i) (get_elem? homes i)) (debts v)));
          after = (λ j. op (b.after j) (t.after j)) ∙ interchange op e law (new i) b.rest (gather op e worth (debts w)) t.rest
              ∙ ap (λ k. op k (op b.rest t.rest)) (sym (gather-append op e law worth (home_debt view i (vertices' i) (get_elem? homes' i)) (debts w)));
        }

-- ---- a finish without units is owed nothing

pub owes_else : (f g : ℕ) (q : Promise) → f ≢ g → one_to f (Some g) ≡ 0
owes_else f g q n = ap (λ k. pick k 1 0) (same_else f g n)

module _ {B : Type 0} (view : B → Meaning) (p : PlanView) (a : Dag) (homes : List (maybe.Option (Option B))) (vs : List View) (rule : Rule p a homes vs)
    (f : ℕ) (low : f < p.moves) (none_there : units p a vs f ≡ 0) where
  gone : (a.nodes f).twice ≡ 0
  gone = let c = rule.counts.count f low in let n = none_there in omega arith

  pub home_none : (x : ℕ) → x < 2 * p.moves → owing f (home_debt view x (a.vertices x) (get_elem? homes x)) ≡ 0
  home_none x l = by (not_end x) refl (a.vertices x).state refl (get_elem? homes x)
    where
      other : 0 < not_end x → 0 < (a.vertices x).state → (a.vertices x).state < 3 → f ≢ (a.vertices x).finish
      other n s t e = let h = standing_holds p a homes vs rule x l s t (is_not_end x n) in
          let z : units p a vs (a.vertices x).finish ≡ 0 = ap (units p a vs) (sym e) ∙ none_there in omega arith

      body : f ≢ (a.vertices x).finish → (h : maybe.Option (maybe.Option (Option B))) → owing f (body_debt view (a.vertices x).finish h) ≡ 0
      body n none = refl
      body n (some none) = refl
      body n (some (some None)) = refl
      body n (some (some (Some b))) = let o = owes_else f (a.vertices x).finish (view b).promise n in omega arith

      by : (n : ℕ) → not_end x ≡ n → (s : ℕ) → (a.vertices x).state ≡ s → (h : maybe.Option (maybe.Option (Option B)))
          → owing f (if_any n (if_any (waits s) (body_debt view (a.vertices x).finish h))) ≡ 0
      by zero e s g h = refl
      by (suc n) e zero g h = refl
      by (suc n) e (suc zero) g h = body (other (omega arith) (omega arith) (omega arith)) h
      by (suc n) e (suc (suc zero)) g h = body (other (omega arith) (omega arith) (omega arith)) h
      by (suc n) e (suc (suc (suc s))) g h = refl

  module _ (id : ℕ) (v : View) (at : get_elem? vs id ≡ some v) where
    pub run_none : owing f (run_debt v.running v.claimed v.owes) ≡ 0
    run_none = by v.running refl
      where
        by : (o : Option Running) → v.running ≡ o → owing f (run_debt o v.claimed v.owes) ≡ 0
        by None is = refl
        by (Some r) is = go (not_end r.vertex) (r.right + length v.claimed) refl
          where
            other : 0 < r.right + length v.claimed → f ≢ r.finish
            other h e = let x = no_right p a homes vs rule f low gone id v r at is (sym e) in
                let y : length v.claimed ≡ 0 = ap length (no_claim p a homes vs rule f low gone id v r at is (sym e)) in omega arith

            go : (n k : ℕ) → r.right + length v.claimed ≡ k → owing f (if_any n (if_any k (owe r.finish (promised v.owes) ∷ []))) ≡ 0
            go zero k e = refl
            go (suc n) zero e = refl
            go (suc n) (suc k) e = let o = owes_else f r.finish (promised v.owes) (other (omega arith)) in omega arith

    -- a vertex yet to be stored, whose pair is set, keeps a unit at its finish
    flight_holds : (g : Flight) → v.flight ≡ Some g → 2 ≤ g.stage → 0 < yet_of g.draw g.stage → f ≢ g.finish
    flight_holds g is late yet e = let ok = subst (FlightsOk p a.trees a.drawn a.nodes a.pairs a.vertices) is (rule.flying id v at) in
        let y : yet_in g.number v.flight ≡ times (yet_of g.draw g.stage) (same g.number g.number) = ap (yet_in g.number) is in
        let s = same_self g.number g.number refl in let m = times_more (yet_of g.draw g.stage) (same g.number g.number) yet in
        let t = total_has (right_of g.number) vs id v at in let b = rule.balances.balance g.number ok.number in
        let q = rule.balances.most g.number ok.number in
        let h = handle_left p a.trees g.finish (a.pairs g.number) (omega arith) q (ok.tops late) in let h₂ = h.2 in
        let u = summand_le p.moves (λ (k : ℕ). count h.0 (handles (a.pairs k))) g.number ok.number in
        let r = unit_roots p a homes vs rule h.0 g.finish h.1 (omega arith) in let z : units p a vs g.finish ≡ 0 = ap (units p a vs) (sym e) ∙ none_there in
        omega arith
      where
        times_more : (k n : ℕ) → 0 < k → n ≤ times k n
        times_more zero n z = absurd (omega arith)
        times_more (suc k) n z = omega arith

    root_holds : (g : Flight) → v.flight ≡ Some g → g.finish ≡ g.number → v.rooted ≡ g.number ∷ [] → f ≢ g.finish
    root_holds g is top rooted e = let c : count f v.rooted ≡ same f g.number + 0 = ap (count f) rooted in let s = same_self f g.number (e ∙ top) in
        let h = unit_counts p a homes vs rule id v at f (omega arith) in let n = none_there in omega arith

    pub fly_none : owing f (fly_debt v.flight v.body v.rest) ≡ 0
    fly_none = by v.flight refl
      where
        one : (g : ℕ) (q : Promise) → f ≢ g → owing f (owe g q ∷ []) ≡ 0
        one g q n = let o = owes_else f g q n in omega arith

        two : (g : ℕ) (q r : Promise) → f ≢ g → owing f (owe g q ∷ owe g r ∷ []) ≡ 0
        two g q r n = let o = owes_else f g q n in let o' = owes_else f g r n in omega arith

        at_stage : (draw : Draw) (number finish stage : ℕ) → v.flight ≡ Some record { draw = draw; number = number; finish = finish; stage = stage }
            → owing f (move_debt draw stage finish v.body v.rest) ≡ 0
        at_stage Make number finish zero is = refl
        at_stage Make number finish (suc zero) is = let g : Flight = record { draw = Make; number = number; finish = finish; stage = 1 } in
            let ok = subst (FlightsOk p a.trees a.drawn a.nodes a.pairs a.vertices) is (rule.flying id v at) in
            one finish (promised v.body) (root_holds g is (ok.root_finish refl)
            (subst (λ (o : Option Flight). RootedOk o v.rooted) is (rule.own id v at).rooted))
        at_stage Make number finish (suc (suc s)) is = one finish (promised v.body)
            (flight_holds record { draw = Make; number = number; finish = finish; stage = suc (suc s) } is (omega arith) (omega arith))
        at_stage Chain number finish zero is = refl
        at_stage Chain number finish (suc zero) is = let g : Flight = record { draw = Chain; number = number; finish = finish; stage = 1 } in
            let ok = subst (FlightsOk p a.trees a.drawn a.nodes a.pairs a.vertices) is (rule.flying id v at) in
            one finish (promised v.body) (root_holds g is (ok.root_finish refl)
            (subst (λ (o : Option Flight). RootedOk o v.rooted) is (rule.own id v at).rooted))
        at_stage Chain number finish (suc (suc s)) is = one finish (promised v.body)
            (flight_holds record { draw = Chain; number = number; finish = finish; stage = suc (suc s) } is (omega arith) (omega arith))
        at_stage Spawn number finish zero is = refl
        at_stage Spawn number finish (suc zero) is = refl
        at_stage Spawn number finish (suc (suc zero)) is = two finish (promised v.body) (promised v.rest)
            (flight_holds record { draw = Spawn; number = number; finish = finish; stage = 2 } is (omega arith) (omega arith))
        at_stage Spawn number finish (suc (suc (suc s))) is = one finish (promised v.rest)
            (flight_holds record { draw = Spawn; number = number; finish = finish; stage = suc (suc (suc s)) } is (omega arith) (omega arith))

        by : (o : Option Flight) → v.flight ≡ o → owing f (fly_debt o v.body v.rest) ≡ 0
        by None is = refl
        by (Some g) is = at_stage g.draw g.number g.finish g.stage is

    pub view_none : owing f (debts v) ≡ 0
    view_none = owing-append f (run_debt v.running v.claimed v.owes) (fly_debt v.flight v.body v.rest) ∙ (let x = run_none in let y = fly_none in omega arith)

  -- nobody owes anything to it
  pub owes_nothing : {C : Type 0} (op : C → C → C) (e : C) (law : IsJoin op e) (val : Debt → C)
      → owed op e (λ (d : Debt). to f d.finish (val d) e) view p a.vertices homes vs ≡ e
  owes_nothing op e law val = (λ i. op (below_none op e law (2 * p.moves)
      (λ x. gather op e (λ (d : Debt). to f d.finish (val d) e) (home_debt view x (a.vertices x) (get_elem? homes x)))
      (λ x l. others_none op e law f val (home_debt view x (a.vertices x) (get_elem? homes x)) (home_none x l)) i)
      (gather_none op e law (λ (u : View). gather op e (λ (d : Debt). to f d.finish (val d) e) (debts u)) vs
      (λ j u at. others_none op e law f val (debts u) (view_none j u at)) i)) ∙ law.unit
