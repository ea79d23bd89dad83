-- The end: once vertex 1 is ready no unit is left anywhere, so nothing is owed any more, and the drawn moves are the region's number.
use Rattle.std.proofs.Common.{◌≡◌, ◌≢◌, ℕ, ◌+◌, ◌*◌, ◌<◌, ◌≤◌, List, [], ◌∷◌, ◌++◌, length, min, refl, sym, ap, ◌∙◌, subst, arith, Option, Some, None}
use Prim.Native.Nat.{zero, suc}
use mathlib.Core.Option.{some, none}
use mathlib.Core.Option as maybe
use mathlib.Core.Logic.{dite}
use native.Mathlib.Decide.{ℕ_discrete, dec_lt}
use lib.ListN.{get_elem?}
use Rattle.spd_words.specs.Meaning.{Promise, Meaning}
use Rattle.spd_words.specs.Plan.{PlanView}
use Rattle.spd_words.specs.Words.{Vertex}
use Rattle.spd_state.specs.Sums.{gate}
use Rattle.spd_state.specs.declared.view.Running.{Running}
use Rattle.spd_state.specs.declared.view.Flight.{Flight}
use Rattle.spd_state.specs.declared.view.View.{View}
use Rattle.spd_state.specs.Parts.{Rule}
use Rattle.spd_state.specs.Dag.{Dag, waits, openings, runs_it, busy, not_end, units}
use Rattle.spd_state.specs.Parts.{FlightsOk}
use Rattle.spd_state.proofs.Over.{none_left}
use Rattle.spd_state.specs.Promises.{promised}
use Rattle.spd_state.specs.declared.view.Draw.{Draw}
use Rattle.spd_state.specs.declared.view.Draw.TheVariants.{Make, Chain, Spawn}
use Rattle.spd_state.proofs.Sums.{same_self, total_some}
use Rattle.spd_state.proofs.Rights.{right_holds, finish_inside}
use Rattle.spd_state.proofs.Ended.{standing_holds, all_started, no_right, no_claim}
use Rattle.spd_words.proofs.Gather.{moves_join}
use Rattle.spd_words.specs.Gather.{gather}
use Rattle.spd_debts.specs.Books.{Books, pend_in, pending}
use Rattle.spd_debts.specs.Debts.{Debt, body_debt, debts, fly_debt, home_debt, move_debt, owe, owed, run_debt, if_any}
use Rattle.spd_debts.specs.Worth.{moves_in, pick}
use Rattle.spd_debts.proofs.Folds.{below_none, gather_none}
use Rattle.spd_debts.proofs.Gates.{is_not_end, right_means, when_none}
use Rattle.spd_debts.proofs.Owing.{fly_none, one_to, owing}

-- ---- where every vertex has ended and finish 0 got no 0, the moves are the region's number

module _ {B : Type 0} (view : B → Meaning) (p : PlanView) (a : Dag) (homes : List (maybe.Option (Option B))) (vs : List View)
    (books : Books view p a homes vs)
    (over : (f : ℕ) → f < p.moves → 0 < f → a.faults f ≡ 0 → 3 ≤ (a.vertices (2 * f + 1)).state) (nobody : (f : ℕ) → pending vs f ≡ 0)
    (below : (f : ℕ) → f < p.moves → 0 < f → a.faults f ≡ 0 → (a.vertices (2 * f + 1)).finish < f) where
  -- a fault 0 comes to finish 0
  pub passes_on : (n f : ℕ) → f < n → f < p.moves → a.faults f ≡ 0 → a.faults 0 ≡ 0
  passes_on zero f l low e = absurd (omega arith)
  passes_on (suc n) f l low e = dite (ℕ_discrete f 0) (λ z. ap a.faults (sym z) ∙ e)
      (λ z. let b = below f low (omega arith) e in passes_on n (a.vertices (2 * f + 1)).finish (omega arith) (omega arith)
      (books.passes.on f low (omega arith) e (over f low (omega arith) e) (nobody f)))

  pub region_moves : a.faults 0 ≢ 0 → ((x : ℕ) → x < 2 * p.moves → home_debt view x (a.vertices x) (get_elem? homes x) ≡ [])
      → ((j : ℕ) (v : View) → get_elem? vs j ≡ some v → debts v ≡ []) → min a.drawn p.moves ≡ min a.region p.moves
  region_moves pure no_home no_debt =
      let clean : (f : ℕ) → f < p.moves → a.faults f ≢ 0 = λ f l e. pure (passes_on (suc f) f (omega arith) l e) in
      let n : owed (λ x y. x + y) 0 moves_in view p a.vertices homes vs ≡ 0 =
      (λ i. below_none (λ x y. x + y) 0 moves_join (2 * p.moves) (λ x. gather
      (λ x y. x + y) 0 moves_in (home_debt view x (a.vertices x) (get_elem? homes x))) (λ x l. ap (gather (λ x y. x + y) 0 moves_in) (no_home x l)) i
      + gather_none (λ x y. x + y) 0 moves_join (λ (u : View). gather (λ x y. x + y) 0 moves_in (debts u)) vs
      (λ j u e. ap (gather (λ x y. x + y) 0 moves_in) (no_debt j u e)) i) in
      dite (dec_lt p.moves a.drawn) (λ l. let m = books.counts.many clean l in omega arith) (λ l. let m = books.counts.few clean (omega arith) in omega arith)

module _ {B : Type 0} (view : B → Meaning) (p : PlanView) (a : Dag) (homes : List (maybe.Option (Option B))) (vs : List View) (rule : Rule p a homes vs)
    (ended : 2 ≤ (a.vertices 1).state) where
  emptied : (f : ℕ) → f < p.moves → units p a vs f ≡ 0
  emptied = none_left p a homes vs rule ended

  root_zero : (f : ℕ) → f < p.moves → units p a vs f ≡ 0 → (a.nodes f).twice ≡ 0
  root_zero f l u = let c = rule.counts.count f l in omega arith

  -- nothing is owed, by any vertex or share
  pub home_gone : (x : ℕ) → x < 2 * p.moves → home_debt view x (a.vertices x) (get_elem? homes x) ≡ []
  home_gone x l = by (not_end x) refl (a.vertices x).state refl
    where
      no : 0 < not_end x → 0 < (a.vertices x).state → (a.vertices x).state < 3 → ⊥
      no n s t = let h = standing_holds p a homes vs rule x l s t (is_not_end x n) in let u = emptied (a.vertices x).finish (rule.live.finish x l s).0 in
          omega arith

      by : (n : ℕ) → not_end x ≡ n → (s : ℕ) → (a.vertices x).state ≡ s
          → if_any n (if_any (waits s) (body_debt view (a.vertices x).finish (get_elem? homes x))) ≡ []
      by zero e s g = refl
      by (suc n) e zero g = refl
      by (suc n) e (suc zero) g = absurd (no (omega arith) (omega arith) (omega arith))
      by (suc n) e (suc (suc zero)) g = absurd (no (omega arith) (omega arith) (omega arith))
      by (suc n) e (suc (suc (suc s))) g = refl

  pub debts_gone : (j : ℕ) (v : View) → get_elem? vs j ≡ some v → debts v ≡ []
  debts_gone j v at = λ i. run v.running refl i ++ fly v.flight refl i
    where
      run : (o : Option Running) → v.running ≡ o → run_debt o v.claimed v.owes ≡ []
      run None is = refl
      run (Some r) is = let low = finish_inside p a homes vs rule j v at r is in let gone = root_zero r.finish low (emptied r.finish low) in
          let x = no_right p a homes vs rule r.finish low gone j v r at is refl in
          let y : length v.claimed ≡ 0 = ap length (no_claim p a homes vs rule r.finish low gone j v r at is refl) in
          ap (λ k. if_any (not_end r.vertex) (if_any k (owe r.finish (promised v.owes) ∷ []))) (let z : r.right + length v.claimed ≡ 0 = omega arith in z)
          ∙ when_none (not_end r.vertex)

      -- a debt to a finish would keep a unit there
      no : (f : ℕ) (q : Promise) (l : List Debt) → owing f (owe f q ∷ l) ≡ 0 → ⊥
      no f q l z = let o : one_to f (Some f) ≡ 1 = ap (λ k. pick k 1 0) (same_self f f refl) in omega arith

      at_stage : (draw : Draw) (number finish stage : ℕ) → v.flight ≡ Some record { draw = draw; number = number; finish = finish; stage = stage }
          → finish < p.moves → owing finish (move_debt draw stage finish v.body v.rest) ≡ 0 → move_debt draw stage finish v.body v.rest ≡ []
      at_stage Make number finish zero is l z = let g : Flight = record { draw = Make; number = number; finish = finish; stage = 0 } in
          let ok = subst (FlightsOk p a.trees a.drawn a.nodes a.pairs a.vertices) is (rule.flying j v at) in
          let n = (rule.history.makers j v at).first g is refl in
          let s : (a.vertices (2 * number + 1)).state ≡ 0 = ap (λ (x : Vertex). x.state) (ok.rest (omega arith)) in
          let s' : (a.vertices (2 * number + 1)).state ≡ (a.vertices 1).state = ap (λ k. (a.vertices (2 * k + 1)).state) n in absurd (omega arith)
      at_stage Make number finish (suc s) is l z = absurd (no finish (promised v.body) [] z)
      at_stage Chain number finish zero is l z = refl
      at_stage Chain number finish (suc s) is l z = absurd (no finish (promised v.body) [] z)
      at_stage Spawn number finish zero is l z = refl
      at_stage Spawn number finish (suc zero) is l z = refl
      at_stage Spawn number finish (suc (suc zero)) is l z = absurd (no finish (promised v.body) (owe finish (promised v.rest) ∷ []) z)
      at_stage Spawn number finish (suc (suc (suc s))) is l z = absurd (no finish (promised v.rest) [] z)

      fly : (o : Option Flight) → v.flight ≡ o → fly_debt o v.body v.rest ≡ []
      fly None is = refl
      fly (Some g) is = let ok = subst (FlightsOk p a.trees a.drawn a.nodes a.pairs a.vertices) is (rule.flying j v at) in
          let z = fly_none view p a homes vs rule g.finish ok.finish (emptied g.finish ok.finish) j v at in
          at_stage g.draw g.number g.finish g.stage is ok.finish (ap (λ o. owing g.finish (fly_debt o v.body v.rest)) (sym is) ∙ z)

  module _ (books : Books view p a homes vs) where
    nobody : (f : ℕ) → pending vs f ≡ 0
    nobody f = dite (ℕ_discrete (pending vs f) 0) (λ e. e) (λ e. let t = total_some (pend_in f) vs (omega arith) in
        absurd (by t.0 t.1 t.2 (busy t.1.awaited + t.1.hurt) refl t.3))
      where
        by : (j : ℕ) (v : View) → get_elem? vs j ≡ some v → (k : ℕ) → busy v.awaited + v.hurt ≡ k → 0 < gate k (runs_it (2 * f + 1) v.running) → ⊥
        by j v at zero e h = omega arith
        by j v at (suc k) e h = let r = right_means v.running ((books.views j v at).right (omega arith)) in
            let u = emptied r.0.finish (finish_inside p a homes vs rule j v at r.0 r.1) in let q = right_holds p a homes vs rule j v at r.0 r.1 r.2 in
            omega arith

    -- the waiting vertex of a finish with a fault is started
    over : (f : ℕ) → f < p.moves → a.faults f ≡ 0 → (0 < openings a.vertices vs f) × (0 < (a.vertices (2 * f + 1)).state)
    over f low e = let o : 0 < openings a.vertices vs f = dite (dec_lt 0 (openings a.vertices vs f)) (λ h. h)
        (λ h. let k = rule.history.shut.fault f low (omega arith) in absurd (omega arith)) in (o, rule.finishes.over f low o (emptied f low))

    started : (f : ℕ) → f < p.moves → 0 < f → a.faults f ≡ 0 → 3 ≤ (a.vertices (2 * f + 1)).state
    started f low z e = let t = over f low e in let b = rule.history.below.rest f low z t.1 in
        let u = emptied (a.vertices (2 * f + 1)).finish (omega arith) in
        all_started p a homes vs rule (a.vertices (2 * f + 1)).finish (omega arith) (root_zero (a.vertices (2 * f + 1)).finish (omega arith) u) (2 * f + 1)
        (omega arith) t.1 (λ q. omega arith) refl

    -- a fault 0 anywhere has come to finish 0
    pub tainted_end : (f : ℕ) → f < p.moves → a.faults f ≡ 0 → a.faults 0 ≡ 0
    tainted_end f low e = passes_on view p a homes vs books started nobody (λ f low z e. let t = over f low e in rule.history.below.rest f low z t.1)
        (suc f) f (omega arith) low e

    -- the drawn moves are the region's number, or the plan's
    pub region_is : a.faults 0 ≢ 0 → min a.drawn p.moves ≡ min a.region p.moves
    region_is pure = region_moves view p a homes vs books started nobody
        (λ f low z e. let t = over f low e in rule.history.below.rest f low z t.1) pure home_gone debts_gone
