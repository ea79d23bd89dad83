-- A vertex that a move in flight has yet to store keeps a unit at its finish.
use Rattle.std.proofs.Common.{◌≡◌, ℕ, ◌+◌, ◌<◌, ◌≤◌, List, [], ◌∷◌, cond, true, sym, refl, ap, ◌∙◌, subst, arith, Option, Some}
use Prim.Native.Nat.{zero, suc}
use mathlib.Core.Option.{some}
use mathlib.Core.Option as maybe
use lib.ListN.{get_elem?}
use Rattle.spd_words.specs.Plan.{PlanView}
use Rattle.spd_state.specs.Sums.{same, times, count}
use Rattle.spd_state.specs.Dag.{Dag, handles, units, right_of, yet_of, yet_in, root_of, root_only}
use Rattle.spd_state.specs.Unfinished.{unstored_of}
use Rattle.spd_state.specs.Parts.{RootedOk, FlightOk, FlightsOk, Rule}
use Rattle.spd_state.specs.declared.view.Flight.{Flight}
use Rattle.spd_state.specs.declared.view.Draw.{Draw}
use Rattle.spd_state.specs.declared.view.Draw.TheVariants.{Make, Chain, Spawn}
use Rattle.spd_state.specs.declared.view.View.{View}
use Rattle.spd_state.proofs.Sums.{same_self, summand_le, total_has}
use Rattle.spd_state.proofs.Rights.{unit_counts, unit_roots}
use Rattle.spd_state.proofs.Ended.{handle_left}

module _ {B : Type 0} (p : PlanView) (a : Dag) (homes : List (maybe.Option (Option B))) (vs : List View) (rule : Rule p a homes vs) (id : ℕ)
    (v : View) (at : get_elem? vs id ≡ some v) (g : Flight) (flies : v.flight ≡ Some g) where
  ok : FlightOk p a.trees a.drawn a.nodes a.pairs a.vertices g
  ok = subst (FlightsOk p a.trees a.drawn a.nodes a.pairs a.vertices) flies (rule.flying id v at)

  -- the pair is set, and a vertex has yet to be stored with a right there
  pub yet_holds : 2 ≤ g.stage → 0 < yet_of g.draw g.stage → 0 < units p a vs g.finish
  yet_holds set yet = let d : ℕ = g.number in let low = ok.number in let b = rule.balances.balance d low in let m = rule.balances.most d low in
      let t = total_has (right_of d) vs id v at in let y : yet_in d v.flight ≡ times (yet_of g.draw g.stage) (same d d) = ap (yet_in d) flies in
      let s = at_least (yet_of g.draw g.stage) (same d d) yet (let s = same_self d d refl in omega arith) in
      let h = handle_left p a.trees g.finish (a.pairs d) (omega arith) m (ok.tops set) in let h₂ = h.2 in
      let q = summand_le p.moves (λ (e : ℕ). count h.0 (handles (a.pairs e))) d low in unit_roots p a homes vs rule h.0 g.finish h.1 (omega arith)
    where
      at_least : (k n : ℕ) → 0 < k → 0 < n → 0 < times k n
      at_least zero n z l = absurd (omega arith)
      at_least (suc k) n z l = omega arith

  -- and the same of a make or a chain that has set its root
  pub unstored_holds : 0 < unstored_of g.draw g.stage → 0 < units p a vs g.finish
  unstored_holds z = by g.draw g.stage refl refl z
    where
      set : (x : Draw) (s : ℕ) → g.draw ≡ x → g.stage ≡ s → 2 ≤ s → 0 < yet_of x s → 0 < units p a vs g.finish
      set x s e i two yet = yet_holds (omega arith) (subst (λ n. 0 < n) (sym (λ j. yet_of (e j) (i j))) yet)

      rooted : (x : Draw) → g.draw ≡ x → g.stage ≡ 1 → root_only x 1 ≡ true → root_of x 1 ≡ 1 → 0 < units p a vs g.finish
      rooted x e i only root = let f : g.finish ≡ g.number = ok.root_finish (ap (λ y. root_of y 1) e ∙ root) in
          let r : v.rooted ≡ g.number ∷ [] = subst (λ (o : Option Flight). RootedOk o v.rooted) flies (rule.own id v at).rooted
          ∙ ap (λ b. cond b (g.number ∷ []) []) ((λ j. root_only (e j) (i j)) ∙ only) in
          let c : count g.number v.rooted ≡ same g.number g.number + 0 = ap (count g.number) r in let s = same_self g.number g.number refl in
          let u = unit_counts p a homes vs rule id v at g.number (omega arith) in
          let k : units p a vs g.finish ≡ units p a vs g.number = ap (units p a vs) f in omega arith

      by : (x : Draw) (s : ℕ) → g.draw ≡ x → g.stage ≡ s → 0 < unstored_of x s → 0 < units p a vs g.finish
      by Make zero e i z = absurd (omega arith)
      by Make (suc zero) e i z = rooted Make e i refl refl
      by Make (suc (suc s)) e i z = set Make (suc (suc s)) e i (omega arith) (omega arith)
      by Chain zero e i z = absurd (omega arith)
      by Chain (suc zero) e i z = rooted Chain e i refl refl
      by Chain (suc (suc s)) e i z = set Chain (suc (suc s)) e i (omega arith) (omega arith)
      by Spawn zero e i z = absurd (omega arith)
      by Spawn (suc zero) e i z = absurd (omega arith)
      by Spawn (suc (suc zero)) e i z = set Spawn 2 e i (omega arith) (let k : 0 < 2 = omega arith in k)
      by Spawn (suc (suc (suc s))) e i z = set Spawn (suc (suc (suc s))) e i (omega arith) (let k : 0 < 1 = omega arith in k)
