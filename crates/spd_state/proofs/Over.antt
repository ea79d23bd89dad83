-- Once vertex 1 is ready, nothing is left: no unit, no unfinished vertex and no move in flight, and every vertex of a drawn move is started.
use Rattle.std.proofs.Common.{◌≡◌, ◌≢◌, ℕ, ◌+◌, ◌*◌, ◌<◌, ◌≤◌, List, length, refl, sym, ap, ◌∙◌, subst, arith, Option, Some, None}
use Prim.Native.Nat.{zero, suc}
use mathlib.Core.Option.{some}
use mathlib.Core.Option as maybe
use mathlib.Core.Logic.{dite}
use native.Mathlib.Decide.{ℕ_discrete}
use lib.ListN.{get_elem?}
use Rattle.spd_words.specs.Plan.{PlanView}
use Rattle.spd_words.specs.Words.{Vertex}
use Rattle.spd_state.specs.Sums.{same, gate}
use Rattle.spd_state.specs.Dag.{Dag, openings, early_of, early_in, earlies, rest_left, flies_in, flights, units}
use Rattle.spd_state.specs.History.{working_of}
use Rattle.spd_state.specs.Unfinished.{unfinished, unstored_of}
use Rattle.spd_state.specs.Parts.{FlightsOk, FlightOk, Rule}
use Rattle.spd_state.specs.declared.view.Running.{Running}
use Rattle.spd_state.specs.declared.view.Flight.{Flight}
use Rattle.spd_state.specs.declared.view.Draw.{Draw}
use Rattle.spd_state.specs.declared.view.Draw.TheVariants.{Make, Chain, Spawn}
use Rattle.spd_state.specs.declared.view.View.{View}
use Rattle.spd_state.proofs.Sums.{same_means, gate_le, total_some, total_none}
use Rattle.spd_state.proofs.Rights.{finish_inside, root_lives}
use Rattle.spd_state.proofs.Ended.{all_started, no_right, no_claim}
use Rattle.spd_state.proofs.InFlight.{unstored_holds}
use Rattle.spd_state.proofs.Zero.{none_unfinished}

-- what is early still has its place, but for a make
early_works : (x : Draw) (s : ℕ) → x ≢ Make → 0 < early_of x s → 0 < working_of x s
early_works Make s n z = absurd (n refl)
early_works Chain zero n z = absurd (omega arith)
early_works Chain (suc zero) n z = omega arith
early_works Chain (suc (suc zero)) n z = omega arith
early_works Chain (suc (suc (suc s))) n z = absurd (omega arith)
early_works Spawn s n z = absurd (omega arith)

-- a move in flight has its place still, or something unfinished to store, but for a make that hasn't set its root
left_to_do : (x : Draw) (s : ℕ) → (x ≡ Make → 0 < s) → working_of x s ≡ 0 → 0 < unstored_of x s
left_to_do Make zero n z = let k = n refl in absurd (omega arith)
left_to_do Make (suc s) n z = omega arith
left_to_do Chain zero n z = absurd (omega arith)
left_to_do Chain (suc zero) n z = omega arith
left_to_do Chain (suc (suc zero)) n z = omega arith
left_to_do Chain (suc (suc (suc s))) n z = omega arith
left_to_do Spawn zero n z = absurd (omega arith)
left_to_do Spawn (suc zero) n z = absurd (omega arith)
left_to_do Spawn (suc (suc zero)) n z = let k : 0 < 2 = omega arith in k
left_to_do Spawn (suc (suc (suc s))) n z = omega arith

module _ {B : Type 0} (p : PlanView) (a : Dag) (homes : List (maybe.Option (Option B))) (vs : List View) (rule : Rule p a homes vs)
    (ended : 2 ≤ (a.vertices 1).state) where
  root_zero : (f : ℕ) → f < p.moves → units p a vs f ≡ 0 → (a.nodes f).twice ≡ 0
  root_zero f l u = let c = rule.counts.count f l in omega arith

  -- an unfinished running vertex keeps a unit at its finish
  busy_holds : (j : ℕ) (u : View) → get_elem? vs j ≡ some u → (r : Running) → u.running ≡ Some r → 0 < r.right + length u.claimed
      → units p a vs r.finish ≡ 0 → ⊥
  busy_holds j u at r is alive z = let low = finish_inside p a homes vs rule j u at r is in let gone = root_zero r.finish low z in
      let x = no_right p a homes vs rule r.finish low gone j u r at is refl in
      let y : length u.claimed ≡ 0 = ap length (no_claim p a homes vs rule r.finish low gone j u r at is refl) in omega arith

  -- a finish whose waiting vertex isn't stored has a maker, which keeps a unit at a smaller finish
  maker_holds : (f : ℕ) → 0 < f → 0 < earlies vs f → (e : ℕ) × (e < f) × (e < p.moves) × (units p a vs e ≡ 0 → ⊥)
  maker_holds f z one = let t = total_some (λ (u : View). early_in f u.flight) vs one in by t.0 t.1 t.2 t.1.flight refl t.3
    where
      by : (j : ℕ) (u : View) → get_elem? vs j ≡ some u → (o : Option Flight) → u.flight ≡ o → 0 < early_in f o → (e : ℕ) × (e < f) × (e < p.moves)
          × (units p a vs e ≡ 0 → ⊥)
      by j u at None is h = absurd (omega arith)
      by j u at (Some g) is h = let l = gate_le (early_of g.draw g.stage) (same f g.number) in let n = same_means f g.number (omega arith) in
          let early : 0 < early_of g.draw g.stage = opens (early_of g.draw g.stage) h in kinds g.draw refl n early
        where
          opens : (k : ℕ) → 0 < gate k (same f g.number) → 0 < k
          opens zero q = absurd (omega arith)
          opens (suc k) q = omega arith

          holds : g.draw ≡ Chain → f ≡ g.number → 0 < working_of g.draw g.stage → (e : ℕ) × (e < f) × (e < p.moves) × (units p a vs e ≡ 0 → ⊥)
          holds c n w = let m = rule.history.makers j u at in let r = m.alive g is w in let l = m.above g r.0 is r.1 c in
              (r.0.finish, (omega arith), finish_inside p a homes vs rule j u at r.0 r.1, busy_holds j u at r.0 r.1 r.2)

          kinds : (x : Draw) → g.draw ≡ x → f ≡ g.number → 0 < early_of g.draw g.stage → (e : ℕ) × (e < f) × (e < p.moves) × (units p a vs e ≡ 0 → ⊥)
          kinds Make c n e = let k = (rule.history.makers j u at).first g is c in absurd (omega arith)
          kinds Chain c n e = holds c n (early_works g.draw g.stage (λ q. let k = sym c ∙ q in absurd (cc)) e)
          kinds Spawn c n e = let k : early_of g.draw g.stage ≡ 0 = ap (λ x. early_of x g.stage) c in absurd (omega arith)

  -- from finish 0 to the greater ones
  units_gone : (n f : ℕ) → f < n → f < p.moves → units p a vs f ≡ 0
  units_gone zero f l low = absurd (omega arith)
  units_gone (suc n) f l low = dite (ℕ_discrete (openings a.vertices vs f) 0)
      (λ shut. rule.live.shut f (omega arith) (root_lives p a homes vs rule f low ∙ shut))
      (λ is_open. dite (ℕ_discrete (units p a vs f) 0) (λ e. e) (λ some_left. let g = (rule.finishes.going f low (omega arith) (omega arith)).0 in
      dite (ℕ_discrete f 0)
      (λ e. let s : (a.vertices (2 * f + 1)).state ≡ (a.vertices 1).state = ap (λ k. (a.vertices (2 * k + 1)).state) e in absurd (omega arith))
      (λ e. dite (ℕ_discrete (a.vertices (2 * f + 1)).state 0)
      (λ z. let c = rule.finishes.coming f low (omega arith) z in let m = maker_holds f (omega arith) (omega arith) in let m₁ = m.1 in
      let u = units_gone n m.0 (omega arith) m.2 in absurd (m.3 u))
      (λ z. let b = rule.history.below.rest f low (omega arith) (omega arith) in
      let u = units_gone n (a.vertices (2 * f + 1)).finish (omega arith) (omega arith) in
      let s = all_started p a homes vs rule (a.vertices (2 * f + 1)).finish (omega arith) (root_zero (a.vertices (2 * f + 1)).finish (omega arith) u)
      (2 * f + 1) (omega arith) (omega arith) (λ q. e (omega arith)) refl in absurd (omega arith)))))

  pub none_left : (f : ℕ) → f < p.moves → units p a vs f ≡ 0
  none_left f low = units_gone (suc f) f (omega arith) low

  pub roots_zero : (f : ℕ) → f < p.moves → (a.nodes f).twice ≡ 0
  roots_zero f low = root_zero f low (none_left f low)

  pub all_finished : (f : ℕ) → f < p.moves → unfinished p a vs f ≡ 0
  all_finished f low = none_unfinished p a homes vs rule f low (roots_zero f low)

  -- no move is in flight
  pub none_flies : (j : ℕ) (v : View) → get_elem? vs j ≡ some v → v.flight ≡ None
  none_flies j v at = by v.flight refl
    where
      no : (g : Flight) → v.flight ≡ Some g → ⊥
      no g is = let m = rule.history.makers j v at in let ok = subst (FlightsOk p a.trees a.drawn a.nodes a.pairs a.vertices) is
          (rule.flying j v at) in dite (ℕ_discrete (working_of g.draw g.stage) 0)
          (λ e. let h = unstored_holds p a homes vs rule j v at g is (left_to_do g.draw g.stage (first ok) e) in
          let u = units_gone (suc g.finish) g.finish (omega arith) ok.finish in omega arith)
          (λ e. let r = m.alive g is (omega arith) in let low = finish_inside p a homes vs rule j v at r.0 r.1 in
          busy_holds j v at r.0 r.1 r.2 (units_gone (suc r.0.finish) r.0.finish (omega arith) low))
        where
          -- a make that hasn't set its root hasn't stored vertex 1 either
          first : FlightOk p a.trees a.drawn a.nodes a.pairs a.vertices g → g.draw ≡ Make → 0 < g.stage
          first ok c = dite (ℕ_discrete g.stage 0) (λ s. let n = (rule.history.makers j v at).first g is c in
              let q : rest_left g.draw g.stage ≡ 1 = (λ i. rest_left (c i) (s i)) in
              let w : (a.vertices (2 * g.number + 1)).state ≡ 0 = ap (λ (x : Vertex). x.state) (ok.rest (omega arith)) in
              let x : (a.vertices (2 * g.number + 1)).state ≡ (a.vertices 1).state = ap (λ k. (a.vertices (2 * k + 1)).state) n in
              absurd (omega arith)) (λ s. omega arith)

      by : (o : Option Flight) → v.flight ≡ o → o ≡ None
      by None is = refl
      by (Some g) is = absurd (no g is)

  none_flying : (d : ℕ) → flights vs d ≡ 0
  none_flying d = total_none (λ (v : View). flies_in d v.flight) vs (λ j v at. ap (flies_in d) (none_flies j v at))

  -- every vertex of a drawn move but vertex 1 is started
  pub bodies_started : (d : ℕ) → d < p.moves → d < a.drawn → 3 ≤ (a.vertices (2 * d)).state
  bodies_started d low drawn = let s = rule.moves.body_there d low drawn (none_flying d) in let f = (rule.live.finish (2 * d) (omega arith) s).0 in
      all_started p a homes vs rule (a.vertices (2 * d)).finish f (roots_zero (a.vertices (2 * d)).finish f) (2 * d) (omega arith) s
      (λ e. omega arith) refl

  pub rests_started : (d : ℕ) → d < p.moves → d < a.drawn → 0 < d → 3 ≤ (a.vertices (2 * d + 1)).state
  rests_started d low drawn later = let s = rule.moves.rest_there d low drawn (none_flying d) in
      let f = (rule.live.finish (2 * d + 1) (omega arith) s).0 in
      all_started p a homes vs rule (a.vertices (2 * d + 1)).finish f (roots_zero (a.vertices (2 * d + 1)).finish f) (2 * d + 1) (omega arith) s
      (λ e. omega arith) refl
