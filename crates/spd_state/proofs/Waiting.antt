-- The finish rule after the waiting vertex 2d + 1 of a make or a chain is stored: its root has a unit, so it isn't told to anybody yet.
use Rattle.std.proofs.Common.{◌≡◌, ℕ, ◌+◌, ◌*◌, ◌<◌, ◌≤◌, List, set, refl, sym, ap, ◌∙◌, arith, Option, Some, ⊎_elim}
use mathlib.Core.Option.{some}
use mathlib.Core.Option as maybe
use lib.ListN.{get_elem?}
use Rattle.spd_words.specs.Plan.{PlanView}
use Rattle.spd_words.specs.Words.{Vertex}
use Rattle.spd_state.specs.Sums.{same, gate, count, sum_below, put}
use Rattle.spd_state.specs.Dag.{Dag, handles, earlies, tellers, units, units_of, openings, early_of, early_in}
use Rattle.spd_state.specs.Parts.{Rule, FinishRule}
use Rattle.spd_state.specs.declared.view.Draw.{Draw}
use Rattle.spd_state.specs.declared.view.View.{View}
use Rattle.spd_state.proofs.Sums.{same_self, same_else, put_case, total_set, total_kept, total_has}
use Rattle.spd_state.proofs.Sub.{early_flight}
use Rattle.spd_state.proofs.Store.{Stored, openings', units'}

module _ {B : Type 0} (p : PlanView) (a : Dag) (homes : List (maybe.Option (Option B))) (vs : List View) (rule : Rule p a homes vs) (id : ℕ)
    (v : View) (at : get_elem? vs id ≡ some v)
    (w : View) (d : ℕ) (x : Vertex) (step : Stored p a v w d (2 * d + 1) x) (low : d < p.moves) (waiting : x.state ≡ 1) (told : w.told ≡ v.told)
    (draw : Draw) (flies : v.flight ≡ Some record { draw = draw; number = d; finish = d; stage = 2 })
    (lands : w.flight ≡ Some record { draw = draw; number = d; finish = d; stage = 3 }) (early_2 : early_of draw 2 ≡ 1)
    (early_3 : early_of draw 3 ≡ 0) where
  abbrev i : ℕ
  i = 2 * d + 1

  abbrev after : List View
  after = set vs id w

  early_was : (f : ℕ) → early_in f v.flight ≡ same f d
  early_was f = ap (early_in f) flies ∙ ap (λ k. gate k (same f d)) early_2

  -- the root has a unit: its handle
  root_has : 0 < units p a vs d
  root_has = let e = early_was d in let s = same_self d d refl in
      ⊎_elim (λ (t : 0 < count d v.rooted). let h = total_has (units_of a.trees d) vs id v at in omega arith)
      (λ (t : 0 < sum_below p.moves (λ k. count d (handles (a.pairs k)))). omega arith)
      (early_flight p a homes vs rule d id v low at (omega arith))

  pub waiting_finishes : FinishRule p.moves (put a.vertices i x) (openings (put a.vertices i x) after) (units p a after) (tellers after)
      (earlies after)
  waiting_finishes = let h = rule.finishes in let o = openings' p a homes vs rule id v at w d i x step in
      let u = units' p a homes vs rule id v at w d i x step in
      let t : (f : ℕ) → tellers after f ≡ tellers vs f = λ f. total_kept (λ (y : View). count f y.told) vs id v w at (ap (count f) told) in
      let early : (f : ℕ) → earlies after f + same f d ≡ earlies vs f = λ f. let q = total_set (λ (y : View). early_in f y.flight) vs id v w at in
      let e = early_was f in let n : early_in f w.flight ≡ 0 = ap (early_in f) lands ∙ ap (λ k. gate k (same f d)) early_3 in omega arith in
      let op : (f : ℕ) → 0 < openings (put a.vertices i x) after f → 0 < openings a.vertices vs f = λ f z. let e = o f in omega arith in
      let has = root_has in record {
        untold = λ f l z. t f ∙ h.untold f l (sym (o f) ∙ z);
        going = λ f l z g. let q = u f in let k = h.going f l (op f z) (omega arith) in
            (put_case (λ (y : Vertex). y.state ≤ 1) a.vertices i x (2 * f + 1) (λ _. omega arith) (λ _. k.0), t f ∙ k.1);
        coming = λ f l z. let e = early f in put_case (λ (y : Vertex). y.state ≡ 0 → earlies after f ≡ 1) a.vertices i x (2 * f + 1)
            (λ _ k. absurd (omega arith)) (λ n k. let c = h.coming f l (op f z) k in let s = same_else f d (λ q. n (omega arith)) in omega arith);
        over = λ f l z g. let q = u f in put_case (λ (y : Vertex). 0 < y.state) a.vertices i x (2 * f + 1) (λ _. omega arith)
            (λ _. h.over f l (op f z) (omega arith));
        tell = λ f l z g. let q = u f in put_case (λ (y : Vertex). y.state ≡ 1 → tellers after f ≡ 1) a.vertices i x (2 * f + 1)
            (λ n _. let s : f ≡ d = omega arith in let m : units p a vs f ≡ units p a vs d = ap (units p a vs) s in absurd (omega arith))
            (λ _ k. t f ∙ h.tell f l (op f z) (omega arith) k);
        woken = λ f l z g. let q = u f in put_case (λ (y : Vertex). 2 ≤ y.state → tellers after f ≡ 0) a.vertices i x (2 * f + 1)
            (λ _ k. absurd (omega arith)) (λ _ k. t f ∙ h.woken f l (op f z) (omega arith) k);
      }
