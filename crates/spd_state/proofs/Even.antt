-- The finish rule after a vertex is stored that isn't the waiting one of an open finish: the body of a move, or the right vertex of a spawn.
use Rattle.std.proofs.Common.{◌≡◌, ℕ, ◌+◌, ◌*◌, ◌<◌, ◌≤◌, List, set, sym, ◌∙◌, subst, arith, Option}
use mathlib.Core.Option.{some}
use mathlib.Core.Option as maybe
use lib.ListN.{get_elem?}
use Rattle.spd_words.specs.Plan.{PlanView}
use Rattle.spd_words.specs.Words.{Vertex}
use Rattle.spd_state.specs.Sums.{count, put}
use Rattle.spd_state.specs.Dag.{Dag, earlies, tellers, units, openings, early_in}
use Rattle.spd_state.specs.Parts.{Rule, FinishRule}
use Rattle.spd_state.specs.declared.view.View.{View}
use Rattle.spd_state.proofs.Sums.{put_else, total_kept}
use Rattle.spd_state.proofs.Frames.{finishes_kept}
use Rattle.spd_state.proofs.Store.{Stored, openings', units'}

module _ {B : Type 0} (p : PlanView) (a : Dag) (homes : List (maybe.Option (Option B))) (vs : List View) (rule : Rule p a homes vs) (id : ℕ)
    (v : View) (at : get_elem? vs id ≡ some v)
    (w : View) (d i : ℕ) (x : Vertex) (step : Stored p a v w d i x) (told : w.told ≡ v.told)
    (early : (f : ℕ) → early_in f w.flight ≡ early_in f v.flight) where
  abbrev after : List View
  after = set vs id w

  -- no open finish waits with the vertex i
  pub other_finishes : ((f : ℕ) → i ≡ 2 * f + 1 → openings a.vertices vs f ≡ 0)
      → FinishRule p.moves (put a.vertices i x) (openings (put a.vertices i x) after) (units p a after) (tellers after) (earlies after)
  other_finishes shut = let o = openings' p a homes vs rule id v at w d i x step in let u = units' p a homes vs rule id v at w d i x step in
      let h = finishes_kept p.moves a.vertices (openings a.vertices vs) (openings (put a.vertices i x) after) (units p a vs) (units p a after)
      (tellers vs) (tellers after) (earlies vs) (earlies after) o (λ f l. ((λ z. sym (u f) ∙ z), (λ z. u f ∙ z)))
      (λ f. total_kept (λ (y : View). count f y.told) vs id v w at (λ j. count f (told j)))
      (λ f. total_kept (λ (y : View). early_in f y.flight) vs id v w at (early f)) rule.finishes in
      let like : (P : Vertex → Type 0) (f : ℕ) → 0 < openings (put a.vertices i x) after f → P (a.vertices (2 * f + 1))
      → P (put a.vertices i x (2 * f + 1)) = λ P f z q.
      subst P (sym (put_else a.vertices i x (2 * f + 1) (λ e. let s = shut f (sym e) in let k = o f in omega arith))) q in record {
        untold = h.untold;
        going = λ f l z g. like (λ (y : Vertex). (y.state ≤ 1) × (tellers after f ≡ 0)) f z (h.going f l z g);
        coming = λ f l z. like (λ (y : Vertex). y.state ≡ 0 → earlies after f ≡ 1) f z (h.coming f l z);
        over = λ f l z g. like (λ (y : Vertex). 0 < y.state) f z (h.over f l z g);
        tell = λ f l z g. like (λ (y : Vertex). y.state ≡ 1 → tellers after f ≡ 1) f z (h.tell f l z g);
        woken = λ f l z g. like (λ (y : Vertex). 2 ≤ y.state → tellers after f ≡ 0) f z (h.woken f l z g);
      }

module _ {B : Type 0} (p : PlanView) (a : Dag) (homes : List (maybe.Option (Option B))) (vs : List View) (rule : Rule p a homes vs) (id : ℕ)
    (v : View) (at : get_elem? vs id ≡ some v)
    (w : View) (d k : ℕ) (x : Vertex) (step : Stored p a v w d (2 * k) x) (told : w.told ≡ v.told)
    (early : (f : ℕ) → early_in f w.flight ≡ early_in f v.flight) where
  pub even_finishes : FinishRule p.moves (put a.vertices (2 * k) x) (openings (put a.vertices (2 * k) x) (set vs id w)) (units p a (set vs id w))
      (tellers (set vs id w)) (earlies (set vs id w))
  even_finishes = other_finishes p a homes vs rule id v at w d (2 * k) x step told early (λ f e. absurd (omega arith))
