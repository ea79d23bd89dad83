-- What a view's list tells of a node stands.
use Rattle.std.proofs.Common.{◌≡◌, ◌≢◌, ℕ, List, [], ◌∷◌, cond, true, false, eqb, refl, sym, ap, ◌∙◌, subst, Option, Some}
use Prim.Native.Nat.{suc}
use mathlib.Core.Option.{some}
use mathlib.Core.Option as maybe
use lib.ListN.{get_elem?}
use Rattle.std.proofs.lemmas.Bool.Decides.{eqb_tells}
use Rattle.std.proofs.Common.{⊎_elim}
use Rattle.spd_words.specs.Plan.{PlanView}
use Rattle.spd_state.specs.Sums.{Each}
use Rattle.spd_state.specs.Tree.{Trees, Under, top_in}
use Rattle.spd_state.specs.Dag.{Dag}
use Rattle.spd_state.specs.Parts.{Rule}
use Rattle.spd_state.specs.declared.trees.Known.{Known}
use Rattle.spd_state.specs.declared.view.View.{View}

looked_up : (p : PlanView) (t : Trees) (n f : ℕ) (l : List Known) → Each (λ (k : Known). Under p t k.top k.node) l → top_in n l ≡ Some f
    → Under p t f n
looked_up p t n f [] all e = absurd (cc)
looked_up p t n f (k ∷ ks) all e = ⊎_elim
    (λ (h : (eqb n k.node ≡ true) × (n ≡ k.node)). let s : Some k.top ≡ Some f = sym (ap (λ b. cond b (Some k.top) (top_in n ks)) h.0) ∙ e in
    let q : k.top ≡ f = cc in
    subst (λ (g : ℕ). Under p t g n) q (subst (Under p t k.top) (sym h.1) (all 0 k refl)))
    (λ (h : (eqb n k.node ≡ false) × (n ≢ k.node)). looked_up p t n f ks
    (λ j x i. all (suc j) x i) (sym (ap (λ b. cond b (Some k.top) (top_in n ks)) h.0) ∙ e))
    (eqb_tells n k.node)

module _ {B : Type 0} (p : PlanView) (a : Dag) (homes : List (maybe.Option (Option B))) (vs : List View) (rule : Rule p a homes vs) (id : ℕ)
    (v : View) (at : get_elem? vs id ≡ some v) where
  -- a node that the share knows under f lies there
  pub known_under : (n f : ℕ) → top_in n v.known ≡ Some f → Under p a.trees f n
  known_under n f e = looked_up p a.trees n f v.known (rule.trees id v at).knows e
