-- How a start ends, from what its steps tell.
use Rattle.std.proofs.Common.{◌≡◌, ℕ, ◌+◌, List, [], ◌∷◌, refl, sym, ap, ◌∙◌, subst, Option, Some, None, Bool, cond, eq-eqb, inr, ⊎_elim}
use mathlib.Core.Logic.{dite}
use mathlib.Core.Option.{some, some-ne-none}
use lib.ListN.{get_elem?}
use native.Mathlib.Decide.{ℕ_discrete}
use Rattle.atomic_table.specs.Table.{Me, rest}
use Rattle.spd_words.specs.Meaning.{Meaning}
use Rattle.spd_words.specs.Plan.{PlanView, vertex_place}
use Rattle.spd_words.specs.Words.{vertex_of}
use Rattle.spd_state.specs.Shown.{note_ready}
use Rattle.spd_state.specs.Steps.{stepped, start_view}
use Rattle.spd_state.specs.declared.view.View.{View}
use Rattle.spd_rule.specs.Held.{StepUnderRule}
use Rattle.spd_rule.specs.Steps.{HasSeen, LateStart, StartsVertex, meaning_in, see_known}
use Rattle.spd_vertex.specs.Starting.{StartsBy, StartsWith, ready_known, runs_known, start_of_slot}
use Rattle.spd_vertex.specs.declared.starting.Start.TheVariants.{Taken}

heads : {A : Type 0} (x y : A) (xs ys : List A) → x ∷ xs ≡ y ∷ ys → x ≡ y
heads x y xs ys e = cc

module _ {B : Type 0} (means : B → Meaning) (p : PlanView) (i : ℕ) (me seen after : Me (Option B) View) (found : ℕ) (ready : (vertex_of found).state ≡ 2)
    (saw : seen ≡ see_known i found me) (look : StepUnderRule p (vertex_place p i) found found me seen) where
  -- a look at a ready vertex notes it
  notes : seen ≡ ready_known i found me
  notes = saw ∙ ap (λ (b : Bool). (cond b (note_ready i (vertex_of found) me.0) (stepped me.0), me.1)) (eq-eqb (vertex_of found).state 2 ready)

  noted : StepUnderRule p (vertex_place p i) found found me (ready_known i found me)
  noted = subst (StepUnderRule p (vertex_place p i) found found me) notes look

  -- the exchange missed
  pub lost : (later : ℕ) → HasSeen i found seen.0 → LateStart i found later seen after → StepUnderRule p (vertex_place p i) later later seen after
      → StartsBy means p i me after (Taken (vertex_of later).state)
  lost later has late miss = let three : (vertex_of later).state ≡ 3 = late.taken has in (
    (λ two. cc),
    inr record {
      found = found;
      ready = ready;
      saw = noted;
      later = later;
      reads = refl;
      started = three;
      missed = subst (λ (m : Me (Option B) View). StepUnderRule p (vertex_place p i) later later m after) notes miss;
      known = late.known ∙ ap (λ (m : Me (Option B) View). (stepped m.0, m.1)) notes;
    },
  )

  -- the exchange hit, and what lay in the slot was taken out of it
  module _ (start : StartsVertex means p i found seen after) (hit : StepUnderRule p (vertex_place p i) found (found + 1) seen after)
      (slot : ℕ) (got : Option B) (before : after.1 ≡ (slot, got) ∷ rest after.1) (left : Me (Option B) View)
      (out : left ≡ (after.0, (slot, None) ∷ rest after.1)) (held : me.1 ≡ []) where
    runs : after ≡ runs_known i found (meaning_in means start.body) start.body me
    runs = start.known
        ∙ (λ j. (start_view i (vertex_of found) (meaning_in means start.body) (notes j).0, (i, start.body) ∷ (notes j).1))

    first : (i, start.body) ∷ me.1 ≡ (slot, got) ∷ rest after.1
    first = sym (ap (λ (m : Me (Option B) View). m.1) runs) ∙ before

    slot_is : slot ≡ i
    slot_is = sym (ap (λ (x : ℕ × Option B). x.0) (heads (i, start.body) (slot, got) me.1 (rest after.1) first))

    body_is : start.body ≡ got
    body_is = ap (λ (x : ℕ × Option B). x.1) (heads (i, start.body) (slot, got) me.1 (rest after.1) first)

    -- the share held no slot, so the body lay at home
    lay_at_home : get_elem? hit.before.homes i ≡ some (some start.body)
    lay_at_home = let none : seen.1 ≡ [] = ap (λ (m : Me (Option B) View). m.1) saw ∙ held in ⊎_elim
        (λ (h : get_elem? hit.before.homes i ≡ some (some start.body)). h)
        (λ (h : (j : ℕ) × (get_elem? seen.1 j ≡ some (i, start.body))). absurd (some-ne-none (i, start.body)
        (sym (sym (ap (λ (l : List (ℕ × Option B)). get_elem? l h.0) none) ∙ h.1))))
        (hit.bodies i start.body (inr (0, ap (λ (m : Me (Option B) View). get_elem? m.1 0) runs)))

    starts_with : StartsWith means p i me left start.body
    starts_with = let h = subst (λ (X : Type 0). X) (λ j. (st : StepUnderRule p (vertex_place p i) found (found + 1) (notes j) (runs j))
        × (get_elem? st.before.homes i ≡ some (some start.body))) (hit, lay_at_home) in record {
          found = found;
          ready = ready;
          inside = start.inside;
          saw = noted;
          started = h.0;
          lay = h.1;
          known = out ∙ (λ j. ((runs j).0, (slot_is j, None) ∷ rest (runs j).1));
        }

    pub begun : StartsBy means p i me left (start_of_slot got)
    begun = subst (λ (y : Option B). StartsBy means p i me left (start_of_slot y)) body_is (by start.body refl)
      where
        by : (y : Option B) → start.body ≡ y → StartsBy means p i me left (start_of_slot y)
        by None e = (
          dite (ℕ_discrete i 1) (λ one. one) (λ other. let b = start.other other in let is = b.1 in absurd (cc)),
          subst (StartsWith means p i me left) e starts_with,
        )
        by (Some b) e = ((λ one. let is = start.end one in cc), subst (StartsWith means p i me left) e starts_with)
