-- The table allows the share of vertex 1 to end the region, and the numbers beside its seat follow.
use Rattle.std.proofs.Common.{◌≡◌, ℕ, ◌*◌, map, refl, sym, ◌∙◌, subst, Option, None, inl, inr}
use Rattle.atomic_table.specs.Table.{homes_after, Me, Allows}
use Rattle.atomic_table.specs.Seated.{TableId}
use Rattle.spd_words.specs.Meaning.{BodyView}
use Rattle.spd_words.specs.Plan.{PlanView, done_place}
use Rattle.spd_state.specs.Dag.{Dag}
use Rattle.spd_state.specs.declared.view.View.{View}
use Rattle.spd_debts.specs.Payments.{done_view}
use Rattle.spd_debts.proofs.Drawing.{end_claims_none}
use Rattle.spd_debts.proofs.Marking.{done_rule, not_done}
use Rattle.spd_debts.proofs.Paying.{done_stands}
use Rattle.spd_rule.specs.Beside.{Mirrors}
use Rattle.spd_rule.specs.Kept.{means_of, Kept}
use Rattle.spd_rule.specs.Payments.{MayMarkEnd, done_known}
use Rattle.spd_rule.specs.Rest.{due, at_rest}
use Rattle.spd_rule.specs.declared.beside.Beside.{Beside}
use Rattle.spd_rule.proofs.Glue.{IsBlank, allow_done, unseen}
use Rattle.spd_rule.proofs.Resting.{fit_alike, bound_by, running_started, rests}
use Rattle.spd_rule.proofs.Settled.{shown_rest, rest_due, mirrors_rest}

-- the word of the end is 0 until then
pub done_blank : {B : Type 0} (p : PlanView) (id : ℕ) (me : Me (Option B) View) → MayMarkEnd me.0 → IsBlank p id me done_place
done_blank p id me may s held at = held.written.done ∙ not_done p held.dag s.homes s.views held.kept id me.0 at may.runs may.running may.end

module _ {B : Type 0} (told_of : B → BodyView) (p : PlanView) (slots id : ℕ) (me : Me (Option B) View) (may : MayMarkEnd me.0)
    (size : slots ≡ 2 * p.moves) (holds : me.0.slots ≡ map (λ x. x.0) me.1) (is_due : me.0.slots ≡ due me.0.flight me.0.running) where
  pub ends_region : Allows (Kept told_of p) slots id me done_place (λ _. 1) (λ _ m'. m' ≡ done_known me)
  ends_region = allow_done told_of p slots id me (λ _. 1) (λ _ m'. m' ≡ done_known me)
      (λ a homes vs from fit. let w : View = done_view me.0 in let b : Dag = record a { done = 1 } in
      let kept = done_rule p a homes vs from.rule id me.0 from.at may.runs may.running may.end may.flight
      (end_claims_none (means_of told_of) p a homes vs from.rule from.books id me.0 from.at may.runs may.running may.end) in
      let r = rests told_of p b homes vs id me.0 from.at w me.1 kept (done_stands (means_of told_of) p a homes vs from.rule from.books id me.0 from.at may.runs may.running may.end)
      (from.deep ∙ size) holds
      (λ none free. bound_by p.moves a.vertices me.1 me.0.running (sym holds ∙ is_due ∙ (λ i. due (may.flight i) me.0.running))
      (running_started p a homes vs from.rule id me.0 from.at)) in
      let v : View = (at_rest (w, me.1)).0 in inl record {
        new = 1;
        fits = tt;
        packs = refl;
        expects = a.expects;
        region = a.region;
        tame = a.tame;
        move = record {
          view = v;
          act = r.act;
          valid = r.valid;
          kept = r.kept;
          shown = unseen told_of p slots id me a homes vs from v (shown_rest (w, me.1));
          books = r.books;
          fit = fit_alike told_of p.moves b.vertices homes (homes_after homes me.1 r.act) from.fit r.alike;
          tells = λ j. (v, sym r.carried j);
        };
      })

-- the numbers, and the slots that are due
module _ {B : Type 0} (z z' : TableId) (same : z' ≡ z) (me me' : Me (Option B) View) (b b' : Beside) (h : Mirrors z me b)
    (is_due : me.0.slots ≡ due me.0.flight me.0.running) (may : MayMarkEnd me.0) (e : me' ≡ done_known me) (k : b' ≡ record b { running = None }) where
  mirrors_over : Mirrors z (done_view me.0, me.1) b'
  mirrors_over = subst (Mirrors z (done_view me.0, me.1)) (sym k) record {
    running = refl;
    flight = h.flight;
    units = h.units;
    claimed = h.claimed;
    told = h.told;
    spare = h.spare;
    marked = h.marked;
    starts = h.starts;
    begun = h.begun;
    inside = λ r is. absurd (cc);
    flies = h.flies;
    few = h.few;
    seated = h.seated;
    slots = h.slots;
  }

  pub mirrors_end : Mirrors z' me' b'
  mirrors_end = subst (λ (t : TableId). Mirrors t me' b') (sym same) (subst (λ (m : Me (Option B) View). Mirrors z m b') (sym e)
      (mirrors_rest z (done_view me.0, me.1) b' mirrors_over))

  pub end_due : me'.0.slots ≡ due me'.0.flight me'.0.running
  end_due = subst (λ (m : Me (Option B) View). m.0.slots ≡ due m.0.flight m.0.running) (sym e)
      (rest_due (done_view me.0) me.1 (inr (refl, may.flight)))
