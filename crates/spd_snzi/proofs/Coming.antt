-- The one turn of an arrival at a root.
use Rattle.std.proofs.Common.{◌≡◌, ℕ, ◌+◌, ◌%◌, ◌^◌, ◌∙◌, sym, ap, subst, Option}
use Rattle.atomic_table.specs.Table.{Me}
use Rattle.spd_words.specs.Plan.{PlanView, node_place}
use Rattle.spd_state.specs.Steps.{add_view}
use Rattle.spd_state.specs.declared.view.View.{View}
use Rattle.spd_rule.specs.Held.{StepUnderRule}
use Rattle.spd_rule.specs.Shares.{AddsUnderRule, root_place, field_plan, share_view, share_bodies, share_known}
use Rattle.spd_rule.specs.declared.field.Field.{Field}
use Rattle.spd_rule.specs.declared.field.Share.{Share}
use Rattle.spd_snzi.specs.Arrivals.{MayArrive, ArriveGoes, ArriveTurned, ArriveAnswers, arrive_next, arrive_place, arrive_writes}
use Rattle.spd_snzi.specs.declared.arrive.ArriveStage.{ArriveStage}
use Rattle.spd_snzi.specs.declared.arrive.ArriveStage.TheVariants as stage
use Rattle.spd_snzi.specs.declared.arrive.ArriveTurn.TheVariants as turn

pub arrives : {B : Type 0} (field : Field B) (node : ℕ) (before : View) (at : ℕ) (st : ArriveStage) (s t : Share B) (found : ℕ)
    → ArriveGoes (field_plan field) node before record { node = at; stage = st } (share_view s) → AddsUnderRule field (root_place field at) 2 found s t
    → share_known t ≡ (add_view at (share_view s), share_bodies s)
    → ArriveTurned field node before record { node = at; stage = st } record { node = at; stage = st } s t (turn.Done at)
arrives {B} field node before at stage.AddRoot s t found goes rule known = record {
  found = found;
  step = rule;
  counted = ap (λ (m : Me (Option B) View). m.0.steps) known;
  table = λ _. turn.Done at;
  comes = (goes.asks, ap (λ (m : Me (Option B) View). m.0) known ∙ (λ j. add_view (goes.asks j) (goes.is j)));
}

-- what may arrive at its beginning may at its one turn
pub may_arrive_now : (p : PlanView) (node : ℕ) (before : View) (at : ℕ) (st : ArriveStage) (v : View)
    → ArriveGoes p node before record { node = at; stage = st } v → MayArrive p at v
may_arrive_now p node before at stage.AddRoot v goes = subst (λ (X : Type 0). X) (λ j. MayArrive p (sym goes.asks j) (sym goes.is j)) goes.may

-- there is no second turn
pub one_turn : (node : ℕ) (st new : ArriveStage) (found : ℕ) → ArriveAnswers (arrive_next node st found) new turn.More → ⊥
one_turn node stage.AddRoot new found e = cc

-- and the step is that of the root
pub root_step : {B : Type 0} (p : PlanView) (node : ℕ) (st : ArriveStage) (found : ℕ) (me me' : Me (Option B) View)
    → StepUnderRule p (arrive_place p node st) found (arrive_writes st found) me me' → StepUnderRule p (node_place p node) found ((found + 2) % 2 ^ 64) me me'
root_step p node stage.AddRoot found me me' step = step
