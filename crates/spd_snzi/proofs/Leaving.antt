-- What a share is told after a departure, and that it has taken a step.
use Rattle.std.proofs.Common.{◌≡◌, ℕ, ◌+◌, ◌<◌, List, refl, ap, ◌∙◌, subst, sym, arith, Option, Some, None, Bool, true, false, cond, eqb}
use lib.Dec.{ltb}
use Rattle.atomic_table.specs.Table.{Me}
use Rattle.spd_words.specs.Words.{Node}
use Rattle.spd_state.specs.Sums.{count}
use Rattle.spd_state.specs.Steps.{tell_if, settle_view, sub_after}
use Rattle.spd_state.specs.declared.view.Running.{Running}
use Rattle.spd_state.specs.declared.view.Flight.{Flight}
use Rattle.spd_state.specs.declared.view.View.{View}
use Rattle.spd_state.proofs.Sums.{same_self}
use Rattle.spd_rule.specs.Rest.{rested, sub_known}
use Rattle.spd_rule.proofs.Settled.{lowered, told_rest}
use Rattle.spd_rule.specs.Shares.{SubsUnderRule, root_place, field_plan, share_view, share_known}
use Rattle.spd_rule.specs.declared.field.Field.{Field}
use Rattle.spd_rule.specs.declared.field.Share.{Share}
use Rattle.spd_words.specs.Plan.{PlanView}
use Rattle.spd_words.specs.Words.{node_of}
use Rattle.spd_snzi.specs.Told.{told_by, KnowsTold}
use Rattle.spd_snzi.specs.Departures.{MayDepart, DepartGoes, DepartTurned}
use Rattle.spd_snzi.specs.declared.depart.DepartStage.{DepartStage}
use Rattle.spd_snzi.specs.declared.depart.DepartStage.TheVariants as stage
use Rattle.spd_snzi.specs.declared.depart.DepartTurn.TheVariants as turn

told_lowered : (other : Bool) (d : ℕ) (n : Node) (v : View) → (settle_view (lowered other d n v)).told ≡ tell_if (eqb n.twice 2) d v.told
told_lowered true d n v = refl
told_lowered false d n v = refl

-- the told finishes after the step
sub_told : {B : Type 0} (d : ℕ) (n : Node) (me : Me (Option B) View) → (sub_known d n me).0.told ≡ tell_if (eqb n.twice 2) d me.0.told
sub_told d n me = told_rest (sub_after d n me.0, me.1) ∙ told_lowered (ltb 0 (count d me.0.held)) d n me.0

knows_if : (last : Bool) (d : ℕ) (l : List ℕ) (v : View) → v.told ≡ tell_if last d l → KnowsTold (cond last (Some d) None) v
knows_if false d l v e = tt
knows_if true d l v e = subst (λ (x : List ℕ). 0 < count d x) (sym e) (let s = same_self d d refl in omega arith)

pub knows_told : {B : Type 0} (d : ℕ) (n : Node) (me : Me (Option B) View) → KnowsTold (told_by d n) (sub_known d n me).0
knows_told d n me = knows_if (eqb n.twice 2) d me.0.told (sub_known d n me).0 (sub_told d n me)

steps_lowered : (other : Bool) (d : ℕ) (n : Node) (v : View) → (settle_view (lowered other d n v)).steps ≡ v.steps + 1
steps_lowered true d n v = refl
steps_lowered false d n v = refl

steps_rested : {B : Type 0} (me : Me (Option B) View) (o : Option Running) (f : Option Flight) → (rested o f me).0.steps ≡ me.0.steps
steps_rested me (Some r) f = refl
steps_rested me None (Some f) = refl
steps_rested me None None = refl

-- one step more
pub sub_counted : {B : Type 0} (d : ℕ) (n : Node) (me : Me (Option B) View) → (sub_known d n me).0.steps ≡ me.0.steps + 1
sub_counted d n me = let w : View = sub_after d n me.0 in steps_rested (w, me.1) w.running w.flight
    ∙ steps_lowered (ltb 0 (count d me.0.held)) d n me.0

-- the turn at a root
pub departs : {B : Type 0} (field : Field B) (unit : ℕ) (before : View) (at : ℕ) (st : DepartStage) (s t : Share B) (found : ℕ) (told : Option ℕ)
    → DepartGoes (field_plan field) unit before record { unit = at; stage = st } (share_view s) → SubsUnderRule field (root_place field at) 2 found s t
    → share_known t ≡ sub_known at (node_of found) (share_known s) → told ≡ told_by at (node_of found)
    → DepartTurned field unit before record { unit = at; stage = st } record { unit = at; stage = st } s t (turn.Done told)
departs {B} field unit before at stage.SubRoot s t found told goes rule known is = record {
  found = found;
  step = rule;
  counted = ap (λ (m : Me (Option B) View). m.0.steps) known ∙ sub_counted at (node_of found) (share_known s);
  table = ap turn.Done is;
  comes = (
    known ∙ (λ j. sub_known (goes.asks j) (node_of found) (goes.is j, (share_known s).1)),
    subst (λ (X : Type 0). X) (λ j. KnowsTold (sym is j) (sym known j).0) (knows_told at (node_of found) (share_known s)),
  );
}

-- what may depart at its beginning may at its one turn
pub may_depart : (p : PlanView) (unit : ℕ) (before : View) (at : ℕ) (st : DepartStage) (v : View)
    → DepartGoes p unit before record { unit = at; stage = st } v → MayDepart p at v
may_depart p unit before at stage.SubRoot v goes = subst (λ (X : Type 0). X) (λ j. MayDepart p (sym goes.asks j) (sym goes.is j)) goes.may
