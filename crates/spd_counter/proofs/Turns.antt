-- The turns of an increment: an arrival at the finish's root, and then a claim.
use Rattle.std.proofs.Common.{◌≡◌, ℕ, ◌+◌, ◌%◌, ◌^◌, ◌<◌, Option, Some, None, refl, sym, ap, ◌∙◌, subst, arith}
use Rattle.atomic_table.specs.Table.{Me}
use Rattle.spd_words.specs.Plan.{PlanView, IsPlan, node_place, pair_place}
use Rattle.spd_words.specs.Words.{pair_of}
use Rattle.spd_words.specs.declared.scheme.Scheme.TheVariants.{Flat}
use Rattle.spd_state.specs.Sums.{same, gate}
use Rattle.spd_state.specs.Dag.{right_in, right_at, next_handle}
use Rattle.spd_state.proofs.Sums.{same_self}
use Rattle.spd_state.specs.Stages.{finish_in}
use Rattle.spd_state.specs.Steps.{add_view, claim_after}
use Rattle.spd_state.specs.declared.view.Running.{Running}
use Rattle.spd_state.specs.declared.view.View.{View}
use Rattle.spd_rule.specs.Held.{StepUnderRule}
use Rattle.spd_rule.specs.Steps.{MayClaim, pair_in}
use Rattle.spd_rule.specs.Shares.{field_plan, share_view, share_known}
use Rattle.spd_rule.specs.declared.field.Field.{Field}
use Rattle.spd_rule.specs.declared.field.Share.{Share}
use Rattle.spd_snzi.specs.Arrivals.{MayArrive, ArriveGoes, ArriveTurned}
use Rattle.spd_snzi.specs.declared.arrive.ArriveCall.{ArriveCall}
use Rattle.spd_snzi.specs.declared.arrive.ArriveTurn.TheVariants as arrival
use Rattle.spd_snzi.proofs.Coming.{root_step}
use Rattle.spd_grow.specs.declared.grown.Grown.{Grown}
use Rattle.spd_counter.specs.Claiming.{ClaimsHandle, pair_handle}
use Rattle.spd_counter.specs.Receipts.{inc_in, still_at}
use Rattle.spd_counter.specs.Arriving.{MayIncrement, ArrivesAtRoot}
use Rattle.spd_counter.specs.Increments.{IncrementGoes, IncrementTurned, IncrementAnswers, HasArrived}
use Rattle.spd_counter.specs.Increments.{increment_view, increment_place, increment_writes, increment_next, increment_left}
use Rattle.spd_counter.specs.declared.increment.IncrementCall.{IncrementCall}
use Rattle.spd_counter.specs.declared.increment.IncrementStage.{IncrementStage}
use Rattle.spd_counter.specs.declared.increment.IncrementStage.TheVariants as stage
use Rattle.spd_counter.specs.declared.increment.IncrementTurn.TheVariants as turn
use Rattle.spd_counter.proofs.Handles.{next_is, claimed_is, inc_is}

some_runs : (a b : Running) → Some a ≡ Some b → a ≡ b
some_runs a b e = cc

-- the vertex that runs with its right
runs_right : (o : Option Running) → right_in o ≡ 1 → (r : Running) × (o ≡ Some r) × (r.right ≡ 1)
runs_right None e = absurd (omega arith)
runs_right (Some r) e = (r, refl, e)

-- what a claim shows, whose code takes this handle of the word that it found
pub claims_next : {B : Type 0} (p : PlanView) → IsPlan p → p.scheme ≡ Flat → (me me' : Me (Option B) View) (found left handle : ℕ) → right_in me.0.running ≡ 1
    → handle ≡ pair_handle found → StepUnderRule p (pair_place p (pair_in me.0.running)) found left me me'
    → (handle < p.moves) × (handle ≡ next_handle (pair_of found)) × (handle ≡ finish_in me.0.running)
claims_next p plan flat me me' found left handle right is step = let run = runs_right me.0.running right in let r : Running = run.0 in
    let place : ℕ = pair_place p (pair_in me.0.running) in let at : place ≡ pair_place p r.pair = ap (λ (o : Option Running). pair_place p (pair_in o)) run.1 in
    let next : handle ≡ next_handle (pair_of found) = is ∙ next_is p plan flat place found left me me' step r run.1 run.2 at in
    let h = claimed_is p plan flat place found left me me' step r run.1 run.2 at in
    (subst (λ (n : ℕ). n < p.moves) (sym next) h.0, next, next ∙ (h.1 ∙ sym (ap finish_in run.1)))

module _ (p : PlanView) (before : View) (call : IncrementCall) (v : View) (goes : IncrementGoes p before call v) where
  -- at the first turn the share knows what it knew
  at_arrive : call.stage ≡ stage.Arrive → v ≡ before
  at_arrive e = goes.is ∙ ap (λ (s : IncrementStage). increment_view goes.may.runs s before) e

  pub may_arrive : call.stage ≡ stage.Arrive → MayIncrement p v
  may_arrive e = subst (MayIncrement p) (sym (at_arrive e)) goes.may

  module _ (n : ℕ) (e : call.stage ≡ stage.Claim n) where
    -- at the second it has arrived
    at_claim : v ≡ add_view goes.may.runs.finish before
    at_claim = goes.is ∙ ap (λ (s : IncrementStage). increment_view goes.may.runs s before) e

    has_come : n ≡ goes.may.runs.finish
    has_come = subst (HasArrived goes.may.runs) e goes.arrived

    still_runs : v.running ≡ Some goes.may.runs
    still_runs = ap (λ (w : View). w.running) at_claim ∙ goes.may.running

    pub may_claim : MayClaim v
    may_claim = let w : View = add_view goes.may.runs.finish before in subst MayClaim (sym at_claim)
        (let l = goes.may.room in let k : MayClaim w = record { right = ap right_in goes.may.running ∙ goes.may.right; room = omega arith; free = goes.may.free } in k)

module _ {B : Type 0} (field : Field B) (old : IncrementCall) (s t : Share B) (before : View) (goes : IncrementGoes (field_plan field) before old (share_view s)) where
  abbrev p : PlanView
  p = field_plan field

  abbrev r : Running
  r = goes.may.runs

  pub arrived : (new : IncrementCall) (n : ℕ) → old.stage ≡ stage.Arrive → new.stage ≡ stage.Claim n → ArrivesAtRoot field n s t
      → IncrementTurned field before r old new s t turn.More
  arrived new n e f k = let v : share_view s ≡ before = at_arrive p before old (share_view s) goes e in
      let root : n ≡ r.finish = k.root ∙ (ap (λ (w : View). finish_in w.running) v ∙ ap finish_in goes.may.running) in
      let view : share_view t ≡ add_view r.finish before = k.view ∙ (λ j. add_view (root j) (v j)) in record {
        found = k.found;
        step = subst (λ (X : Type 0). X) (λ j. StepUnderRule p
            ((ap (node_place p) root ∙ sym (ap (increment_place p r) e)) j) k.found (sym (ap (λ (x : IncrementStage). increment_writes x k.found) e) j)
            (share_known s) (share_known t)) k.step;
        counted = ap (λ (w : View). w.steps) k.view;
        table = subst (λ (x : IncrementStage). IncrementAnswers (increment_next r x k.found) new.stage turn.More) (sym e)
            (f ∙ ap stage.Claim root, refl);
        comes = (
          record {
            may = goes.may;
            is = view ∙ sym (ap (λ (x : IncrementStage). increment_view r x before) f);
            arrived = subst (HasArrived r) (sym f) root;
          },
          (let a : increment_left new.stage ≡ 1 = ap increment_left f in let b : increment_left old.stage ≡ 2 = ap increment_left e in omega arith),
        );
      }

  pub claimed : (plan : IsPlan p) (flat : p.scheme ≡ Flat) (n handle : ℕ) (grown : Grown) → old.stage ≡ stage.Claim n
      → grown ≡ still_at (inc_in (share_view s).running) → handle < p.moves → ClaimsHandle field handle s t
      → IncrementTurned field before r old old s t (turn.Done record { grown = grown; arrived = n; claimed = handle })
  claimed plan flat n handle grown e still low k = let v = at_claim p before old (share_view s) goes n e in
      let runs : (share_view s).running ≡ Some r = still_runs p before old (share_view s) goes n e in
      let come : n ≡ r.finish = has_come p before old (share_view s) goes n e in
      let grows : grown ≡ still_at r.inc = still ∙ ap (λ (o : Option Running). still_at (inc_in o)) runs in
      let step : StepUnderRule p (increment_place p r old.stage) k.found (increment_writes old.stage k.found) (share_known s) (share_known t) =
      subst (λ (X : Type 0). X) (λ j. StepUnderRule p
      ((ap (λ (o : Option Running). pair_place p (pair_in o)) runs ∙ sym (ap (increment_place p r) e)) j) k.found
      (sym (ap (λ (x : IncrementStage). increment_writes x k.found) e) j) (share_known s) (share_known t)) k.step in
      let inc = inc_is p plan flat (increment_place p r old.stage) k.found (increment_writes old.stage k.found) (share_known s) (share_known t) step r runs in
      record {
        found = k.found;
        step = step;
        counted = ap (λ (m : Me (Option B) View). m.0.steps) k.known;
        table = subst (λ (x : IncrementStage). IncrementAnswers (increment_next r x k.found) old.stage
            (turn.Done record { grown = grown; arrived = n; claimed = handle })) (sym e)
            (λ j. turn.Done record { grown = grows j; arrived = n; claimed = k.next j });
        comes = (
          ap (λ (m : Me (Option B) View). m.0) k.known ∙ ap (claim_after (pair_of k.found)) v,
          come,
          come ∙ sym inc.1,
          low,
        );
      }

-- a share that may increment may arrive at the root of its finish
pub arrives_there : (p : PlanView) (v : View) → MayIncrement p v → (r : Running) → v.running ≡ Some r → MayArrive p r.finish v
arrives_there p v may r is = let same_one : may.runs ≡ r = some_runs may.runs r (sym may.running ∙ is) in
    let root : r.finish < p.moves = subst (λ (x : Running). x.finish < p.moves) same_one may.finish in
    let mine : r.right ≡ 1 = sym (ap (λ (x : Running). x.right) same_one) ∙ may.right in
    let here : right_at r.finish v.running ≡ same r.finish r.finish = ap (right_at r.finish) is ∙ ap (λ (k : ℕ). gate k (same r.finish r.finish)) mine in
    let s = same_self r.finish r.finish refl in record { root = root; adds = record { right = omega arith; room = may.room } }

-- and its arrival is one at that root
pub came : {B : Type 0} (field : Field B) (s t : Share B) (r : Running) → (share_view s).running ≡ Some r → (call new : ArriveCall) (unit : ℕ)
    → ArriveGoes (field_plan field) r.finish (share_view s) call (share_view s)
    → ArriveTurned field r.finish (share_view s) call new s t (arrival.Done unit) → ArrivesAtRoot field unit s t
came field s t r is call new unit goes k = let plan = field_plan field in let at : call.node ≡ unit = goes.asks ∙ sym k.comes.0 in record {
  root = k.comes.0 ∙ sym (ap finish_in is);
  found = k.found;
  step = subst (λ (n : ℕ). StepUnderRule plan (node_place plan n) k.found ((k.found + 2) % 2 ^ 64) (share_known s) (share_known t)) at
      (root_step plan call.node call.stage k.found (share_known s) (share_known t) k.step);
  view = k.comes.1 ∙ ap (λ (n : ℕ). add_view n (share_view s)) (sym k.comes.0);
}
