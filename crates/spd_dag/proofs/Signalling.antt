-- That a share which signals may take the step of each stage, and what it knows after each.
use Rattle.std.proofs.Common.{◌≡◌, ℕ, ◌+◌, ◌*◌, ◌≤◌, List, [], ◌∷◌, Bool, true, false, cond, not, Option, Some, None, eqb, refl, sym, ap, ◌∙◌, subst, arith}
use Rattle.std.proofs.Common.{eq-eqb}
use Rattle.std.specs.Prelude.{◌&&◌}
use Rattle.atomic_table.specs.Table.{Me}
use Rattle.spd_words.specs.Plan.{PlanView}
use Rattle.spd_words.specs.Words.{Node, Pair}
use Rattle.spd_state.specs.Dag.{next_handle, right_in}
use Rattle.spd_state.specs.Sums.{without}
use Rattle.spd_state.specs.Steps.{claim_after, lose_right, sub_after, lose_view, settle_view, tell_if, keep_if, keep_mark, wake_after}
use Rattle.spd_state.specs.declared.view.View.{View}
use Rattle.spd_state.proofs.Sums.{same_self}
use Rattle.spd_rule.specs.Rest.{at_rest}
use Rattle.spd_rule.specs.Steps.{MayClaim, MaySub, IsTold}
use Rattle.spd_dag.proofs.Seen.{differ_eqb}
use Rattle.spd_dag.specs.Acts.{MaySignal}
use Rattle.spd_dag.specs.Ends.{IsOver, over_view}
use Rattle.spd_dag.specs.Signals.{SignalOrigin, HasClaimed, signal_claimed, signal_told}

without_self : (n : ℕ) → without n (n ∷ []) ≡ []
without_self n = ap (λ (b : Bool). cond b [] (n ∷ [])) (eq-eqb n n refl)

module _ (o : SignalOrigin) (may : MaySignal o.before o.runs) where
  pub signal_may_claim : MayClaim o.before
  signal_may_claim = record {
    right = ap right_in may.acts.running ∙ may.acts.right;
    room = let l = may.acts.room in omega arith;
    free = may.acts.free;
  }

  pub signal_claims : (q : Pair) → claim_after q o.before ≡ signal_claimed o.runs (next_handle q) o.before
  signal_claims q = λ i. record (claim_after q o.before) {
    running = lose_right (may.acts.running i);
    flight = may.acts.flight i;
    held = may.held i;
    told = may.told i;
  }

  module _ (p : PlanView) (n : ℕ) (h : HasClaimed p n o.runs o.before) where
    abbrev pub claimed : View
    claimed = signal_claimed o.runs n o.before

    pub signal_may_sub : MaySub n claimed
    signal_may_sub = record {
      unit = let s = same_self n n refl in omega arith;
      lone = λ _. refl;
      paid = λ _. may.paid;
    }

    -- the view after a departure that found this word
    signal_departs : (x : Node) → sub_after n x claimed ≡ settle_view (lose_view [] [] (tell_if (eqb x.twice 2) n []) claimed)
    signal_departs x = λ i. settle_view (lose_view [] (without_self n i) (tell_if (eqb x.twice 2) n []) claimed)

    -- it was the last unit
    pub signal_tells : (x : Node) → eqb x.twice 2 ≡ true → sub_after n x claimed ≡ signal_told n claimed
    signal_tells x e = signal_departs x ∙ ap (λ (b : Bool). settle_view (lose_view [] [] (tell_if b n []) claimed)) e

    pub signal_told_it : IsTold n (signal_told n claimed)
    signal_told_it = let s = same_self n n refl in omega arith

    -- a view that is settled, by the test whether its vertex is 1
    settled_by : Bool → View → View
    settled_by b v = record v {
      running = keep_if (not (not b && eqb 0 0)) (Some (record o.runs { right = 0 }));
      sunk = keep_mark (not (not b && eqb 0 0)) v.sunk;
    }

    -- it wasn't: the vertex is over
    abbrev pub unwoken : View
    unwoken = record claimed { running = None; claimed = []; sunk = 0; steps = claimed.steps + 1 }

    pub signal_over : (x : Node) → eqb x.twice 2 ≡ false → sub_after n x claimed ≡ unwoken
    unfolding settled_by
    signal_over x e = signal_departs x ∙ (ap (λ (b : Bool). settle_view (lose_view [] [] (tell_if b n []) claimed)) e
        ∙ ap (λ (b : Bool). settled_by b (lose_view [] [] [] claimed)) (differ_eqb o.runs.vertex 1 h.other))

    -- and once what waits is woken
    abbrev pub awake : View
    awake = record (signal_told n claimed) { running = None; told = []; sunk = 0; ready = claimed.ready + 1; steps = claimed.steps + 1 + 1 }

    pub signal_wakes : wake_after n (signal_told n claimed) ≡ awake
    unfolding settled_by
    signal_wakes = (λ i. settle_view (record (signal_told n claimed) { told = without_self n i; ready = claimed.ready + 1; steps = claimed.steps + 1 + 1 }))
        ∙ ap (λ (b : Bool). settled_by b (record (signal_told n claimed) { told = []; ready = claimed.ready + 1; steps = claimed.steps + 1 + 1 }))
        (differ_eqb o.runs.vertex 1 h.other)

    pub unwoken_over : {B : Type 0} (m : Me (Option B) View) (l : List (ℕ × Option B)) → m ≡ at_rest (unwoken, l) → o.before.ready ≤ 2 * p.moves
        → IsOver p o.before m.0 0 2 × (m.1 ≡ [])
    unwoken_over {B} m l e few = let ready : o.before.ready ≡ o.before.ready + 0 = omega arith in let w : View = record unwoken { slots = [] } in
        let is : m.0 ≡ w = ap (λ (k : Me (Option B) View). k.0) e in (
          record {
            view = subst (λ (v : View). v ≡ over_view o.before v 0) (sym is)
                (λ i. record w { flight = sym may.acts.flight i; held = sym may.held i; claimed = sym h.claimed i; told = sym may.told i; ready = ready i });
            most = subst (λ (v : View). v.ready ≤ 2 * p.moves) (sym is) few;
            steps = ap (λ (v : View). v.steps) is ∙ omega arith;
          },
          ap (λ (k : Me (Option B) View). k.1) e,
        )

    pub awake_over : {B : Type 0} (m : Me (Option B) View) (l : List (ℕ × Option B)) → m ≡ at_rest (awake, l) → m.0.ready ≤ 2 * p.moves
        → IsOver p o.before m.0 1 3 × (m.1 ≡ [])
    awake_over {B} m l e few = let w : View = record awake { slots = [] } in
        let is : m.0 ≡ w = ap (λ (k : Me (Option B) View). k.0) e in (
          record {
            view = subst (λ (v : View). v ≡ over_view o.before v 1) (sym is)
                (λ i. record w { flight = sym may.acts.flight i; held = sym may.held i; claimed = sym h.claimed i; told = sym may.told i });
            most = few;
            steps = ap (λ (v : View). v.steps) is ∙ omega arith;
          },
          ap (λ (k : Me (Option B) View). k.1) e,
        )
