use Rattle.std.proofs.Common.{◌≡◌, ℕ, ◌+◌, ◌-◌, ◌%◌, ◌^◌, ◌≤◌, ◌*◌, Bool, true, false, cond, eqb, Option, None, refl, sym, ap, ◌∙◌, subst, arith}
use Rattle.atomic_table.specs.Table.{Me}
use Rattle.spd_words.specs.Plan.{PlanView, node_place}
use Rattle.spd_rule.specs.Held.{StepUnderRule}
use Rattle.spd_words.specs.Words.{node_of}
use Rattle.spd_state.specs.Steps.{sub_after}
use Rattle.spd_state.specs.declared.view.View.{View}
use Rattle.spd_rule.specs.Rest.{at_rest}
use Rattle.spd_rule.specs.Steps.{MaySub}
use Rattle.spd_dag.specs.SignalStages.{signal_goes, signal_ends}
use Rattle.spd_dag.specs.declared.signal.SignalStage.TheVariants as stage
use Rattle.spd_dag.proofs.Seen.{ready_shown}
use Rattle.spd_dag.proofs.Signalling.{signal_may_sub, signal_tells, signal_over, unwoken_over}
use Rattle.spd_dag.proofs.SignalTurns.{view_at, claimed_of, signal_more, signal_done}
use Rattle.spd_dag.proofs.signal.SignalCall.depart.Goals as goal

-- the vertices that were ready at the beginning
ready_of : {B : Type 0} (p : PlanView) (n w : ℕ) (me me' : Me (Option B) View)
    → StepUnderRule p (node_place p n) w ((w + (2 ^ 64 - 2)) % 2 ^ 64) me me' → {v : View} → me.0 ≡ v → v.ready ≤ 2 * p.moves
ready_of p n w me me' rule e = subst (λ (u : View). u.ready ≤ 2 * p.moves) e (ready_shown p (node_place p n) w ((w + (2 ^ 64 - 2)) % 2 ^ 64) me me' rule)

pub sub_root-root-requires-clause-root : goal.sub_root-root-requires-clause-root
sub_root-root-requires-clause-root g c κs within = let o = c.requires.goes.0 in let h = c.requires.goes.1 in
    (claimed_of c.args.field.now.plan o c.args.self.now c.args.share.now.seat.me h (stage.Depart c.args.node) c.requires.stage).low

pub sub_root-root-requires-clause-may : goal.sub_root-root-requires-clause-may
sub_root-root-requires-clause-may g c κs within = let o = c.requires.goes.0 in let h = c.requires.goes.1 in let p = c.args.field.now.plan in
    let n : ℕ = c.args.node in let me = c.args.share.now.seat.me in let old = c.args.self.now in
    subst (MaySub n) (sym (view_at p o old me h (stage.Depart n) c.requires.stage))
    (signal_may_sub o h.may p n (claimed_of p o old me h (stage.Depart n) c.requires.stage))

pub returns-then-last-clause-turned : goal.returns-then-last-clause-turned
returns-then-last-clause-turned g c = λ o h. let p = c.args.field.now.plan in let me = c.args.share.now.seat.me in let old = c.args.self.now in
    let n : ℕ = c.args.node in
    let me' = c.sub_root-root.new.share.seat.me in let w : ℕ = c.sub_root-root.result in let st = stage.Depart n in
    let at = view_at p o old me h st c.requires.stage in let k = claimed_of p o old me h st c.requires.stage in
    let e : eqb (node_of w).twice 2 ≡ true = sym c.was_last-last.ensures ∙ c.if-last.true in
    signal_more p o old me h st c.requires.stage (record old { stage = stage.Wake n }) me' w c.sub_root-root.ensures.rule (stage.Wake n) refl
    (ap (λ (b : Bool). cond b (signal_goes (stage.Wake n)) (signal_ends None)) e) (omega arith)
    (ap (λ (m : Me (Option g.row.B.Denot) View). m.0) (c.sub_root-root.ensures.view
    ∙ ap (λ (v : View). at_rest (v, me.1)) (ap (sub_after n (node_of w)) at ∙ signal_tells o h.may p n k (node_of w) e))) k

pub returns-clause-turned : goal.returns-clause-turned
returns-clause-turned g c = λ o h. let p = c.args.field.now.plan in let me = c.args.share.now.seat.me in let old = c.args.self.now in let n : ℕ = c.args.node in
    let me' = c.sub_root-root.new.share.seat.me in let w : ℕ = c.sub_root-root.result in let st = stage.Depart n in
    let at = view_at p o old me h st c.requires.stage in let k = claimed_of p o old me h st c.requires.stage in
    let e : eqb (node_of w).twice 2 ≡ false = sym c.was_last-last.ensures ∙ c.if-last.false in
    let over = unwoken_over o h.may p n k me' me.1
    (c.sub_root-root.ensures.view ∙ ap (λ (v : View). at_rest (v, me.1)) (ap (sub_after n (node_of w)) at ∙ signal_over o h.may p n k (node_of w) e))
    (ready_of p n w me me' c.sub_root-root.ensures.rule at) in
    signal_done p o old me h st c.requires.stage old me' w c.sub_root-root.ensures.rule None
    (ap (λ (b : Bool). cond b (signal_goes (stage.Wake n)) (signal_ends None)) e) over.0 over.1
