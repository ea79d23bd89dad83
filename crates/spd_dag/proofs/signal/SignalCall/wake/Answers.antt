use Rattle.std.proofs.Common.{ℕ, ◌+◌, ◌*◌, Some, refl, sym, ap, ◌∙◌, subst, arith}
use Rattle.spd_state.specs.Steps.{wake_after}
use Rattle.spd_state.specs.declared.view.View.{View}
use Rattle.spd_rule.specs.Rest.{at_rest}
use Rattle.spd_rule.specs.Steps.{IsTold}
use Rattle.spd_dag.specs.declared.signal.SignalStage.TheVariants as stage
use Rattle.spd_dag.proofs.Signalling.{signal_told_it, signal_wakes, awake_over}
use Rattle.spd_dag.proofs.SignalTurns.{view_at, claimed_of, signal_done}
use Rattle.spd_dag.proofs.signal.SignalCall.wake.Goals as goal

pub wake_vertex-requires-clause-finish : goal.wake_vertex-requires-clause-finish
wake_vertex-requires-clause-finish g c κs within = let o = c.requires.goes.0 in let h = c.requires.goes.1 in
    (claimed_of c.args.field.now.plan o c.args.self.now c.args.share.now.seat.me h (stage.Wake c.args.finish) c.requires.stage).low

pub wake_vertex-requires-clause-told : goal.wake_vertex-requires-clause-told
wake_vertex-requires-clause-told g c κs within = let o = c.requires.goes.0 in let h = c.requires.goes.1 in let p = c.args.field.now.plan in
    let f : ℕ = c.args.finish in let me = c.args.share.now.seat.me in let old = c.args.self.now in
    subst (IsTold f) (sym (view_at p o old me h (stage.Wake f) c.requires.stage))
    (signal_told_it o h.may p f (claimed_of p o old me h (stage.Wake f) c.requires.stage))

pub returns-clause-turned : goal.returns-clause-turned
returns-clause-turned g c = λ o h. let p = c.args.field.now.plan in let me = c.args.share.now.seat.me in let old = c.args.self.now in let f : ℕ = c.args.finish in
    let me' = c.wake_vertex.new.share.seat.me in let st = stage.Wake f in
    let at = view_at p o old me h st c.requires.stage in let k = claimed_of p o old me h st c.requires.stage in let l = k.low in
    let over = awake_over o h.may p f k me' me.1
    (c.wake_vertex.ensures.view ∙ ap (λ (v : View). at_rest (v, me.1)) (ap (wake_after f) at ∙ signal_wakes o h.may p f k)) c.wake_vertex.ensures.few in
    signal_done p o old me h st c.requires.stage old me' c.wake_vertex.result c.wake_vertex.ensures.rule (Some (2 * f + 1)) refl
    (ap (λ (n : ℕ). 2 * n + 1) k.root, omega arith, over.0) over.1
