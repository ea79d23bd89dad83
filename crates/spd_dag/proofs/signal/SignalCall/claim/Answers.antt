use Rattle.std.proofs.Common.{ℕ, ◌+◌, ◌%◌, ◌^◌, refl, sym, ap, ◌∙◌, subst, arith}
use Rattle.spd_words.specs.Plan.{pair_place}
use Rattle.spd_words.specs.Words.{pair_of}
use Rattle.spd_state.specs.Dag.{next_handle}
use Rattle.spd_state.specs.Steps.{claim_after}
use Rattle.spd_state.specs.declared.view.View.{View}
use Rattle.spd_rule.specs.Held.{StepUnderRule}
use Rattle.spd_rule.specs.Steps.{MayClaim, pair_in}
use Rattle.spd_dag.specs.Signals.{HasClaimed}
use Rattle.spd_dag.specs.declared.signal.SignalStage.TheVariants as stage
use Rattle.spd_dag.proofs.Seen.{claims_few, has_claimed}
use Rattle.spd_dag.proofs.Signalling.{signal_may_claim, signal_claims}
use Rattle.spd_dag.proofs.SignalTurns.{view_at, signal_more}
use Rattle.spd_dag.proofs.signal.SignalCall.claim.Goals as goal

pub claim-pair-requires-clause-may : goal.claim-pair-requires-clause-may
claim-pair-requires-clause-may g c κs within = let o = c.requires.goes.0 in let h = c.requires.goes.1 in
    subst MayClaim (sym (view_at c.args.field.now.plan o c.args.self.now c.args.share.now.seat.me h stage.Claim c.requires.stage)) (signal_may_claim o h.may)

pub next_of-requires : goal.next_of-requires
next_of-requires g c = let o = c.requires.goes.0 in let h = c.requires.goes.1 in let p = c.args.field.now.plan in let me = c.args.share.now.seat.me in
    let me' = c.claim-pair.new.share.seat.me in let n : ℕ = c.claim-pair.result in
    let at = view_at p o c.args.self.now me h stage.Claim c.requires.stage in let is = ap (λ (v : View). v.running) at ∙ h.may.acts.running in
    claims_few p n ((n + 1) % 2 ^ 64) o.runs me me' (subst (λ (q : ℕ). StepUnderRule p (pair_place p q) n ((n + 1) % 2 ^ 64) me me') (ap pair_in is) c.claim-pair.ensures.rule) is h.may.acts.right

pub returns-clause-turned : goal.returns-clause-turned
returns-clause-turned g c = λ o h. let p = c.args.field.now.plan in let me = c.args.share.now.seat.me in let old = c.args.self.now in
    let me' = c.claim-pair.new.share.seat.me in let n : ℕ = c.claim-pair.result in let next = c.next_of.ensures in
    let at = view_at p o old me h stage.Claim c.requires.stage in let is = ap (λ (v : View). v.running) at ∙ h.may.acts.running in
    let rule = subst (λ (q : ℕ). StepUnderRule p (pair_place p q) n ((n + 1) % 2 ^ 64) me me') (ap pair_in is) c.claim-pair.ensures.rule in
    signal_more p o old me h stage.Claim c.requires.stage (record old { stage = stage.Depart c.next_of.result }) me' n rule
    (stage.Depart (next_handle (pair_of n))) (ap (λ (k : ℕ). stage.Depart k) next) refl (omega arith)
    (ap (λ m. m.0) c.claim-pair.ensures.view ∙ (ap (claim_after (pair_of n)) at ∙ signal_claims o h.may (pair_of n)))
    (subst (λ (v : View). HasClaimed p (next_handle (pair_of n)) o.runs v) at (has_claimed p n ((n + 1) % 2 ^ 64) o.runs me me' rule is h.may.acts.right c.args.field.now.flat))
