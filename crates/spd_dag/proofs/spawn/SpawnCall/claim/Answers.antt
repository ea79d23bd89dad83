use Rattle.std.proofs.Common.{◌≡◌, ℕ, ◌+◌, ◌%◌, ◌^◌, Option, Some, refl, sym, ap, ◌∙◌, subst, arith}
use Rattle.atomic_table.specs.Table.{Me}
use Rattle.spd_words.specs.Plan.{pair_place}
use Rattle.spd_words.specs.Words.{pair_of}
use Rattle.spd_state.specs.Dag.{next_handle}
use Rattle.spd_state.specs.declared.view.View.{View}
use Rattle.spd_rule.specs.Held.{StepUnderRule}
use Rattle.spd_rule.specs.Steps.{MayClaim, pair_in, claim_known}
use Rattle.spd_dag.specs.declared.spawn.SpawnStage.TheVariants as stage
use Rattle.spd_dag.proofs.Seen.{claims_few, has_claimed, plain_step}
use Rattle.spd_dag.proofs.Spawning.{spawn_may_claim}
use Rattle.spd_dag.proofs.SpawnTurns.{known_at, has_at, drew_at, spawn_more}
use Rattle.spd_dag.proofs.spawn.SpawnCall.claim.Goals as goal

pub claim-pair-requires-clause-may : goal.claim-pair-requires-clause-may
claim-pair-requires-clause-may g c κs within = let o = c.requires.goes.0 in let h = c.requires.goes.1 in let v = g.B.Body.view in
    subst (λ (m : Me (Option g.row.B.Denot) View). MayClaim m.0)
    (sym (known_at v c.args.field.now.plan o c.args.self.now c.args.share.now.seat.me h (stage.Claim c.args.d) c.requires.stage)) (spawn_may_claim v o h.may c.args.d)

pub next_of-requires : goal.next_of-requires
next_of-requires g c = let o = c.requires.goes.0 in let h = c.requires.goes.1 in let p = c.args.field.now.plan in let me = c.args.share.now.seat.me in
    let me' = c.claim-pair.new.share.seat.me in let n : ℕ = c.claim-pair.result in
    let is : me.0.running ≡ Some o.runs = ap (λ (m : Me (Option g.row.B.Denot) View). m.0.running)
    (known_at g.B.Body.view p o c.args.self.now me h (stage.Claim c.args.d) c.requires.stage) in
    claims_few p n ((n + 1) % 2 ^ 64) o.runs me me' (subst (λ (q : ℕ). StepUnderRule p (pair_place p q) n ((n + 1) % 2 ^ 64) me me') (ap pair_in is) c.claim-pair.ensures.rule)
    is h.may.cuts.acts.right

pub returns-clause-turned : goal.returns-clause-turned
returns-clause-turned g c = λ o h. let v = g.B.Body.view in let p = c.args.field.now.plan in let me = c.args.share.now.seat.me in let old = c.args.self.now in
    let d : ℕ = c.args.d in let st = stage.Claim d in
    let me' = c.claim-pair.new.share.seat.me in let n : ℕ = c.claim-pair.result in let next = c.next_of.ensures in
    let at = known_at v p o old me h st c.requires.stage in
    let is : me.0.running ≡ Some o.runs = ap (λ (m : Me (Option g.row.B.Denot) View). m.0.running) at in
    let rule = subst (λ (q : ℕ). StepUnderRule p (pair_place p q) n ((n + 1) % 2 ^ 64) me me') (ap pair_in is) c.claim-pair.ensures.rule in
    spawn_more v p o old me h st c.requires.stage (record old { stage = stage.Pair d c.next_of.result }) me' (stage.Pair d (next_handle (pair_of n)))
    (ap (λ (k : ℕ). stage.Pair d k) next) n (plain_step rule) refl (omega arith)
    (c.claim-pair.ensures.view ∙ ap (claim_known (pair_of n)) at)
    (has_at v p o old me h st c.requires.stage)
    (drew_at v p o old me h st c.requires.stage, (has_claimed p n ((n + 1) % 2 ^ 64) o.runs me me' rule is h.may.cuts.acts.right c.args.field.now.flat).low)
