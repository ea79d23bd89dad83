use Rattle.std.proofs.Common.{◌≡◌, ℕ, Option, refl, sym, ap, ◌∙◌, subst, arith}
use Rattle.atomic_table.specs.Table.{Me}
use Rattle.spd_state.specs.declared.view.View.{View}
use Rattle.spd_rule.specs.Moves.{MaySetRoot}
use Rattle.spd_dag.specs.Chains.{chain_opened}
use Rattle.spd_dag.specs.declared.chain.ChainStage.TheVariants as stage
use Rattle.spd_dag.proofs.Seen.{same_some, plain_step}
use Rattle.spd_dag.proofs.Chaining.{chain_may_root}
use Rattle.spd_dag.proofs.ChainTurns.{known_at, has_at, drew_at, chain_more}
use Rattle.spd_dag.proofs.chain.ChainCall.open.Goals as goal

pub set_root_of-requires-clause-may : goal.set_root_of-requires-clause-may
set_root_of-requires-clause-may g c κs within = let o = c.requires.goes.0 in let h = c.requires.goes.1 in let d : ℕ = c.args.d in
    let v = g.B.Body.view in let old = c.args.self.now in let me = c.args.share.now.seat.me in
    let has = has_at v c.args.field.now.plan o old me h (stage.Root d) c.requires.stage in
    let body : o.body ≡ c.in-Some.body = same_some o.body c.in-Some.body old.body has.0 c.in-Some.is in
    subst (λ (b : g.row.B.Denot). MaySetRoot d (v b).means me.0) body (subst (λ (m : Me (Option g.row.B.Denot) View). MaySetRoot d (v o.body).means m.0)
    (sym (known_at v c.args.field.now.plan o old me h (stage.Root d) c.requires.stage)) (chain_may_root v o old.kind h.may d))

pub returns-clause-turned : goal.returns-clause-turned
returns-clause-turned g c = λ o h. let v = g.B.Body.view in let p = c.args.field.now.plan in let d : ℕ = c.args.d in let old = c.args.self.now in
    let me = c.args.share.now.seat.me in let me' = c.set_root_of.new.share.seat.me in let rule = c.set_root_of.ensures.rule in
    let at = known_at v p o old me h (stage.Root d) c.requires.stage in let has = has_at v p o old me h (stage.Root d) c.requires.stage in
    let body : c.in-Some.body ≡ o.body = same_some c.in-Some.body o.body old.body c.in-Some.is has.0 in
    chain_more v p o old me h (stage.Root d) c.requires.stage (record old { stage = stage.Pair d }) me' (stage.Pair d) refl refl 0 (plain_step rule)
    refl (omega arith)
    (c.set_root_of.ensures.view ∙ (ap (λ (b : g.row.B.Denot). chain_opened d (v b).means me) body ∙ ap (chain_opened d (v o.body).means) at))
    has (drew_at v p o old me h (stage.Root d) c.requires.stage)
