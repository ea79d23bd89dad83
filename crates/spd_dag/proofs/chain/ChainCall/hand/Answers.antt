use Rattle.std.proofs.Common.{ℕ, Option, refl, sym, ap, ◌∙◌, subst, arith}
use Rattle.atomic_table.specs.Table.{Me}
use Rattle.spd_words.specs.Plan.{pair_place}
use Rattle.spd_words.specs.Words.{pack_pair, pair_with}
use Rattle.spd_state.specs.declared.view.View.{View}
use Rattle.spd_rule.specs.Held.{StepUnderRule}
use Rattle.spd_rule.specs.Nobody.{nobody}
use Rattle.spd_rule.specs.Moves.{MaySetPair, fresh_pair, pair_kind}
use Rattle.spd_dag.specs.Chains.{chain_handed}
use Rattle.spd_dag.specs.declared.chain.ChainStage.TheVariants as stage
use Rattle.spd_dag.proofs.Seen.{plain_step}
use Rattle.spd_dag.proofs.Chaining.{chain_may_pair}
use Rattle.spd_dag.proofs.ChainTurns.{known_at, has_at, drew_at, chain_more}
use Rattle.spd_dag.proofs.chain.ChainCall.hand.Goals as goal

pub set_pair-requires-clause-numbers : goal.set_pair-requires-clause-numbers
set_pair-requires-clause-numbers g c κs within = let o = c.requires.goes.0 in let h = c.requires.goes.1 in
    let w = drew_at g.B.Body.view c.args.field.now.plan o c.args.self.now c.args.share.now.seat.me h (stage.Pair c.args.d) c.requires.stage in
    let l = w.low in let m = w.plan.moves.some in record { pair = l; first = omega arith; second = omega arith }

pub set_pair-requires-clause-may : goal.set_pair-requires-clause-may
set_pair-requires-clause-may g c κs within = let o = c.requires.goes.0 in let h = c.requires.goes.1 in let d : ℕ = c.args.d in
    subst (λ (k : ℕ). MaySetPair d (fresh_pair 1 k d 0) nobody nobody c.args.share.now.seat.me.0) (sym c.kind_number-kind.ensures)
    (subst (λ (m : Me (Option g.row.B.Denot) View). MaySetPair d (fresh_pair 1 (pair_kind c.args.self.now.kind) d 0) nobody nobody m.0)
    (sym (known_at g.B.Body.view c.args.field.now.plan o c.args.self.now c.args.share.now.seat.me h (stage.Pair d) c.requires.stage))
    (chain_may_pair g.B.Body.view o c.args.self.now.kind h.may d))

pub returns-clause-turned : goal.returns-clause-turned
returns-clause-turned g c = λ o h. let v = g.B.Body.view in let p = c.args.field.now.plan in let d : ℕ = c.args.d in let old = c.args.self.now in
    let me = c.args.share.now.seat.me in let me' = c.set_pair.new.share.seat.me in let rule = c.set_pair.ensures.rule in
    let at = known_at v p o old me h (stage.Pair d) c.requires.stage in
    chain_more v p o old me h (stage.Pair d) c.requires.stage (record old { stage = stage.Rest d }) me' (stage.Rest d) refl refl 0
    (plain_step (subst (λ (k : ℕ). StepUnderRule p (pair_place p d) 0 (pack_pair (pair_with 0 1 k d 0)) me me') c.kind_number-kind.ensures rule))
    refl (omega arith) (c.set_pair.ensures.view ∙ ap chain_handed at) (has_at v p o old me h (stage.Pair d) c.requires.stage)
    (drew_at v p o old me h (stage.Pair d) c.requires.stage)
