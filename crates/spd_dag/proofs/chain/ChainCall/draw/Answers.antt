use Rattle.std.proofs.Common.{◌≡◌, ℕ, ◌<◌, ◌≤◌, Bool, cond, Option, refl, sym, ap, ◌∙◌, subst, arith}
use Rattle.std.proofs.lemmas.Bool.{lt-ltb, le-ltb}
use Rattle.atomic_table.specs.Table.{Me}
use Rattle.spd_words.specs.Plan.{PlanView, moves_place}
use Rattle.spd_state.specs.declared.view.Draw.TheVariants.{Chain}
use Rattle.spd_state.specs.declared.view.View.{View}
use Rattle.spd_rule.specs.Held.{StepUnderRule}
use Rattle.spd_dag.specs.Origins.{HasDrawn}
use Rattle.spd_dag.specs.Draws.{MayDrawOrSee, draw_writes, unmoved_known}
use Rattle.spd_dag.specs.ChainStages.{chain_goes, chain_fills}
use Rattle.spd_dag.specs.Chains.{chain_drawn}
use Rattle.spd_dag.specs.declared.chain.ChainStage.TheVariants as stage
use Rattle.spd_dag.proofs.Seen.{has_drawn, same_some, plain_step}
use Rattle.spd_dag.proofs.Chaining.{chain_may_draw}
use Rattle.spd_dag.proofs.ChainTurns.{known_at, has_at, chain_more, chain_full}
use Rattle.spd_dag.proofs.chain.ChainCall.draw.Goals as goal

pub draw_or_see-drawn-requires-clause-may : goal.draw_or_see-drawn-requires-clause-may
draw_or_see-drawn-requires-clause-may g c κs within = let o = c.requires.goes.0 in let h = c.requires.goes.1 in
    subst (λ (m : Me (Option g.row.B.Denot) View). MayDrawOrSee Chain m.0)
    (sym (known_at g.B.Body.view c.args.field.now.plan o c.args.self.now c.args.share.now.seat.me h stage.Draw c.requires.stage))
    (chain_may_draw g.B.Body.view o c.args.self.now.kind h.may)

pub returns-then-drawn-from-clause-turned : goal.returns-then-drawn-from-clause-turned
returns-then-drawn-from-clause-turned g c = λ o h. let v = g.B.Body.view in let p = c.args.field.now.plan in let old = c.args.self.now in
    let me = c.args.share.now.seat.me in let me' = c.draw_or_see-drawn.new.share.seat.me in let d : ℕ = c.draw_or_see-drawn.result in
    let at = known_at v p o old me h stage.Draw c.requires.stage in let rule = c.draw_or_see-drawn.ensures.rule in
    let low : d < p.moves = let a = c.if-drawn-from.true in let b = c.from.ensures in let m = c.moves.ensures in
    let e : c.plan.result.moves ≡ p.moves = ap (λ (q : PlanView). q.moves) c.plan.ensures in omega arith in
    let own = h.may.acts in
    chain_more v p o old me h stage.Draw c.requires.stage (record old { stage = stage.Root d }) me' (stage.Root d) refl refl d
    (plain_step (subst (λ (m : Me (Option g.row.B.Denot) View). StepUnderRule p moves_place d (draw_writes m.0.full_draws d) me me') at rule))
    (ap (λ (b : Bool). cond b (chain_goes (stage.Root d)) (chain_fills d)) (lt-ltb d p.moves low))
    (omega arith) (c.draw_or_see-drawn.ensures.drawn low ∙ ap (chain_drawn d) at)
    (has_at v p o old me h stage.Draw c.requires.stage)
    (subst (λ (m : Me (Option g.row.B.Denot) View). HasDrawn p d o.runs m.0) at
    (has_drawn p moves_place d (draw_writes me.0.full_draws d) me me' rule d o.runs low (ap (λ (m : Me (Option g.row.B.Denot) View). m.0.running) at ∙ own.running)
    own.right (ap (λ (m : Me (Option g.row.B.Denot) View). m.0.flight) at ∙ own.flight)))

pub returns-clause-turned : goal.returns-clause-turned
returns-clause-turned g c = λ o h. let v = g.B.Body.view in let p = c.args.field.now.plan in let old = c.args.self.now in
    let me = c.args.share.now.seat.me in let me' = c.draw_or_see-drawn.new.share.seat.me in let d : ℕ = c.draw_or_see-drawn.result in
    let at = known_at v p o old me h stage.Draw c.requires.stage in let rule = c.draw_or_see-drawn.ensures.rule in
    let least : p.moves ≤ d = let a = c.if-drawn-from.false in let b = c.from.ensures in let m = c.moves.ensures in
    let e : c.plan.result.moves ≡ p.moves = ap (λ (q : PlanView). q.moves) c.plan.ensures in omega arith in
    let has = has_at v p o old me h stage.Draw c.requires.stage in
    chain_full v p o old me h stage.Draw c.requires.stage (record old { body = c.take.new.self; rest = c.take-2.new.self }) me' d c.in-Some.body c.in-Some-take.rest
    (plain_step (subst (λ (m : Me (Option g.row.B.Denot) View). StepUnderRule p moves_place d (draw_writes m.0.full_draws d) me me') at rule))
    (ap (λ (b : Bool). cond b (chain_goes (stage.Root d)) (chain_fills d)) (le-ltb d p.moves least)) least
    (same_some c.in-Some.body o.body c.take.result c.in-Some.is (c.take.ensures.value ∙ has.0))
    (same_some c.in-Some-take.rest o.rest c.take-2.result c.in-Some-take.is (c.take-2.ensures.value ∙ has.1))
    (c.draw_or_see-drawn.ensures.full least ∙ ap unmoved_known at)
