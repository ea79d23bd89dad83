use Rattle.std.proofs.Common.{◌≡◌, ℕ, ◌<◌, ◌≤◌, Bool, cond, Option, refl, sym, ap, ◌∙◌, subst, arith}
use Rattle.std.proofs.lemmas.Bool.{lt-ltb, le-ltb}
use Rattle.atomic_table.specs.Table.{Me}
use Rattle.spd_words.specs.Plan.{PlanView, moves_place}
use Rattle.spd_state.specs.declared.view.Draw.TheVariants.{Spawn}
use Rattle.spd_state.specs.declared.view.View.{View}
use Rattle.spd_rule.specs.Held.{StepUnderRule}
use Rattle.spd_dag.specs.Origins.{HasDrawn}
use Rattle.spd_dag.specs.Draws.{MayDrawOrSee, draw_writes, unmoved_known}
use Rattle.spd_dag.specs.SpawnStages.{spawn_goes, spawn_fills}
use Rattle.spd_rule.specs.Nobody.{nobody}
use Rattle.spd_rule.specs.Steps.{drawn_known}
use Rattle.spd_dag.specs.declared.spawn.SpawnStage.TheVariants as stage
use Rattle.spd_dag.proofs.Seen.{has_drawn, inc_shown, drew_spawn, same_some, plain_step}
use Rattle.spd_dag.proofs.Spawning.{spawn_may_draw, spawn_draws}
use Rattle.spd_dag.proofs.SpawnTurns.{known_at, has_at, spawn_more, spawn_full}
use Rattle.spd_dag.proofs.spawn.SpawnCall.draw.Goals as goal

pub draw_or_see-drawn-requires-clause-may : goal.draw_or_see-drawn-requires-clause-may
draw_or_see-drawn-requires-clause-may g c κs within = let o = c.requires.goes.0 in let h = c.requires.goes.1 in
    subst (λ (m : Me (Option g.row.B.Denot) View). MayDrawOrSee Spawn m.0)
    (sym (known_at g.B.Body.view c.args.field.now.plan o c.args.self.now c.args.share.now.seat.me h stage.Draw c.requires.stage))
    (spawn_may_draw g.B.Body.view o h.may)

pub returns-then-drawn-from-clause-turned : goal.returns-then-drawn-from-clause-turned
returns-then-drawn-from-clause-turned g c = λ o h. let v = g.B.Body.view in let p = c.args.field.now.plan in let old = c.args.self.now in
    let me = c.args.share.now.seat.me in let me' = c.draw_or_see-drawn.new.share.seat.me in let d : ℕ = c.draw_or_see-drawn.result in
    let at = known_at v p o old me h stage.Draw c.requires.stage in let rule = c.draw_or_see-drawn.ensures.rule in
    let low : d < p.moves = let a = c.if-drawn-from.true in let b = c.from.ensures in let m = c.moves.ensures in
    let e : c.plan.result.moves ≡ p.moves = ap (λ (q : PlanView). q.moves) c.plan.ensures in omega arith in
    let own = h.may.cuts.acts in let is = ap (λ (m : Me (Option g.row.B.Denot) View). m.0.running) at ∙ own.running in
    spawn_more v p o old me h stage.Draw c.requires.stage (record old { stage = stage.Arrive d }) me' (stage.Arrive d) refl d
    (plain_step (subst (λ (m : Me (Option g.row.B.Denot) View). StepUnderRule p moves_place d (draw_writes m.0.full_draws d) me me') at rule))
    (ap (λ (b : Bool). cond b (spawn_goes (stage.Arrive d)) (spawn_fills d)) (lt-ltb d p.moves low))
    (omega arith) (c.draw_or_see-drawn.ensures.drawn low ∙ (ap (drawn_known Spawn d nobody) at ∙ spawn_draws v o h.may d))
    (has_at v p o old me h stage.Draw c.requires.stage)
    (drew_spawn p d o.runs o.known.0 c.args.field.now.flat
    (subst (λ (m : Me (Option g.row.B.Denot) View). HasDrawn p d o.runs m.0) at
    (has_drawn p moves_place d (draw_writes me.0.full_draws d) me me' rule d o.runs low is own.right (ap (λ (m : Me (Option g.row.B.Denot) View). m.0.flight) at ∙ own.flight)))
    (inc_shown p moves_place d (draw_writes me.0.full_draws d) me me' rule o.runs is c.args.field.now.flat))

pub returns-clause-turned : goal.returns-clause-turned
returns-clause-turned g c = λ o h. let v = g.B.Body.view in let p = c.args.field.now.plan in let old = c.args.self.now in
    let me = c.args.share.now.seat.me in let me' = c.draw_or_see-drawn.new.share.seat.me in let d : ℕ = c.draw_or_see-drawn.result in
    let at = known_at v p o old me h stage.Draw c.requires.stage in let rule = c.draw_or_see-drawn.ensures.rule in
    let least : p.moves ≤ d = let a = c.if-drawn-from.false in let b = c.from.ensures in let m = c.moves.ensures in
    let e : c.plan.result.moves ≡ p.moves = ap (λ (q : PlanView). q.moves) c.plan.ensures in omega arith in
    let has = has_at v p o old me h stage.Draw c.requires.stage in
    spawn_full v p o old me h stage.Draw c.requires.stage (record old { body = c.take.new.self; rest = c.take-2.new.self }) me' d c.in-Some.body c.in-Some-take.rest
    (plain_step (subst (λ (m : Me (Option g.row.B.Denot) View). StepUnderRule p moves_place d (draw_writes m.0.full_draws d) me me') at rule))
    (ap (λ (b : Bool). cond b (spawn_goes (stage.Arrive d)) (spawn_fills d)) (le-ltb d p.moves least)) least
    (same_some c.in-Some.body o.body c.take.result c.in-Some.is (c.take.ensures.value ∙ has.0))
    (same_some c.in-Some-take.rest o.rest c.take-2.result c.in-Some-take.is (c.take-2.ensures.value ∙ has.1))
    (c.draw_or_see-drawn.ensures.full least ∙ ap unmoved_known at)
