use Rattle.std.proofs.Common.{◌≡◌, ℕ, ◌+◌, ◌%◌, ◌^◌, ◌<◌, Option, refl, sym, ap, ◌∙◌, subst, arith}
use Rattle.atomic_table.specs.Table.{Me}
use Rattle.spd_words.specs.Plan.{node_place}
use Rattle.spd_state.specs.declared.view.Running.{Running}
use Rattle.spd_state.specs.declared.view.View.{View}
use Rattle.spd_rule.specs.Held.{StepUnderRule}
use Rattle.spd_rule.specs.Steps.{MayAdd}
use Rattle.spd_dag.specs.Spawns.{spawn_arrived}
use Rattle.spd_dag.specs.declared.spawn.SpawnStage.TheVariants as stage
use Rattle.spd_dag.proofs.Seen.{same_some, plain_step}
use Rattle.spd_dag.proofs.Spawning.{spawn_may_add}
use Rattle.spd_dag.proofs.SpawnTurns.{known_at, has_at, drew_at, spawn_more}
use Rattle.spd_dag.proofs.spawn.SpawnCall.arrive.Goals as goal

pub add_root-requires-clause-root : goal.add_root-requires-clause-root
add_root-requires-clause-root g c κs within = let o = c.requires.goes.0 in let h = c.requires.goes.1 in let p = c.args.field.now.plan in
    let me = c.args.share.now.seat.me in let old = c.args.self.now in let st = stage.Arrive c.args.d in
    let at = known_at g.B.Body.view p o old me h st c.requires.stage in
    let r : o.runs ≡ c.in-Some.r = same_some o.runs c.in-Some.r me.0.running
    (ap (λ (m : Me (Option g.row.B.Denot) View). m.0.running) at) (sym c.runs.ensures ∙ c.in-Some.is) in
    subst (λ (x : Running). x.inc < p.moves) r (drew_at g.B.Body.view p o old me h st c.requires.stage).flat

pub add_root-requires-clause-may : goal.add_root-requires-clause-may
add_root-requires-clause-may g c κs within = let o = c.requires.goes.0 in let h = c.requires.goes.1 in let p = c.args.field.now.plan in
    let me = c.args.share.now.seat.me in let old = c.args.self.now in let st = stage.Arrive c.args.d in
    let at = known_at g.B.Body.view p o old me h st c.requires.stage in
    let r : o.runs ≡ c.in-Some.r = same_some o.runs c.in-Some.r me.0.running
    (ap (λ (m : Me (Option g.row.B.Denot) View). m.0.running) at) (sym c.runs.ensures ∙ c.in-Some.is) in
    subst (λ (x : Running). MayAdd x.inc me.0) r (subst (λ (m : Me (Option g.row.B.Denot) View). MayAdd o.runs.inc m.0) (sym at)
    (spawn_may_add g.B.Body.view o h.may c.args.d (drew_at g.B.Body.view p o old me h st c.requires.stage).root))

pub returns-clause-turned : goal.returns-clause-turned
returns-clause-turned g c = λ o h. let v = g.B.Body.view in let p = c.args.field.now.plan in
    let me = c.args.share.now.seat.me in let old = c.args.self.now in let d : ℕ = c.args.d in let st = stage.Arrive d in
    let at = known_at v p o old me h st c.requires.stage in
    let r : c.in-Some.r ≡ o.runs = same_some c.in-Some.r o.runs me.0.running (sym c.runs.ensures ∙ c.in-Some.is)
    (ap (λ (m : Me (Option g.row.B.Denot) View). m.0.running) at) in
    let me' = c.add_root.new.share.seat.me in let w : ℕ = c.add_root.result in
    spawn_more v p o old me h st c.requires.stage (record old { stage = stage.Claim d }) me' (stage.Claim d) refl w
    (plain_step (subst (λ (x : Running). StepUnderRule p (node_place p x.inc) w ((w + 2) % 2 ^ 64) me me') r c.add_root.ensures.rule)) refl (omega arith)
    (c.add_root.ensures.view ∙ (ap (λ (x : Running). spawn_arrived x me) r ∙ ap (spawn_arrived o.runs) at))
    (has_at v p o old me h st c.requires.stage) (drew_at v p o old me h st c.requires.stage)
