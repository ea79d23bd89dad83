use Rattle.std.proofs.Common.{◌≡◌, ℕ, ◌+◌, ◌*◌, ◌∷◌, Option, Some, None, refl, sym, ap, ◌∙◌, subst, arith}
use Rattle.atomic_table.specs.Table.{Me, rest}
use Rattle.spd_words.specs.Plan.{vertex_place}
use Rattle.spd_words.specs.Words.{pack_vertex}
use Rattle.spd_words.specs.Meaning.{Meaning}
use Rattle.spd_state.specs.Stages.{spawn_vertex}
use Rattle.spd_state.specs.declared.view.Running.{Running}
use Rattle.spd_state.specs.declared.view.View.{View}
use Rattle.spd_rule.specs.Held.{StepUnderRule}
use Rattle.spd_rule.specs.Rest.{at_rest}
use Rattle.spd_rule.specs.Moves.{MaySetVertex, vertex_set, IsVertexOf}
use Rattle.spd_dag.specs.declared.spawn.SpawnStage.TheVariants as stage
use Rattle.spd_dag.proofs.Seen.{slot_fits, traded_at, step_of, nothing_taken, same_some}
use Rattle.spd_dag.proofs.Spawning.{stored, spawn_may_right, spawn_over}
use Rattle.spd_dag.proofs.SpawnTurns.{known_at, has_at, drew_at, spawn_done}
use Rattle.spd_dag.proofs.spawn.SpawnCall.store_right.Goals as goal

pub trade-requires-clause-holds : goal.trade-requires-clause-holds
trade-requires-clause-holds g c κs within = let o = c.requires.goes.0 in let h = c.requires.goes.1 in let v = g.B.Body.view in let d : ℕ = c.args.d in
    let me = c.args.share.now.seat.me in let k : Me (Option g.row.B.Denot) View = stored v o h.may d in
    nothing_taken me.1 (2 * d + 1, None) (rest k.1)
    (ap (λ (m : Me (Option g.row.B.Denot) View). m.1) (known_at v c.args.field.now.plan o c.args.self.now me h (stage.Right d) c.requires.stage))

pub set_vertex-requires-clause-numbers : goal.set_vertex-requires-clause-numbers
set_vertex-requires-clause-numbers g c κs within = let o = c.requires.goes.0 in let h = c.requires.goes.1 in let v = g.B.Body.view in let d : ℕ = c.args.d in
    let me = c.args.share.now.seat.me in let old = c.args.self.now in let p = c.args.field.now.plan in
    let r : (record o.runs { right = 0 }) ≡ c.in-Some.r = same_some (record o.runs { right = 0 }) c.in-Some.r me.0.running
    (ap (λ (m : Me (Option g.row.B.Denot) View). m.0.running) (known_at v p o old me h (stage.Right d) c.requires.stage)) (sym c.runs.ensures ∙ c.in-Some.is) in
    let w = drew_at v p o old me h (stage.Right d) c.requires.stage in let l = w.drawn.low in let i = w.drawn.inside in
    subst (λ (x : Running). IsVertexOf p (2 * d + 1) (spawn_vertex d x.finish 1 x.inc)) r
    (record { vertex = omega arith; pair = l; finish = i.2; inc = i.3 })

pub set_vertex-requires-clause-may : goal.set_vertex-requires-clause-may
set_vertex-requires-clause-may g c κs within = let o = c.requires.goes.0 in let h = c.requires.goes.1 in let v = g.B.Body.view in let d : ℕ = c.args.d in
    let me = c.args.share.now.seat.me in let old = c.args.self.now in let p = c.args.field.now.plan in let means : g.row.B.Denot → Meaning = λ b. (v b).means in
    let k : Me (Option g.row.B.Denot) View = stored v o h.may d in let at = known_at v p o old me h (stage.Right d) c.requires.stage in
    let r : (record o.runs { right = 0 }) ≡ c.in-Some.r = same_some (record o.runs { right = 0 }) c.in-Some.r me.0.running
    (ap (λ (m : Me (Option g.row.B.Denot) View). m.0.running) at) (sym c.runs.ensures ∙ c.in-Some.is) in
    let put : c.take.result ≡ Some o.rest = c.take.ensures.value ∙ has_at v p o old me h (stage.Right d) c.requires.stage in let t = c.trade.ensures.traded in
    let e : c.trade.new.share.seat.me ≡ (k.0, (2 * d + 1, c.take.result) ∷ rest k.1) = traded_at k me c.trade.new.share.seat.me (2 * d + 1) t.slot None c.trade.result
    c.take.result (rest k.1) at refl t.before t.after in
    subst (λ (x : Running). MaySetVertex means (2 * d + 1) (spawn_vertex d x.finish 1 x.inc) c.trade.new.share.seat.me) r
    (subst (λ (m : Me (Option g.row.B.Denot) View). MaySetVertex means (2 * d + 1) (spawn_vertex d o.runs.finish 1 o.runs.inc) m)
    (sym (e ∙ (λ i. (k.0, (2 * d + 1, put i) ∷ rest k.1)))) (spawn_may_right v o h.may d))

pub set_vertex-requires-clause-fit : goal.set_vertex-requires-clause-fit
set_vertex-requires-clause-fit g c κs within = let o = c.requires.goes.0 in let h = c.requires.goes.1 in let v = g.B.Body.view in let d : ℕ = c.args.d in
    let me = c.args.share.now.seat.me in let old = c.args.self.now in let p = c.args.field.now.plan in
    let k : Me (Option g.row.B.Denot) View = stored v o h.may d in let at = known_at v p o old me h (stage.Right d) c.requires.stage in
    let put : c.take.result ≡ Some o.rest = c.take.ensures.value ∙ has_at v p o old me h (stage.Right d) c.requires.stage in let t = c.trade.ensures.traded in
    let e : c.trade.new.share.seat.me ≡ (k.0, (2 * d + 1, c.take.result) ∷ rest k.1) = traded_at k me c.trade.new.share.seat.me (2 * d + 1) t.slot None c.trade.result
    c.take.result (rest k.1) at refl t.before t.after in
    slot_fits v c.trade.new.share.seat.me (2 * d + 1) o.rest (rest k.1) (ap (λ (m : Me (Option g.row.B.Denot) View). m.1) (e ∙ (λ i. (k.0, (2 * d + 1, put i) ∷ rest k.1)))) h.may.cuts.fit

pub returns-clause-turned : goal.returns-clause-turned
returns-clause-turned g c = λ o h. let v = g.B.Body.view in let d : ℕ = c.args.d in
    let me = c.args.share.now.seat.me in let old = c.args.self.now in let p = c.args.field.now.plan in
    let k : Me (Option g.row.B.Denot) View = stored v o h.may d in let at = known_at v p o old me h (stage.Right d) c.requires.stage in
    let r : c.in-Some.r ≡ record o.runs { right = 0 } = same_some c.in-Some.r (record o.runs { right = 0 }) me.0.running (sym c.runs.ensures ∙ c.in-Some.is)
    (ap (λ (m : Me (Option g.row.B.Denot) View). m.0.running) at) in
    let t = c.trade.ensures.traded in let m = c.trade.new.share.seat.me in let m' = c.set_vertex.new.share.seat.me in let rule = c.set_vertex.ensures.rule in
    let e : m ≡ (k.0, (2 * d + 1, c.take.result) ∷ rest k.1) = traded_at k me m (2 * d + 1) t.slot None c.trade.result c.take.result (rest k.1) at refl t.before t.after in
    let w = drew_at v p o old me h (stage.Right d) c.requires.stage in let l = w.drawn.low in
    spawn_done v p o old me h (stage.Right d) c.requires.stage (record old { rest = c.take.new.self }) m' d 0
    (step_of p (vertex_place p (2 * d + 1)) 0 (pack_vertex (spawn_vertex d o.runs.finish 1 o.runs.inc)) me m m'
    (sym (ap (λ (n : Me (Option g.row.B.Denot) View). n.0) t.after))
    (subst (λ (x : Running). StepUnderRule p (vertex_place p (2 * d + 1)) 0 (pack_vertex (spawn_vertex d x.finish 1 x.inc)) m m') r rule))
    refl (omega arith)
    (spawn_over v o h.may d p w.drawn m' c.take.result (c.set_vertex.ensures.view ∙ ap (λ (n : Me (Option g.row.B.Denot) View). at_rest (vertex_set n)) e)
    c.set_vertex.ensures.few)
