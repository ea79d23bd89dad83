use Rattle.std.proofs.Common.{◌≡◌, ℕ, ◌*◌, ◌∷◌, Option, Some, None, refl, sym, ap, ◌∙◌, subst, arith}
use Rattle.atomic_table.specs.Table.{Me, rest}
use Rattle.spd_words.specs.Plan.{vertex_place}
use Rattle.spd_words.specs.Words.{pack_vertex}
use Rattle.spd_words.specs.Meaning.{Meaning}
use Rattle.spd_state.specs.Stages.{body_vertex}
use Rattle.spd_state.specs.declared.view.View.{View}
use Rattle.spd_rule.specs.Rest.{at_rest}
use Rattle.spd_rule.specs.Moves.{MaySetVertex, vertex_set}
use Rattle.spd_dag.specs.declared.chain.ChainStage.TheVariants as stage
use Rattle.spd_dag.proofs.Seen.{slot_fits, traded_at, step_of, nothing_taken}
use Rattle.spd_dag.proofs.Chaining.{waiting, chain_may_body, chain_over}
use Rattle.spd_dag.proofs.ChainTurns.{known_at, has_at, drew_at, chain_done}
use Rattle.spd_dag.proofs.chain.ChainCall.store_body.Goals as goal

pub trade-requires-clause-holds : goal.trade-requires-clause-holds
trade-requires-clause-holds g c κs within = let o = c.requires.goes.0 in let h = c.requires.goes.1 in let v = g.B.Body.view in let d : ℕ = c.args.d in
    let me = c.args.share.now.seat.me in let old = c.args.self.now in let k : Me (Option g.row.B.Denot) View = waiting v o old.kind h.may d in
    nothing_taken me.1 (2 * d, None) (rest k.1)
    (ap (λ (m : Me (Option g.row.B.Denot) View). m.1) (known_at v c.args.field.now.plan o old me h (stage.Body d) c.requires.stage))

pub set_vertex-requires-clause-numbers : goal.set_vertex-requires-clause-numbers
set_vertex-requires-clause-numbers g c κs within = let o = c.requires.goes.0 in let h = c.requires.goes.1 in let v = g.B.Body.view in let d : ℕ = c.args.d in
    let w = drew_at v c.args.field.now.plan o c.args.self.now c.args.share.now.seat.me h (stage.Body d) c.requires.stage in let l = w.low in
    record { vertex = omega arith; pair = l; finish = l; inc = omega arith }

pub set_vertex-requires-clause-may : goal.set_vertex-requires-clause-may
set_vertex-requires-clause-may g c κs within = let o = c.requires.goes.0 in let h = c.requires.goes.1 in let v = g.B.Body.view in let d : ℕ = c.args.d in
    let me = c.args.share.now.seat.me in let old = c.args.self.now in let p = c.args.field.now.plan in let means : g.row.B.Denot → Meaning = λ b. (v b).means in
    let k : Me (Option g.row.B.Denot) View = waiting v o old.kind h.may d in let at = known_at v p o old me h (stage.Body d) c.requires.stage in
    let put : c.take.result ≡ Some o.body = c.take.ensures.value ∙ has_at v p o old me h (stage.Body d) c.requires.stage in let t = c.trade.ensures.traded in
    let e : c.trade.new.share.seat.me ≡ (k.0, (2 * d, c.take.result) ∷ rest k.1) = traded_at k me c.trade.new.share.seat.me (2 * d) t.slot None c.trade.result
    c.take.result (rest k.1) at refl t.before t.after in
    subst (λ (m : Me (Option g.row.B.Denot) View). MaySetVertex means (2 * d) (body_vertex d) m) (sym (e ∙ (λ i. (k.0, (2 * d, put i) ∷ rest k.1))))
    (chain_may_body v o old.kind h.may d)

pub set_vertex-requires-clause-fit : goal.set_vertex-requires-clause-fit
set_vertex-requires-clause-fit g c κs within = let o = c.requires.goes.0 in let h = c.requires.goes.1 in let v = g.B.Body.view in let d : ℕ = c.args.d in
    let me = c.args.share.now.seat.me in let old = c.args.self.now in let p = c.args.field.now.plan in
    let k : Me (Option g.row.B.Denot) View = waiting v o old.kind h.may d in let at = known_at v p o old me h (stage.Body d) c.requires.stage in
    let put : c.take.result ≡ Some o.body = c.take.ensures.value ∙ has_at v p o old me h (stage.Body d) c.requires.stage in let t = c.trade.ensures.traded in
    let e : c.trade.new.share.seat.me ≡ (k.0, (2 * d, c.take.result) ∷ rest k.1) = traded_at k me c.trade.new.share.seat.me (2 * d) t.slot None c.trade.result
    c.take.result (rest k.1) at refl t.before t.after in
    slot_fits v c.trade.new.share.seat.me (2 * d) o.body (rest k.1) (ap (λ (m : Me (Option g.row.B.Denot) View). m.1) (e ∙ (λ i. (k.0, (2 * d, put i) ∷ rest k.1)))) h.may.carried

pub returns-clause-turned : goal.returns-clause-turned
returns-clause-turned g c = λ o h. let v = g.B.Body.view in let d : ℕ = c.args.d in
    let me = c.args.share.now.seat.me in let old = c.args.self.now in let p = c.args.field.now.plan in
    let k : Me (Option g.row.B.Denot) View = waiting v o old.kind h.may d in let at = known_at v p o old me h (stage.Body d) c.requires.stage in
    let t = c.trade.ensures.traded in let m = c.trade.new.share.seat.me in let m' = c.set_vertex.new.share.seat.me in let rule = c.set_vertex.ensures.rule in
    let e : m ≡ (k.0, (2 * d, c.take.result) ∷ rest k.1) = traded_at k me m (2 * d) t.slot None c.trade.result c.take.result (rest k.1) at refl t.before t.after in
    let w = drew_at v p o old me h (stage.Body d) c.requires.stage in let l = w.low in
    chain_done v p o old me h (stage.Body d) c.requires.stage (record old { body = c.take.new.self }) m' d 0
    (step_of p (vertex_place p (2 * d)) 0 (pack_vertex (body_vertex d)) me m m' (sym (ap (λ (n : Me (Option g.row.B.Denot) View). n.0) t.after)) rule)
    refl (omega arith)
    (chain_over v o old.kind h.may d p w m' c.take.result (c.set_vertex.ensures.view ∙ ap (λ (n : Me (Option g.row.B.Denot) View). at_rest (vertex_set n)) e) c.set_vertex.ensures.few)
