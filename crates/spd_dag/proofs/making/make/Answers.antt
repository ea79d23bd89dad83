use Rattle.std.proofs.Common.{◌≡◌, ℕ, ◌+◌, ◌%◌, ◌^◌, ◌∷◌, Option, Some, None, refl, sym, ap, ◌∙◌, subst}
use Rattle.atomic_table.specs.Table.{Me, rest}
use Rattle.spd_words.specs.Plan.{moves_place}
use Rattle.spd_words.specs.Meaning.{Meaning}
use Rattle.spd_state.specs.Stages.{end_vertex, body_vertex}
use Rattle.spd_state.specs.declared.view.View.{View}
use Rattle.spd_rule.specs.Nobody.{nobody}
use Rattle.spd_rule.specs.Rest.{at_rest}
use Rattle.spd_rule.specs.Moves.{MaySetRoot, MaySetPair, MaySetVertex, fresh_pair, pair_kind, vertex_set}
use Rattle.spd_dag.proofs.Seen.{slot_fits, slot_empty, traded_at, nothing_taken, unrooted_shown}
use Rattle.spd_dag.proofs.MakeSteps.{handed, waiting, make_drawn, make_opened, make_handed, make_waits, make_may_root, make_may_pair, make_may_end, make_may_body, make_over}
use Rattle.spd_dag.proofs.making.make.Goals as goal

pub set_root-requires-clause-may : goal.set_root-requires-clause-may
set_root-requires-clause-may g c κs within = let means : g.row.B.Denot → Meaning = λ b. (g.B.Body.view b).means in let known = c.args.share.now.seat.me in
    let p = c.args.field.now.plan in let n : ℕ = c.draw_make.result in let body = c.args.body in let may = c.requires.may in let kind = c.args.kind in
    let m₁ = c.draw_make.new.share.seat.me in
    let e₁ = make_drawn means known kind body may p n ((n + 1) % 2 ^ 64) m₁ c.draw_make.ensures.drawn c.draw_make.ensures.rule in
    subst (λ (m : Me (Option g.row.B.Denot) View). MaySetRoot 0 nobody m.0) (sym e₁) (make_may_root means known kind body may)

pub set_pair-requires-clause-may : goal.set_pair-requires-clause-may
set_pair-requires-clause-may g c κs within = let means : g.row.B.Denot → Meaning = λ b. (g.B.Body.view b).means in let known = c.args.share.now.seat.me in
    let p = c.args.field.now.plan in let n : ℕ = c.draw_make.result in let body = c.args.body in let may = c.requires.may in let kind = c.args.kind in
    let m₁ = c.draw_make.new.share.seat.me in
    let e₁ = make_drawn means known kind body may p n ((n + 1) % 2 ^ 64) m₁ c.draw_make.ensures.drawn c.draw_make.ensures.rule in
    let m₂ = c.set_root.new.share.seat.me in let e₂ = make_opened means known kind body may m₁ m₂ e₁ c.set_root.ensures.view in
    subst (λ (x : ℕ). MaySetPair 0 (fresh_pair 1 x 0 0) nobody nobody m₂.0) (sym c.kind_number-number.ensures)
    (subst (λ (m : Me (Option g.row.B.Denot) View). MaySetPair 0 (fresh_pair 1 (pair_kind kind) 0 0) nobody nobody m.0) (sym e₂)
    (make_may_pair means known kind body may))

pub set_vertex-requires-clause-may : goal.set_vertex-requires-clause-may
set_vertex-requires-clause-may g c κs within = let means : g.row.B.Denot → Meaning = λ b. (g.B.Body.view b).means in let known = c.args.share.now.seat.me in
    let p = c.args.field.now.plan in let n : ℕ = c.draw_make.result in let body = c.args.body in let may = c.requires.may in let kind = c.args.kind in
    let m₁ = c.draw_make.new.share.seat.me in
    let e₁ = make_drawn means known kind body may p n ((n + 1) % 2 ^ 64) m₁ c.draw_make.ensures.drawn c.draw_make.ensures.rule in
    let m₂ = c.set_root.new.share.seat.me in let e₂ = make_opened means known kind body may m₁ m₂ e₁ c.set_root.ensures.view in
    let m₃ = c.set_pair.new.share.seat.me in let e₃ = make_handed means known kind body may m₂ m₃ e₂ c.set_pair.ensures.view in
    subst (λ (m : Me (Option g.row.B.Denot) View). MaySetVertex means 1 end_vertex m) (sym e₃) (make_may_end means known kind body may)

pub trade-requires-clause-holds : goal.trade-requires-clause-holds
trade-requires-clause-holds g c κs within = let means : g.row.B.Denot → Meaning = λ b. (g.B.Body.view b).means in let known = c.args.share.now.seat.me in
    let p = c.args.field.now.plan in let n : ℕ = c.draw_make.result in let body = c.args.body in let may = c.requires.may in let kind = c.args.kind in
    let m₁ = c.draw_make.new.share.seat.me in
    let e₁ = make_drawn means known kind body may p n ((n + 1) % 2 ^ 64) m₁ c.draw_make.ensures.drawn c.draw_make.ensures.rule in
    let m₂ = c.set_root.new.share.seat.me in let e₂ = make_opened means known kind body may m₁ m₂ e₁ c.set_root.ensures.view in
    let m₃ = c.set_pair.new.share.seat.me in let e₃ = make_handed means known kind body may m₂ m₃ e₂ c.set_pair.ensures.view in
    let m₄ = c.set_vertex.new.share.seat.me in let e₄ = make_waits means known kind body may m₃ m₄ e₃ c.set_vertex.ensures.view in
    let k : Me (Option g.row.B.Denot) View = waiting means known kind body may in
    nothing_taken m₄.1 (0, None) (rest k.1) (ap (λ (m : Me (Option g.row.B.Denot) View). m.1) e₄)

pub set_vertex-requires-2-clause-may : goal.set_vertex-requires-2-clause-may
set_vertex-requires-2-clause-may g c κs within = let means : g.row.B.Denot → Meaning = λ b. (g.B.Body.view b).means in let known = c.args.share.now.seat.me in
    let p = c.args.field.now.plan in let n : ℕ = c.draw_make.result in let body = c.args.body in let may = c.requires.may in let kind = c.args.kind in
    let m₁ = c.draw_make.new.share.seat.me in
    let e₁ = make_drawn means known kind body may p n ((n + 1) % 2 ^ 64) m₁ c.draw_make.ensures.drawn c.draw_make.ensures.rule in
    let m₂ = c.set_root.new.share.seat.me in let e₂ = make_opened means known kind body may m₁ m₂ e₁ c.set_root.ensures.view in
    let m₃ = c.set_pair.new.share.seat.me in let e₃ = make_handed means known kind body may m₂ m₃ e₂ c.set_pair.ensures.view in
    let m₄ = c.set_vertex.new.share.seat.me in let e₄ = make_waits means known kind body may m₃ m₄ e₃ c.set_vertex.ensures.view in
    let k : Me (Option g.row.B.Denot) View = waiting means known kind body may in
    let m₅ = c.trade.new.share.seat.me in let t = c.trade.ensures.traded in
    let e₅ : m₅ ≡ (k.0, (0, Some body) ∷ rest k.1) = traded_at k m₄ m₅ 0 t.slot None c.trade.result (Some body) (rest k.1) e₄ refl t.before t.after in
    subst (λ (m : Me (Option g.row.B.Denot) View). MaySetVertex means 0 (body_vertex 0) m) (sym e₅) (make_may_body means known kind body may)

pub set_vertex-requires-clause-fit : goal.set_vertex-requires-clause-fit
set_vertex-requires-clause-fit g c κs within = let means : g.row.B.Denot → Meaning = λ b. (g.B.Body.view b).means in let known = c.args.share.now.seat.me in
    let p = c.args.field.now.plan in let n : ℕ = c.draw_make.result in let body = c.args.body in let may = c.requires.may in let kind = c.args.kind in
    let m₁ = c.draw_make.new.share.seat.me in
    let e₁ = make_drawn means known kind body may p n ((n + 1) % 2 ^ 64) m₁ c.draw_make.ensures.drawn c.draw_make.ensures.rule in
    let m₂ = c.set_root.new.share.seat.me in let e₂ = make_opened means known kind body may m₁ m₂ e₁ c.set_root.ensures.view in
    let m₃ = c.set_pair.new.share.seat.me in let e₃ = make_handed means known kind body may m₂ m₃ e₂ c.set_pair.ensures.view in
    slot_empty g.B.Body.view m₃ 1 (rest (handed means known kind body may).1) (ap (λ (m : Me (Option g.row.B.Denot) View). m.1) e₃)

pub set_vertex-requires-2-clause-fit : goal.set_vertex-requires-2-clause-fit
set_vertex-requires-2-clause-fit g c κs within = let means : g.row.B.Denot → Meaning = λ b. (g.B.Body.view b).means in let known = c.args.share.now.seat.me in
    let p = c.args.field.now.plan in let n : ℕ = c.draw_make.result in let body = c.args.body in let may = c.requires.may in let kind = c.args.kind in
    let m₁ = c.draw_make.new.share.seat.me in
    let e₁ = make_drawn means known kind body may p n ((n + 1) % 2 ^ 64) m₁ c.draw_make.ensures.drawn c.draw_make.ensures.rule in
    let m₂ = c.set_root.new.share.seat.me in let e₂ = make_opened means known kind body may m₁ m₂ e₁ c.set_root.ensures.view in
    let m₃ = c.set_pair.new.share.seat.me in let e₃ = make_handed means known kind body may m₂ m₃ e₂ c.set_pair.ensures.view in
    let m₄ = c.set_vertex.new.share.seat.me in let e₄ = make_waits means known kind body may m₃ m₄ e₃ c.set_vertex.ensures.view in
    let k : Me (Option g.row.B.Denot) View = waiting means known kind body may in
    let m₅ = c.trade.new.share.seat.me in let t = c.trade.ensures.traded in
    let e₅ : m₅ ≡ (k.0, (0, Some body) ∷ rest k.1) = traded_at k m₄ m₅ 0 t.slot None c.trade.result (Some body) (rest k.1) e₄ refl t.before t.after in
    slot_fits g.B.Body.view m₅ 0 body (rest k.1) (ap (λ (m : Me (Option g.row.B.Denot) View). m.1) e₅) c.requires.fit

pub returns-clause-made : goal.returns-clause-made
returns-clause-made g c = let means : g.row.B.Denot → Meaning = λ b. (g.B.Body.view b).means in let known = c.args.share.now.seat.me in
    let p = c.args.field.now.plan in let n : ℕ = c.draw_make.result in let body = c.args.body in let may = c.requires.may in let kind = c.args.kind in
    let m₁ = c.draw_make.new.share.seat.me in
    let e₁ = make_drawn means known kind body may p n ((n + 1) % 2 ^ 64) m₁ c.draw_make.ensures.drawn c.draw_make.ensures.rule in
    let m₂ = c.set_root.new.share.seat.me in let e₂ = make_opened means known kind body may m₁ m₂ e₁ c.set_root.ensures.view in
    let m₃ = c.set_pair.new.share.seat.me in let e₃ = make_handed means known kind body may m₂ m₃ e₂ c.set_pair.ensures.view in
    let m₄ = c.set_vertex.new.share.seat.me in let e₄ = make_waits means known kind body may m₃ m₄ e₃ c.set_vertex.ensures.view in
    let k : Me (Option g.row.B.Denot) View = waiting means known kind body may in
    let m₅ = c.trade.new.share.seat.me in let t = c.trade.ensures.traded in
    let e₅ : m₅ ≡ (k.0, (0, Some body) ∷ rest k.1) = traded_at k m₄ m₅ 0 t.slot None c.trade.result (Some body) (rest k.1) e₄ refl t.before t.after in
    make_over means known kind body may p (unrooted_shown p moves_place n ((n + 1) % 2 ^ 64) known m₁ c.draw_make.ensures.rule may.flight)
    c.set_vertex-2.new.share.seat.me (Some body)
    (c.set_vertex-2.ensures.view ∙ ap (λ (m : Me (Option g.row.B.Denot) View). at_rest (vertex_set m)) e₅) c.set_vertex-2.ensures.few
