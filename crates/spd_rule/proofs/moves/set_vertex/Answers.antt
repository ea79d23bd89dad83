use Rattle.std.proofs.Common.{◌≡◌, ◌≤◌, ◌*◌, ℕ, Option, sym, subst}
use Rattle.atomic_table.specs.Table.{Allows, Me}
use Rattle.atomic_table.specs.Seated.{TableId}
use Rattle.spd_words.specs.Meaning.{Meaning}
use Rattle.spd_words.specs.Words.{vertex_with, pack_vertex}
use Rattle.spd_state.specs.declared.view.View.{View}
use Rattle.spd_words.specs.Plan.{vertex_place}
use Rattle.spd_rule.specs.Held.{StepUnderRule}
use Rattle.spd_rule.specs.Kept.{Kept}
use Rattle.spd_rule.specs.Rest.{due, at_rest}
use Rattle.spd_rule.specs.Beside.{Mirrors}
use Rattle.spd_rule.specs.Moves.{vertex_set}
use Rattle.spd_rule.proofs.Glue.{stores_blank}
use Rattle.spd_rule.proofs.Blanks.{vertex_blank}
use Rattle.spd_rule.proofs.Stores.{sets_vertex}
use Rattle.spd_rule.proofs.Stored.{vertex_fits, fits}
use Rattle.spd_rule.proofs.moves.set_vertex.Goals as goal

pub store-requires-clause-allows : goal.store-requires-clause-allows
store-requires-clause-allows g c κs within = let share = c.args.share.now in let me = share.seat.me in let p = c.args.field.now.plan in
    let slots : ℕ = c.args.field.now.table.shared.table_id.slots in
    let x = vertex_with c.args.state c.args.side c.args.pair c.args.finish c.args.inc in let means : g.row.B.Denot → Meaning = λ b. (g.B.Body.view b).means in
    let fit = vertex_fits means p c.args.field.now.lawful share.seat.table_id me share.beside share.mirrors c.args.v x c.requires.numbers c.requires.may in
    subst (λ (w : ℕ). Allows (Kept g.B.Body.view p) slots share.seat.id me c.vertex_place-word.result (λ _. w)
    (λ _ m'. ((m' ≡ at_rest (vertex_set me)) × (m'.0.ready ≤ 2 * p.moves)) × StepUnderRule p c.vertex_place-word.result 0 w me m'))
    (sym c.pack-vertex.ensures.word)
    (subst (λ (i : ℕ). Allows (Kept g.B.Body.view p) slots share.seat.id me i (λ _. pack_vertex x)
    (λ _ m'. ((m' ≡ at_rest (vertex_set me)) × (m'.0.ready ≤ 2 * p.moves)) × StepUnderRule p i 0 (pack_vertex x) me m'))
    (sym c.vertex_place-word.ensures.place)
    (stores_blank p share.seat.id me (vertex_place p c.args.v) g.B.Body.view slots (pack_vertex x)
    (λ m'. (m' ≡ at_rest (vertex_set me)) × (m'.0.ready ≤ 2 * p.moves))
    (vertex_blank p share.seat.id me means c.args.v x c.requires.numbers.vertex c.requires.may)
    (sets_vertex g.B.Body.view p slots share.seat.id me c.args.field.now.deep share.mirrors.slots share.holds c.requires.fit c.args.v x c.requires.numbers.vertex fit c.requires.may)))

pub returns-clause-rule : goal.returns-clause-rule
returns-clause-rule g c = let share = c.args.share.now in let p = c.args.field.now.plan in let after = c.store.new.seat.me in
    let x = vertex_with c.args.state c.args.side c.args.pair c.args.finish c.args.inc in
    subst (λ (i : ℕ). StepUnderRule p i 0 (pack_vertex x) share.seat.me after) c.vertex_place-word.ensures.place
    (subst (λ (w : ℕ). StepUnderRule p c.vertex_place-word.result 0 w share.seat.me after) c.pack-vertex.ensures.word c.store.ensures.tells.1)

pub invariant_of-share : goal.invariant_of-share
invariant_of-share g c = let share = c.args.share.now in let me = share.seat.me in
    let x = vertex_with c.args.state c.args.side c.args.pair c.args.finish c.args.inc in let tells = c.store.ensures.tells.0 in
    let k = fits (λ b. (g.B.Body.view b).means) share.seat.table_id me share.beside c.store-2.new.self share.mirrors share.holds c.store-2.ensures.first c.store-2.ensures.last c.args.v x c.requires.may in record {
      mirrors = subst (λ (z : TableId). Mirrors z c.store.new.seat.me c.store-2.new.self) (sym c.store.ensures.same.table)
          (subst (λ (m : Me (Option g.row.B.Denot) View). Mirrors share.seat.table_id m c.store-2.new.self) (sym tells.0) k.mirrors);
      holds = subst (λ (m : Me (Option g.row.B.Denot) View). m.0.slots ≡ due m.0.flight m.0.running) (sym tells.0) k.holds;
    }
