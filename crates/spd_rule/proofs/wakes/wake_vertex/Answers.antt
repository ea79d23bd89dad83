use Rattle.std.proofs.Common.{◌≡◌, ℕ, ◌+◌, ◌*◌, ◌%◌, ◌^◌, ◌≤◌, Option, sym, subst, arith}
use Rattle.atomic_table.specs.Table.{Allows, Me}
use Rattle.atomic_table.specs.Seated.{TableId}
use Rattle.spd_words.specs.Words.{vertex_of}
use Rattle.spd_state.specs.Steps.{wake_after}
use Rattle.spd_state.specs.declared.view.View.{View}
use Rattle.spd_rule.specs.Kept.{Kept}
use Rattle.spd_rule.specs.Rest.{due}
use Rattle.spd_rule.specs.Beside.{Mirrors}
use Rattle.spd_rule.specs.Steps.{wake_known}
use Rattle.spd_rule.proofs.Counts.{count_few}
use Rattle.spd_rule.proofs.Settled.{mirrors_rest}
use Rattle.spd_rule.proofs.Waking.{wakes, wake_due, mirrors_wake}
use Rattle.spd_rule.proofs.wakes.wake_vertex.Goals as goal

pub add-old-requires-clause-allows : goal.add-old-requires-clause-allows
add-old-requires-clause-allows g c κs within = let share = c.args.share.now in let me = share.seat.me in let plan = c.args.field.now.plan in
    let slots : ℕ = c.args.field.now.table.shared.table_id.slots in
    subst (λ (i : ℕ). Allows (Kept g.B.Body.view plan) slots share.seat.id me i (λ n. (n + 1) % 2 ^ 64)
    (λ n m'. (m' ≡ wake_known c.args.f me) × ((vertex_of n).state ≡ 1) × (m'.0.ready ≤ 2 * plan.moves))) (sym c.vertex_place-word.ensures.place)
    (wakes g.B.Body.view plan slots share.seat.id me c.args.f c.requires.finish c.requires.told c.args.field.now.deep share.mirrors.slots share.holds)

pub wake-requires : goal.wake-requires
wake-requires g c = let share = c.args.share.now in let t = share.mirrors.told in let f = count_few c.args.f share.seat.me.0.told in let h = c.requires.told in
    omega arith

pub invariant_of-share : goal.invariant_of-share
invariant_of-share g c = let share = c.args.share.now in let me = share.seat.me in let f : ℕ = c.args.f in let tells = c.add-old.ensures.tells in
    let after : Me (Option g.row.B.Denot) View = (wake_after f me.0, me.1) in record {
      mirrors = subst (λ (t : TableId). Mirrors t c.add-old.new.seat.me c.wake.new.self) (sym c.add-old.ensures.same.table)
          (subst (λ (m : Me (Option g.row.B.Denot) View). Mirrors share.seat.table_id m c.wake.new.self) (sym tells.0)
          (mirrors_rest share.seat.table_id after c.wake.new.self
          (mirrors_wake share.seat.table_id me share.beside c.wake.new.self share.mirrors f c.requires.told c.wake.ensures)));
      holds = subst (λ (m : Me (Option g.row.B.Denot) View). m.0.slots ≡ due m.0.flight m.0.running) (sym tells.0) (wake_due f me share.holds);
    }
