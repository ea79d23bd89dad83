use Rattle.std.proofs.Common.{◌≡◌, ℕ, ◌+◌, ◌%◌, ◌^◌, sym, subst, arith}
use Rattle.atomic_table.specs.Table.{Allows}
use Rattle.spd_state.specs.Steps.{add_view}
use Rattle.spd_rule.specs.Held.{StepUnderRule}
use Rattle.spd_rule.specs.Kept.{Kept}
use Rattle.spd_rule.proofs.Likeness.{mirrors_hold, hold_due}
use Rattle.spd_rule.proofs.Found.{root_live}
use Rattle.spd_rule.proofs.Roots.{adds_root}
use Rattle.spd_rule.proofs.Counts.{same_length}
use Rattle.spd_rule.proofs.steps.add_root.Goals as goal

pub add-old-requires-clause-allows : goal.add-old-requires-clause-allows
add-old-requires-clause-allows g c κs within = let share = c.args.share.now in let me = share.seat.me in let plan = c.args.field.now.plan in
    let slots : ℕ = c.args.field.now.table.shared.table_id.slots in
    subst (λ (i : ℕ). Allows (Kept g.B.Body.view plan) slots share.seat.id me i (λ n. (n + 2) % 2 ^ 64) (λ n m'. m' ≡ (add_view c.args.d me.0, me.1)))
    (sym c.node_place-word.ensures.place)
    (adds_root g.B.Body.view plan slots share.seat.id me c.args.d c.requires.root c.requires.may.right c.requires.may.room)

pub hold-requires : goal.hold-requires
hold-requires g c = let share = c.args.share.now in let e = same_length share.beside.units.items share.seat.me.0.held share.mirrors.units in
    let r = c.requires.may.room in omega arith

pub returns-clause-live : goal.returns-clause-live
returns-clause-live g c = let share = c.args.share.now in let p = c.args.field.now.plan in let n : ℕ = c.add-old.result in
    root_live p share.seat.me c.add-old.new.seat.me n ((n + 2) % 2 ^ 64) c.args.d c.requires.root
    (subst (λ (i : ℕ). StepUnderRule p i n ((n + 2) % 2 ^ 64) share.seat.me c.add-old.new.seat.me) c.node_place-word.ensures.place c.add-old.ensures.rule)
    c.requires.may.right

pub invariant_of-share : goal.invariant_of-share
invariant_of-share g c = let share = c.args.share.now in let z = share.seat.table_id in let after = c.add-old.new.seat in record {
  mirrors = mirrors_hold z after.table_id c.add-old.ensures.same.table share.seat.me after.me share.beside c.hold.new.self share.mirrors share.holds c.args.d
      c.add-old.ensures.tells c.hold.ensures;
  holds = hold_due z after.table_id c.add-old.ensures.same.table share.seat.me after.me share.beside c.hold.new.self share.mirrors share.holds c.args.d
      c.add-old.ensures.tells c.hold.ensures;
}
