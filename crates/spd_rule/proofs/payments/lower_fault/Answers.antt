use Rattle.std.proofs.Common.{◌≡◌, ℕ, min, sym, subst}
use Rattle.atomic_table.specs.Table.{Allows}
use Rattle.spd_state.specs.declared.view.View.{View}
use Rattle.spd_debts.specs.Payments.{lower_view}
use Rattle.spd_rule.specs.Kept.{Kept}
use Rattle.spd_rule.specs.Payments.{lowered_known}
use Rattle.spd_rule.proofs.Likeness.{Mirrored, lower_mirrored, mirrors_like, like_due}
use Rattle.spd_rule.proofs.Offering.{lowers_fault}
use Rattle.spd_rule.proofs.payments.lower_fault.Goals as goal

pub lower-requires-clause-allows : goal.lower-requires-clause-allows
lower-requires-clause-allows g c κs within = let share = c.args.share.now in let me = share.seat.me in let plan = c.args.field.now.plan in
    let slots : ℕ = c.args.field.now.table.shared.table_id.slots in
    subst (λ (i : ℕ). Allows (Kept g.B.Body.view plan) slots share.seat.id me i (λ n. min n c.args.code) (λ n m'. m' ≡ lowered_known c.args.code g.P.Told.told.promise.fault me))
    (sym c.fault_place-word.ensures.place)
    (lowers_fault g.B.Body.view plan slots share.seat.id me c.args.d c.requires.finish c.requires.may c.args.code g.P.Told.told.promise.fault c.requires.pays)

pub invariant_of-share : goal.invariant_of-share
invariant_of-share g c = let share = c.args.share.now in let z = share.seat.table_id in let after = c.lower.new.seat in
    let w : View = lower_view c.args.code g.P.Told.told.promise.fault share.seat.me.0 in let same : Mirrored share.seat.me.0 w = lower_mirrored share.seat.me.0 c.args.code g.P.Told.told.promise.fault in record {
      mirrors = mirrors_like z after.table_id c.lower.ensures.same.table share.seat.me after.me share.beside share.mirrors share.holds w c.lower.ensures.tells same;
      holds = like_due z after.table_id c.lower.ensures.same.table share.seat.me after.me share.beside share.mirrors share.holds w c.lower.ensures.tells same;
    }
