use Rattle.std.proofs.Common.{◌≡◌, ℕ, max, refl, sym, subst}
use Rattle.atomic_table.specs.Table.{Allows}
use Rattle.spd_state.specs.declared.view.View.{View}
use Rattle.spd_debts.specs.Payments.{offer_view}
use Rattle.spd_rule.specs.Kept.{Kept}
use Rattle.spd_rule.specs.Payments.{offered_known}
use Rattle.spd_rule.proofs.Likeness.{Mirrored, mirrors_like, like_due}
use Rattle.spd_rule.proofs.Offering.{offers_best}
use Rattle.spd_rule.proofs.payments.raise_best.Goals as goal

pub raise-requires-clause-allows : goal.raise-requires-clause-allows
raise-requires-clause-allows g c κs within = let share = c.args.share.now in let me = share.seat.me in let plan = c.args.field.now.plan in
    let slots : ℕ = c.args.field.now.table.shared.table_id.slots in
    subst (λ (i : ℕ). Allows (Kept g.B.Body.view plan) slots share.seat.id me i (λ n. max n c.args.x) (λ n m'. m' ≡ offered_known g.P.Told.told.promise.gift me))
    (sym c.gift_place-word.ensures.place)
    (offers_best g.B.Body.view plan slots share.seat.id me c.args.d c.requires.finish c.requires.may c.args.x g.P.Told.told.promise.gift c.ranges.x.fits c.requires.pays)

pub invariant_of-share : goal.invariant_of-share
invariant_of-share g c = let share = c.args.share.now in let z = share.seat.table_id in let after = c.raise.new.seat in
    let w : View = offer_view g.P.Told.told.promise.gift share.seat.me.0 in let same : Mirrored share.seat.me.0 w = record { running = refl; flight = refl; held = refl; claimed = refl; told = refl; spare = refl; full_draws = refl; seats = refl; starts = refl; slots = refl } in record {
      mirrors = mirrors_like z after.table_id c.raise.ensures.same.table share.seat.me after.me share.beside share.mirrors share.holds w c.raise.ensures.tells same;
      holds = like_due z after.table_id c.raise.ensures.same.table share.seat.me after.me share.beside share.mirrors share.holds w c.raise.ensures.tells same;
    }
