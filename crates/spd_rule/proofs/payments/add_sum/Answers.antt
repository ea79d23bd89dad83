use Rattle.std.proofs.Common.{◌≡◌, ℕ, ◌+◌, ◌%◌, ◌^◌, refl, sym, subst, ap, ◌∙◌}
use Rattle.std.specs.Int.{w64, cast_unsigned}
use Rattle.std.proofs.lemmas.Int.{to_z-of_z}
use Rattle.spd_words.specs.Plan.{gift_place}
use Rattle.spd_rule.specs.Held.{StepUnderRule}
use Rattle.atomic_table.specs.Table.{Allows}
use Rattle.spd_state.specs.declared.view.View.{View}
use Rattle.spd_debts.specs.Payments.{offer_view}
use Rattle.spd_rule.specs.Kept.{Kept}
use Rattle.spd_rule.specs.Payments.{offered_known}
use Rattle.spd_rule.proofs.Likeness.{Mirrored, mirrors_like, like_due}
use Rattle.spd_rule.proofs.Offering.{offers_sum}
use Rattle.spd_rule.proofs.payments.add_sum.Goals as goal

pub add-requires-clause-allows : goal.add-requires-clause-allows
add-requires-clause-allows g c κs within = let share = c.args.share.now in let me = share.seat.me in let plan = c.args.field.now.plan in
    let slots : ℕ = c.args.field.now.table.shared.table_id.slots in
    subst (λ (u : ℕ). Allows (Kept g.B.Body.view plan) slots share.seat.id me c.gift_place-word.result (λ n. (n + u) % 2 ^ 64)
    (λ n m'. m' ≡ offered_known g.P.Told.told.promise.gift me)) (sym (c.cast_unsigned.ensures ∙ ap (cast_unsigned w64) (to_z-of_z w64 c.args.x c.ranges.x)))
    (subst (λ (i : ℕ). Allows (Kept g.B.Body.view plan) slots share.seat.id me i (λ n. (n + cast_unsigned w64 c.args.x) % 2 ^ 64)
    (λ n m'. m' ≡ offered_known g.P.Told.told.promise.gift me)) (sym c.gift_place-word.ensures.place)
    (offers_sum g.B.Body.view plan slots share.seat.id me c.args.d c.requires.finish c.requires.may c.args.x g.P.Told.told.promise.gift c.ranges.x
    c.requires.pays))

pub returns-clause-rule : goal.returns-clause-rule
returns-clause-rule g c = let share = c.args.share.now in let p = c.args.field.now.plan in let n : ℕ = c.add.result in let after = c.add.new.seat.me in
    subst (λ (u : ℕ). StepUnderRule p (gift_place p c.args.d) n ((n + u) % 2 ^ 64) share.seat.me after)
    (c.cast_unsigned.ensures ∙ ap (cast_unsigned w64) (to_z-of_z w64 c.args.x c.ranges.x))
    (subst (λ (i : ℕ). StepUnderRule p i n ((n + c.cast_unsigned.result) % 2 ^ 64) share.seat.me after) c.gift_place-word.ensures.place c.add.ensures.rule)

pub invariant_of-share : goal.invariant_of-share
invariant_of-share g c = let share = c.args.share.now in let z = share.seat.table_id in let after = c.add.new.seat in
    let w : View = offer_view g.P.Told.told.promise.gift share.seat.me.0 in let same : Mirrored share.seat.me.0 w = record { running = refl; flight = refl; held = refl; claimed = refl; told = refl; spare = refl; full_draws = refl; seats = refl; starts = refl; slots = refl } in record {
      mirrors = mirrors_like z after.table_id c.add.ensures.same.table share.seat.me after.me share.beside share.mirrors share.holds w c.add.ensures.tells same;
      holds = like_due z after.table_id c.add.ensures.same.table share.seat.me after.me share.beside share.mirrors share.holds w c.add.ensures.tells same;
    }
