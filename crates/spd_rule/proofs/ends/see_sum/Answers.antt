use Rattle.std.proofs.Common.{◌≡◌, ℕ, sym, subst}
use Rattle.atomic_table.specs.Table.{Allows}
use Rattle.spd_state.specs.declared.view.View.{View}
use Rattle.spd_rule.specs.Kept.{Kept}
use Rattle.spd_rule.specs.Payments.{runs_rest, shown_known}
use Rattle.spd_rule.proofs.Likeness.{shown_mirrored, mirrors_like, like_due}
use Rattle.spd_rule.proofs.Collecting.{looks_at_sum}
use Rattle.spd_rule.proofs.ends.see_sum.Goals as goal

pub load-requires-clause-allows : goal.load-requires-clause-allows
load-requires-clause-allows g c κs within = let share = c.args.share.now in let me = share.seat.me in let plan = c.args.field.now.plan in
    let slots : ℕ = c.args.field.now.table.shared.table_id.slots in
    subst (λ (i : ℕ). Allows (Kept g.B.Body.view plan) slots share.seat.id me i (λ n. n) (λ n m'. m' ≡ shown_known c.args.d n me))
    (sym c.gift_place-word.ensures.place) (looks_at_sum g.B.Body.view plan slots share.seat.id me c.args.d c.requires.finish)

pub invariant_of-share : goal.invariant_of-share
invariant_of-share g c = let share = c.args.share.now in let z = share.seat.table_id in let after = c.load.new.seat in
    let w : View = (shown_known c.args.d c.load.result share.seat.me).0 in let same = shown_mirrored share.seat.me.0 c.load.result (runs_rest c.args.d share.seat.me.0.running) in record {
      mirrors = mirrors_like z after.table_id c.load.ensures.same.table share.seat.me after.me share.beside share.mirrors share.holds w c.load.ensures.tells same;
      holds = like_due z after.table_id c.load.ensures.same.table share.seat.me after.me share.beside share.mirrors share.holds w c.load.ensures.tells same;
    }
