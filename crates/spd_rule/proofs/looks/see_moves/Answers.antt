use Rattle.spd_debts.specs.Payments.{sees_view}
use Rattle.spd_rule.proofs.Likeness.{Mirrored, mirrors_like, like_due}
use Rattle.std.proofs.Common.{refl}
use Rattle.spd_rule.proofs.Looking.{looks_at_moves}
use Rattle.spd_rule.proofs.looks.see_moves.Goals as goal

pub load-requires-clause-allows : goal.load-requires-clause-allows
load-requires-clause-allows g c κs within = let share = c.args.share.now in
    looks_at_moves g.B.Body.view c.args.field.now.plan c.args.field.now.table.shared.table_id.slots share.seat.id share.seat.me c.requires.may.marked

pub invariant_of-share : goal.invariant_of-share
invariant_of-share g c = let share = c.args.share.now in let z = share.seat.table_id in let after = c.load.new.seat in
    let same : Mirrored share.seat.me.0 (sees_view share.seat.me.0) =
    record { running = refl; flight = refl; held = refl; claimed = refl; told = refl; spare = refl; full_draws = refl; seats = refl; starts = refl; slots = refl } in record {
      mirrors = mirrors_like z after.table_id c.load.ensures.same.table share.seat.me after.me share.beside share.mirrors share.holds
          (sees_view share.seat.me.0) c.load.ensures.tells.0 same;
      holds = like_due z after.table_id c.load.ensures.same.table share.seat.me after.me share.beside share.mirrors share.holds
          (sees_view share.seat.me.0) c.load.ensures.tells.0 same;
    }
