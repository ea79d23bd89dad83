use Rattle.spd_state.specs.Steps.{stepped}
use Rattle.spd_rule.proofs.Likeness.{same_steps, mirrors_like, like_due}
use Rattle.spd_rule.proofs.Collecting.{looks_at_end}
use Rattle.spd_rule.proofs.ends.see_done.Goals as goal

pub load-requires-clause-allows : goal.load-requires-clause-allows
load-requires-clause-allows g c κs within = let share = c.args.share.now in
    looks_at_end g.B.Body.view c.args.field.now.plan c.args.field.now.table.shared.table_id.slots share.seat.id share.seat.me

pub invariant_of-share : goal.invariant_of-share
invariant_of-share g c = let share = c.args.share.now in let z = share.seat.table_id in let after = c.load.new.seat in
    let same = same_steps share.seat.me.0 in record {
      mirrors = mirrors_like z after.table_id c.load.ensures.same.table share.seat.me after.me share.beside share.mirrors share.holds (stepped share.seat.me.0)
          c.load.ensures.tells same;
      holds = like_due z after.table_id c.load.ensures.same.table share.seat.me after.me share.beside share.mirrors share.holds (stepped share.seat.me.0)
          c.load.ensures.tells same;
    }
