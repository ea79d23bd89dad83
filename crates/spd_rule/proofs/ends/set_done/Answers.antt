use Rattle.std.proofs.Common.{◌≡◌, ℕ}
use Rattle.spd_words.specs.Plan.{done_place}
use Rattle.spd_rule.specs.Payments.{done_known}
use Rattle.spd_rule.proofs.Ending.{done_blank, ends_region, mirrors_end, end_due}
use Rattle.spd_rule.proofs.Glue.{stores_blank}
use Rattle.spd_rule.proofs.ends.set_done.Goals as goal

pub store-requires-clause-allows : goal.store-requires-clause-allows
store-requires-clause-allows g c κs within = let share = c.args.share.now in let me = share.seat.me in let p = c.args.field.now.plan in
    let slots : ℕ = c.args.field.now.table.shared.table_id.slots in
    stores_blank p share.seat.id me done_place g.B.Body.view slots 1 (λ m'. m' ≡ done_known me)
    (done_blank p share.seat.id me c.requires.may)
    (ends_region g.B.Body.view p slots share.seat.id me c.requires.may c.args.field.now.deep share.mirrors.slots share.holds)

pub invariant_of-share : goal.invariant_of-share
invariant_of-share g c = let share = c.args.share.now in let z = share.seat.table_id in let after = c.store.new.seat in record {
  mirrors = mirrors_end z after.table_id c.store.ensures.same.table share.seat.me after.me share.beside c.end.new.self share.mirrors share.holds c.requires.may
      c.store.ensures.tells.0 c.end.ensures;
  holds = end_due z after.table_id c.store.ensures.same.table share.seat.me after.me share.beside c.end.new.self share.mirrors share.holds c.requires.may
      c.store.ensures.tells.0 c.end.ensures;
}
