use Rattle.std.proofs.Common.{Option, None, sym, subst}
use Rattle.atomic_table.specs.Table.{Me}
use Rattle.spd_state.specs.declared.view.View.{View}
use Rattle.spd_rule_tests.specs.declared.stub.Stub.{Stub}
use Rattle.spd_rule_tests.specs.Ties.{Ties}
use Rattle.spd_rule_tests.proofs.Paid.{may_end, ties_ended}
use Rattle.spd_rule_tests.proofs.player.Player.set_done.Goals as goal

pub set_done-requires-clause-may : goal.set_done-requires-clause-may
set_done-requires-clause-may c κs = let self = c.args.self.now in may_end self.share.seat.me self.notes self.ties c.in_ok-end.end c.in_ok-end.ensures

pub invariant_of-self : goal.invariant_of-self
invariant_of-self c = let self = c.args.self.now in record {
  ties = subst (λ (m : Me (Option Stub) View). Ties m (record self.notes { running = None })) (sym c.set_done.ensures.view)
      (ties_ended self.share.seat.me self.notes self.ties c.in_ok-end.end c.in_ok-end.ensures);
}
