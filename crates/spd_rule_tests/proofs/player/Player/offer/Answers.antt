use Rattle.std.proofs.Common.{pos, Option, sym, subst}
use Rattle.atomic_table.specs.Table.{Me}
use Rattle.spd_state.specs.declared.view.View.{View}
use Rattle.spd_rule_tests.specs.declared.stub.Stub.{Stub}
use Rattle.spd_rule_tests.specs.Ties.{Ties}
use Rattle.spd_rule_tests.proofs.Paid.{ties_offer, may_offer}
use Rattle.spd_rule_tests.proofs.player.Player.offer.Goals as goal

pub offer-requires-clause-may : goal.offer-requires-clause-may
offer-requires-clause-may c κs = let self = c.args.self.now in
    may_offer self.share.seat.me self.notes self.ties c.in_ok-_running._running c.in_ok-_running.ensures _ _ _

pub invariant_of-self : goal.invariant_of-self
invariant_of-self c = let self = c.args.self.now in record {
  ties = subst (λ (m : Me (Option Stub) View). Ties m self.notes) (sym c.offer.ensures.view) (ties_offer self.share.seat.me self.notes self.ties (pos 0));
}
