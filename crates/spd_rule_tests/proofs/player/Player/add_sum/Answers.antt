use Rattle.std.proofs.Common.{pos, Option, sym, subst}
use Rattle.atomic_table.specs.Table.{Me}
use Rattle.spd_state.specs.declared.view.View.{View}
use Rattle.spd_rule_tests.specs.declared.stub.Stub.{Stub}
use Rattle.spd_rule_tests.specs.Ties.{Ties}
use Rattle.spd_rule_tests.proofs.Paid.{ties_offer, may_pay, wild_not}
use Rattle.spd_rule_tests.proofs.player.Player.add_sum.Goals as goal

pub add_sum-found-requires-clause-may : goal.add_sum-found-requires-clause-may
add_sum-found-requires-clause-may c κs = let self = c.args.self.now in may_pay self.share.seat.me self.notes self.ties c.in_ok-r.r c.in_ok-r.ensures.pays

pub add_sum-found-requires-clause-pays : goal.add_sum-found-requires-clause-pays
add_sum-found-requires-clause-pays c κs z = let self = c.args.self.now in absurd (wild_not self.share.seat.me self.notes self.ties c.in_ok-r.r c.in_ok-r.ensures.pays z)

pub invariant_of-self : goal.invariant_of-self
invariant_of-self c = let self = c.args.self.now in record {
  ties = subst (λ (m : Me (Option Stub) View). Ties m self.notes) (sym c.add_sum-found.ensures.view) (ties_offer self.share.seat.me self.notes self.ties (pos 0));
}
