use Rattle.std.proofs.Common.{pos, Option, sym, subst}
use Rattle.atomic_table.specs.Table.{Me}
use Rattle.spd_state.specs.declared.view.View.{View}
use Rattle.spd_rule_tests.specs.declared.stub.Stub.{Stub}
use Rattle.spd_rule_tests.specs.Ties.{Ties}
use Rattle.spd_rule_tests.proofs.Paid.{ties_offer, may_pay, wild_not}
use Rattle.spd_rule_tests.proofs.player.Player.raise_best.Goals as goal

pub raise_best-found-requires-clause-may : goal.raise_best-found-requires-clause-may
raise_best-found-requires-clause-may c κs = let self = c.args.self.now in may_pay self.share.seat.me self.notes self.ties c.in_ok-r.r c.in_ok-r.ensures.pays

pub raise_best-found-requires-clause-pays : goal.raise_best-found-requires-clause-pays
raise_best-found-requires-clause-pays c κs z = let self = c.args.self.now in absurd (wild_not self.share.seat.me self.notes self.ties c.in_ok-r.r c.in_ok-r.ensures.pays z)

pub invariant_of-self : goal.invariant_of-self
invariant_of-self c = let self = c.args.self.now in record {
  ties = subst (λ (m : Me (Option Stub) View). Ties m self.notes) (sym c.raise_best-found.ensures.view) (ties_offer self.share.seat.me self.notes self.ties (pos 0));
}
