use Rattle.std.proofs.Common.{Option, sym, subst}
use Rattle.atomic_table.specs.Table.{Me}
use Rattle.spd_words.specs.Gift.{no_fault}
use Rattle.spd_state.specs.declared.view.View.{View}
use Rattle.spd_rule_tests.specs.declared.notes.Notes.{Notes}
use Rattle.spd_rule_tests.specs.declared.stub.Stub.{Stub}
use Rattle.spd_rule_tests.specs.Notes.{lowered_notes}
use Rattle.spd_rule_tests.specs.Ties.{Ties}
use Rattle.spd_rule_tests.proofs.Paid.{ties_lower, may_pay, wild_not}
use Rattle.spd_rule_tests.proofs.player.Player.lower_fault.Goals as goal

pub lower_fault-found-requires-clause-may : goal.lower_fault-found-requires-clause-may
lower_fault-found-requires-clause-may c κs = let self = c.args.self.now in may_pay self.share.seat.me self.notes self.ties c.in_ok-r.r c.in_ok-r.ensures

pub lower_fault-found-requires-clause-pays : goal.lower_fault-found-requires-clause-pays
lower_fault-found-requires-clause-pays c κs z = let self = c.args.self.now in absurd (wild_not self.share.seat.me self.notes self.ties c.in_ok-r.r c.in_ok-r.ensures z)

pub invariant_of-self : goal.invariant_of-self
invariant_of-self c = let self = c.args.self.now in record {
  ties = subst (λ (n : Notes). Ties c.lower_fault-found.new.share.seat.me n) (sym c.lowered-self.ensures)
      (subst (λ (m : Me (Option Stub) View). Ties m (lowered_notes c.args.code self.notes)) (sym c.lower_fault-found.ensures.view)
      (ties_lower self.share.seat.me self.notes self.ties c.args.code no_fault));
}
