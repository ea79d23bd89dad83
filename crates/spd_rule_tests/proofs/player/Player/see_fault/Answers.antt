use Rattle.std.proofs.Common.{Option, sym, subst}
use Rattle.atomic_table.specs.Table.{Me}
use Rattle.spd_state.specs.declared.view.View.{View}
use Rattle.spd_rule_tests.specs.declared.notes.Notes.{Notes}
use Rattle.spd_rule_tests.specs.declared.stub.Stub.{Stub}
use Rattle.spd_rule_tests.specs.Notes.{looked_notes}
use Rattle.spd_rule_tests.specs.Ties.{Ties}
use Rattle.spd_rule_tests.proofs.Paid.{ties_looked}
use Rattle.spd_rule_tests.proofs.player.Player.see_fault.Goals as goal

pub invariant_of-self : goal.invariant_of-self
invariant_of-self c = let self = c.args.self.now in record {
  ties = subst (λ (n : Notes). Ties c.see_fault-found.new.share.seat.me n) (sym c.looked-self.ensures)
      (subst (λ (m : Me (Option Stub) View). Ties m (looked_notes c.args.d c.see_fault-found.result self.notes)) (sym c.see_fault-found.ensures.view)
      (ties_looked self.share.seat.me self.notes self.ties c.args.d c.see_fault-found.result));
}
