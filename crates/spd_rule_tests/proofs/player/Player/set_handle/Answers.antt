use Rattle.std.proofs.Common.{Option, Some, None, sym, subst}
use Rattle.atomic_table.specs.Table.{Me}
use Rattle.spd_state.specs.declared.view.View.{View}
use Rattle.spd_rule.specs.Moves.{flight_with}
use Rattle.spd_rule_tests.specs.declared.stub.Stub.{Stub}
use Rattle.spd_rule_tests.specs.Ties.{Ties}
use Rattle.spd_rule_tests.proofs.Placed.{ties_handle}
use Rattle.spd_rule_tests.proofs.player.Player.set_handle.Goals as goal

pub invariant_of-self : goal.invariant_of-self
invariant_of-self c = let self = c.args.self.now in record {
  ties = subst (λ (m : Me (Option Stub) View). Ties m
      (record self.notes { flight = Some (flight_with c.in_ok-draw.draw c.in_ok-draw.d c.in_ok-draw.d 2); rooted = None }))
      (sym c.set_pair.ensures.view) (ties_handle self.share.seat.me self.notes self.ties c.in_ok-draw.draw c.in_ok-draw.d c.in_ok-draw.ensures);
}
