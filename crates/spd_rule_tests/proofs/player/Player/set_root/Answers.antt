use Rattle.std.proofs.Common.{Option, Some, false, sym, subst}
use Rattle.atomic_table.specs.Table.{Me}
use Rattle.spd_state.specs.declared.view.View.{View}
use Rattle.spd_rule.specs.Moves.{flight_with}
use Rattle.spd_rule_tests.specs.declared.stub.Stub.{Stub}
use Rattle.spd_rule_tests.specs.Ties.{Ties}
use Rattle.spd_rule_tests.proofs.Placed.{ties_root}
use Rattle.spd_rule_tests.proofs.player.Player.set_root.Goals as goal

pub invariant_of-self : goal.invariant_of-self
invariant_of-self c = let self = c.args.self.now in record {
  ties = subst (λ (m : Me (Option Stub) View). Ties m
      (record self.notes { flight = Some (flight_with c.in_ok-draw.draw c.in_ok-draw.d c.in_ok-draw.d 1); rooted = Some c.in_ok-draw.d; knows = false }))
      (sym c.set_root.ensures.view) (ties_root self.share.seat.me self.notes self.ties c.in_ok-draw.draw c.in_ok-draw.d c.in_ok-draw.ensures);
}
