use Rattle.std.proofs.Common.{Option, Some, None, sym, subst}
use Rattle.atomic_table.specs.Table.{Me}
use Rattle.spd_state.specs.declared.view.Draw.TheVariants.{Spawn}
use Rattle.spd_state.specs.declared.view.View.{View}
use Rattle.spd_rule.specs.Moves.{flight_with}
use Rattle.spd_rule_tests.specs.declared.stub.Stub.{Stub}
use Rattle.spd_rule_tests.specs.Ties.{Ties}
use Rattle.spd_rule_tests.proofs.Placed.{may_handles, ties_handles}
use Rattle.spd_rule_tests.proofs.player.Player.set_handles.Goals as goal

pub set_pair-requires-clause-may : goal.set_pair-requires-clause-may
set_pair-requires-clause-may c κs = let self = c.args.self.now in may_handles self.share.seat.me self.notes self.ties c.in_ok-d.d c.in_ok-d.finish
    c.in_ok-first.first c.in_ok-first.second c.in_ok-d.ensures c.in_ok-first.ensures

pub invariant_of-self : goal.invariant_of-self
invariant_of-self c = let self = c.args.self.now in record {
  ties = subst (λ (m : Me (Option Stub) View). Ties m
      (record self.notes { flight = Some (flight_with Spawn c.in_ok-d.d c.in_ok-d.finish 2); held = None; claimed = None }))
      (sym c.set_pair.ensures.view) (ties_handles self.share.seat.me self.notes self.ties c.in_ok-d.d c.in_ok-d.finish c.in_ok-first.first c.in_ok-first.second
      c.in_ok-d.ensures c.in_ok-first.ensures);
}
