use Rattle.std.proofs.Common.{Option, sym, subst}
use Rattle.atomic_table.specs.Table.{Me}
use Rattle.spd_state.specs.declared.view.View.{View}
use Rattle.spd_rule.specs.Payments.{runs_rest}
use Rattle.spd_rule_tests.specs.declared.stub.Stub.{Stub}
use Rattle.spd_rule_tests.specs.Ties.{Ties}
use Rattle.spd_rule_tests.proofs.Paid.{ties_shown}
use Rattle.spd_rule_tests.proofs.player.Player.see_sum.Goals as goal

pub invariant_of-self : goal.invariant_of-self
invariant_of-self c = let self = c.args.self.now in record {
  ties = subst (λ (m : Me (Option Stub) View). Ties m self.notes) (sym c.see_sum-found.ensures.view)
      (ties_shown self.share.seat.me self.notes self.ties c.see_sum-found.result (runs_rest c.args.d self.share.seat.me.0.running));
}
