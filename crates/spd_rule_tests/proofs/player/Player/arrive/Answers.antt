use Rattle.std.proofs.Common.{rules, ℕ, Option, Some, sym, subst}
use Rattle.atomic_table.specs.Table.{Me}
use Rattle.spd_state.specs.declared.view.View.{View}
use Rattle.spd_rule_tests.specs.declared.stub.Stub.{Stub}
use Rattle.spd_rule_tests.specs.Ties.{Ties}
use Rattle.spd_rule_tests.proofs.Signalled.{may_arrive, ties_arrive}
use Rattle.spd_rule_tests.proofs.player.Player.arrive.Goals as goal

pub add_root-found-requires-clause-may : goal.add_root-found-requires-clause-may
add_root-found-requires-clause-may c κs = let self = c.args.self.now in may_arrive self.share.seat.me self.notes self.ties c.in_ok-r.r c.in_ok-r.ensures

pub invariant_of-self : goal.invariant_of-self
invariant_of-self c = let self = c.args.self.now in let d : ℕ = c.in_ok-r.r.finish in record {
  ties = subst (λ (m : Me (Option Stub) View). Ties m (record self.notes { held = Some d })) (sym c.add_root-found.ensures.view)
      (ties_arrive self.share.seat.me self.notes self.ties d (search rules));
}
