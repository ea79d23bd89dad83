use Rattle.std.proofs.Common.{Option, sym, subst}
use Rattle.atomic_table.specs.Table.{Me}
use Rattle.spd_state.specs.declared.view.View.{View}
use Rattle.spd_rule_tests.specs.declared.notes.Notes.{Notes}
use Rattle.spd_rule_tests.specs.declared.stub.Stub.{Stub}
use Rattle.spd_rule_tests.specs.Notes.{looked_notes}
use Rattle.spd_rule_tests.specs.Ties.{Ties}
use Rattle.spd_rule_tests.proofs.Paid.{ties_collected, may_collect}
use Rattle.spd_rule_tests.proofs.player.Player.collect.Goals as goal

pub collect-collected-requires-clause-may : goal.collect-collected-requires-clause-may
collect-collected-requires-clause-may c κs = let self = c.args.self.now in
    may_collect self.share.seat.me self.notes self.ties c.in_ok-_running._running c.args.d c.args.kind c.in_ok-_running.ensures

pub invariant_of-self : goal.invariant_of-self
invariant_of-self c = let self = c.args.self.now in let s = c.collect-collected.ensures.looks in let d = c.args.d in let k = c.collect-collected.result.fault in record {
  ties = subst (λ (n : Notes). Ties c.collect-collected.new.share.seat.me n) (sym c.looked-self.ensures)
      (subst (λ (m : Me (Option Stub) View). Ties m (looked_notes d k self.notes)) (sym s.known)
      (ties_collected self.share.seat.me self.notes self.ties c.in_ok-_running._running d k s.word c.args.kind c.in_ok-_running.ensures));
}
