use Rattle.std.proofs.Common.{Option, Some, None, sym, ◌∙◌, subst}
use Rattle.atomic_table.specs.Table.{Me}
use Rattle.spd_words.specs.Words.{Node, node_of}
use Rattle.spd_state.specs.declared.view.Running.{Running}
use Rattle.spd_state.specs.declared.view.View.{View}
use Rattle.spd_rule_tests.specs.declared.stub.Stub.{Stub}
use Rattle.spd_rule_tests.specs.Ties.{Ties, end_alone}
use Rattle.spd_rule_tests.proofs.Signalled.{may_depart, ties_depart_last, ties_depart}
use Rattle.spd_rule_tests.proofs.player.Player.depart.Goals as goal

pub sub_root-found-requires-clause-may : goal.sub_root-found-requires-clause-may
sub_root-found-requires-clause-may c κs = let self = c.args.self.now in may_depart self.share.seat.me self.notes self.ties c.in_ok-d.d c.in_ok-d.ensures

pub invariant_of-self : goal.invariant_of-self
invariant_of-self c = let self = c.args.self.now in let n : Node = node_of c.sub_root-found.result in record {
  ties = subst (λ (m : Me (Option Stub) View). Ties m (record self.notes { claimed = None; told = Some c.in_ok-d.d })) (sym c.sub_root-found.ensures.view)
      (ties_depart_last self.share.seat.me self.notes self.ties c.in_ok-d.d n c.in_ok-d.ensures (sym c.twice.ensures ∙ c.if-twice-eq2.true));
}

pub invariant_of-self-else-twice-eq2 : goal.invariant_of-self-else-twice-eq2
invariant_of-self-else-twice-eq2 c = let self = c.args.self.now in let n : Node = node_of c.sub_root-found.result in record {
  ties = subst (λ (o : Option Running). Ties c.sub_root-found.new.share.seat.me (record self.notes { claimed = None; running = o }))
      (sym c.unless_end-self.ensures)
      (subst (λ (m : Me (Option Stub) View). Ties m (record self.notes { claimed = None; running = end_alone self.notes.running }))
      (sym c.sub_root-found.ensures.view)
      (ties_depart self.share.seat.me self.notes self.ties c.in_ok-d.d n c.in_ok-d.ensures (λ e. c.if-twice-eq2.false (c.twice.ensures ∙ e))));
}
