use Rattle.std.proofs.Common.{Option, Some, sym, subst}
use Rattle.atomic_table.specs.Table.{Me}
use Rattle.spd_words.specs.Words.{pair_of}
use Rattle.spd_state.specs.Dag.{next_handle}
use Rattle.spd_state.specs.declared.view.View.{View}
use Rattle.spd_rule_tests.specs.declared.stub.Stub.{Stub}
use Rattle.spd_rule_tests.specs.declared.notes.Notes.{Notes}
use Rattle.spd_rule_tests.specs.Ties.{Ties}
use Rattle.spd_rule_tests.proofs.Signalled.{ties_claim}
use Rattle.spd_rule_tests.proofs.player.Player.claim.Goals as goal

pub invariant_of-self : goal.invariant_of-self
invariant_of-self c = let self = c.args.self.now in let r = c.in_ok-r.r in record {
  ties = subst (λ (n : Notes). Ties c.claim-found.new.share.seat.me n)
      (λ j. record self.notes { running = Some (record r { right = 0 }); claimed = Some (sym c.handle_of.ensures j) })
      (subst (λ (m : Me (Option Stub) View). Ties m (record self.notes { running = Some (record r { right = 0 }); claimed = Some (next_handle (pair_of c.claim-found.result)) }))
      (sym c.claim-found.ensures.view) (ties_claim self.share.seat.me self.notes self.ties (pair_of c.claim-found.result) r c.in_ok-r.ensures.pays.running));
}
