use Rattle.std.proofs.Common.{Option, sym, subst}
use Rattle.atomic_table.specs.Table.{Me}
use Rattle.spd_words.specs.Words.{Vertex, vertex_of}
use Rattle.spd_state.specs.declared.view.View.{View}
use Rattle.spd_rule_tests.specs.declared.stub.Stub.{Stub}
use Rattle.spd_rule_tests.specs.Ties.{Ties}
use Rattle.spd_rule_tests.proofs.Signalled.{ties_see}
use Rattle.spd_rule_tests.proofs.player.Player.see.Goals as goal

pub invariant_of-self : goal.invariant_of-self
invariant_of-self c = let self = c.args.self.now in let x : Vertex = vertex_of c.see_vertex.result in record {
  ties = subst (λ (m : Me (Option Stub) View). Ties m self.notes) (sym c.see_vertex.ensures.view)
      (ties_see self.share.seat.me self.notes self.ties c.args.v x);
}
