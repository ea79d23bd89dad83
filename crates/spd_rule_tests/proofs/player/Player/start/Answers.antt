use Rattle.std.proofs.Common.{Some, true, sym, subst}
use Rattle.spd_words.specs.Words.{Vertex, vertex_of}
use Rattle.spd_rule_tests.specs.declared.notes.Notes.{Notes}
use Rattle.spd_rule_tests.specs.Ties.{Ties}
use Rattle.atomic_table.specs.Table.{Me}
use Rattle.spd_state.specs.declared.view.View.{View}
use Rattle.spd_rule_tests.specs.Ties.{Ties}
use Rattle.spd_rule_tests.specs.declared.stub.Stub.{Stub}
use Rattle.std.proofs.Common.{Option}
use Rattle.spd_rule_tests.proofs.Signalled.{ties_idle, ties_start}
use Rattle.spd_rule_tests.proofs.player.Player.start.Goals as goal

pub invariant_of-self : goal.invariant_of-self
invariant_of-self c = let self = c.args.self.now in let me = self.share.seat.me in let me1 = c.start_vertex.new.share.seat.me in
    let me2 = c.trade-body.new.share.seat.me in let hit = c.in-Ok.ensures.answer.1 in let t = c.trade-body.ensures.traded in
    let x : Vertex = vertex_of c.args.seen in record {
      ties = subst (λ (n : Notes). Ties me2 n) (λ j. record self.notes {
        running = Some (sym c.started.ensures j);
        wild = sym c.wild_mark-self.ensures j;
        awaits = sym c.wait_mark-self.ensures j;
        waits = sym c.wait_kind-self.ensures j;
        knows = true;
      }) (ties_start me me1 me2 self.notes self.ties c.if-not-rests.ensures c.args.v x hit.body c.trade-body.result t.slot hit.known t.before t.after);
    }

pub invariant_of-self-in-Err-1 : goal.invariant_of-self-in-Err-1
invariant_of-self-in-Err-1 c = let self = c.args.self.now in record {
  ties = subst (λ (m : Me (Option Stub) View). Ties m self.notes) (sym c.in-Err.ensures.answer.1.known) (ties_idle self.share.seat.me self.notes self.ties);
}
