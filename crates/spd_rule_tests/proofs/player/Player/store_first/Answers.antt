use Rattle.std.proofs.Common.{◌≡◌, Option, Some, subst, ℕ, sym, None}
use Rattle.atomic_table.specs.Table.{Me}
use Rattle.spd_state.specs.declared.view.View.{View}
use Rattle.spd_rule_tests.specs.Ties.{Ties}
use Rattle.spd_rule.specs.Kept.{IsFit}
use Rattle.spd_rule_tests.specs.Stubs.{stub_view}
use Rattle.spd_rule_tests.specs.declared.stub.Stub.{Stub}
use Rattle.spd_rule_tests.proofs.Stored.{traded_fits, traded, ties_first}
use Rattle.spd_rule_tests.proofs.player.Player.store_first.Goals as goal

pub set_vertex-requires-clause-fit : goal.set_vertex-requires-clause-fit
set_vertex-requires-clause-fit c κs = let t = c.trade.ensures.traded in let me = c.args.self.now.share.seat.me in
    traded_fits stub_view me c.trade.new.share.seat.me t.slot (Some c.args.body) t.after
    (λ b e. let k : c.args.body ≡ b = cc in subst (λ (x : Stub). IsFit (stub_view x)) k c.requires.fit)

pub invariant_of-self : goal.invariant_of-self
invariant_of-self c = let self = c.args.self.now in let me = self.share.seat.me in let t = c.trade.ensures.traded in let me1 = c.trade.new.share.seat.me in
    let d : ℕ = c.in_ok-d.d in let ties = traded me me1 self.notes self.ties (Some c.args.body) c.trade.result t.slot t.before t.after in record {
      ties = subst (λ (m : Me (Option Stub) View). Ties m (record self.notes { running = None; flight = None })) (sym c.set_vertex.ensures.view) (ties_first me1 self.notes ties d c.in_ok-d.ensures);
    }
