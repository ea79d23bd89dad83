use Rattle.std.proofs.Common.{◌≡◌, ℕ, Option, Some, None, sym, ap, ◌∙◌, subst, arith}
use Rattle.atomic_table.specs.Table.{Me}
use Rattle.spd_state.specs.declared.view.Draw.TheVariants.{Make}
use Rattle.spd_state.specs.declared.view.View.{View}
use Rattle.spd_rule.specs.Moves.{flight_with}
use Rattle.spd_rule_tests.specs.declared.stub.Stub.{Stub}
use Rattle.spd_rule_tests.specs.Ties.{Ties}
use Rattle.spd_rule_tests.specs.Stubs.{stub_view}
use Rattle.spd_rule_tests.proofs.Stored.{traded_fits, traded, ties_end}
use Rattle.spd_rule_tests.proofs.player.Player.store_end.Goals as goal

pub invariant_of-self : goal.invariant_of-self
invariant_of-self c = let self = c.args.self.now in let me = self.share.seat.me in let t = c.trade.ensures.traded in let me1 = c.trade.new.share.seat.me in
    let zero : c.in_ok-d.d ≡ 0 = omega arith in record {
      ties = subst (λ (m : Me (Option Stub) View). Ties m (record self.notes { flight = Some (flight_with Make 0 0 3) })) (sym c.set_vertex.ensures.view)
          (ties_end me1 self.notes (traded me me1 self.notes self.ties None c.trade.result t.slot t.before t.after)
          (c.in_ok-d.ensures ∙ ap (λ (d : ℕ). Some (flight_with Make d d 2)) zero));
    }

pub set_vertex-requires-clause-fit : goal.set_vertex-requires-clause-fit
set_vertex-requires-clause-fit c κs = let t = c.trade.ensures.traded in let me = c.args.self.now.share.seat.me in
    traded_fits stub_view me c.trade.new.share.seat.me t.slot None t.after (λ b e. absurd (cc))
