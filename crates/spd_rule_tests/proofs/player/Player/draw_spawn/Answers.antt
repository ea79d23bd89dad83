use Rattle.std.proofs.Common.{◌<◌, ℕ, Option, Some, sym, ap, subst, arith}
use Rattle.atomic_table.specs.Table.{Me}
use Rattle.spd_state.specs.declared.view.View.{View}
use Rattle.spd_words.specs.Plan.{PlanView}
use Rattle.spd_rule.specs.Moves.{flight_with}
use Rattle.spd_state.specs.declared.view.Draw.TheVariants.{Spawn}
use Rattle.spd_rule_tests.specs.declared.stub.Stub.{Stub}
use Rattle.spd_rule_tests.specs.Ties.{Ties}
use Rattle.spd_rule_tests.proofs.Drawn.{ties_spawn, ties_full}
use Rattle.spd_rule_tests.proofs.player.Player.draw_spawn.Goals as goal

pub invariant_of-self : goal.invariant_of-self
invariant_of-self c = let self = c.args.self.now in let me = self.share.seat.me in let k : ℕ = c.draw_move-found.result in
    let room : k < c.args.field.now.plan.moves = let a = c.if-found-from.true in let b = c.moves.ensures in let d = c.from.ensures in
    let e = ap (λ (x : PlanView). x.moves) c.plan.ensures in omega arith in
    record {
      ties = subst (λ (m : Me (Option Stub) View). Ties m (record self.notes { flight = Some (flight_with Spawn k c.in_ok-running.running.finish 0) }))
          (sym (c.draw_move-found.ensures.drawn.drawn room)) (ties_spawn me self.notes self.ties k c.in_ok-running.running
          c.in_ok-running.ensures.flight c.in_ok-running.ensures.works.pays.running);
    }

pub invariant_of-self-else-found-from : goal.invariant_of-self-else-found-from
invariant_of-self-else-found-from c = let self = c.args.self.now in let me = self.share.seat.me in record {
  ties = subst (λ (m : Me (Option Stub) View). Ties m (record self.notes { full = 1 }))
      (sym (c.draw_move-found.ensures.drawn.full (let a = c.if-found-from.false in let b = c.moves.ensures in let d = c.from.ensures in
      let e = ap (λ (x : PlanView). x.moves) c.plan.ensures in omega arith)))
      (ties_full me self.notes self.ties c.in_ok-running.ensures.unmarked);
}
