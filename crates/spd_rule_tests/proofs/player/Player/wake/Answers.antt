use Rattle.std.proofs.Common.{◌≡◌, ℕ, [], ◌∷◌, Option, None, refl, sym, ap, ◌∙◌, subst, arith}
use Rattle.atomic_table.specs.Table.{Me}
use Rattle.spd_state.specs.Sums.{count}
use Rattle.spd_state.specs.declared.view.Running.{Running}
use Rattle.spd_state.specs.declared.view.View.{View}
use Rattle.spd_state.proofs.Sums.{same_self}
use Rattle.spd_rule_tests.specs.declared.stub.Stub.{Stub}
use Rattle.spd_rule_tests.specs.Ties.{Ties, listed, end_alone}
use Rattle.spd_rule_tests.proofs.Signalled.{ties_wake}
use Rattle.spd_rule_tests.proofs.player.Player.wake.Goals as goal

pub wake_vertex-found-requires-clause-told : goal.wake_vertex-found-requires-clause-told
wake_vertex-found-requires-clause-told c κs = let self = c.args.self.now in let f : ℕ = c.in_ok-f.f in
    let e : count f self.share.seat.me.0.told ≡ count f (f ∷ []) = ap (count f) (self.ties.told ∙ ap listed c.in_ok-f.ensures.told) in
    let s = same_self f f refl in omega arith

pub invariant_of-self : goal.invariant_of-self
invariant_of-self c = let self = c.args.self.now in record {
  ties = subst (λ (o : Option Running). Ties c.wake_vertex-found.new.share.seat.me (record self.notes { told = None; running = o }))
      (sym c.unless_end-self.ensures)
      (subst (λ (m : Me (Option Stub) View). Ties m (record self.notes { told = None; running = end_alone self.notes.running }))
      (sym c.wake_vertex-found.ensures.view)
      (ties_wake self.share.seat.me self.notes self.ties c.in_ok-f.f c.in_ok-f.ensures));
}
