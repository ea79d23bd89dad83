use Rattle.std.proofs.Common.{ℕ, sym, ◌∙◌}
use Rattle.spd_rule.specs.Rest.{due}
use Rattle.spd_rule.specs.Moves.{less_first}
use Rattle.spd_rule.proofs.Settled.{none_there, first_there}
use Rattle.spd_rule.proofs.field.Field.trade.Goals as goal

pub slot-slot-requires-clause-some : goal.slot-slot-requires-clause-some
slot-slot-requires-clause-some g c e = let share = c.args.share.now in let m = share.mirrors in
    c.requires.holds (none_there share.seat.me.1 (sym m.slots ∙ (share.holds ∙ (sym (λ i. due (m.flight i) (m.running i)) ∙ e))))

pub exchange-requires : goal.exchange-requires
exchange-requires g c = let share = c.args.share.now in let m = share.mirrors in let b = share.beside in let slot : ℕ = c.slot-slot.result in (
  c.requires.of,
  first_there share.seat.me.1 slot (less_first (due b.flight b.running))
      (sym m.slots ∙ (share.holds ∙ (sym (λ i. due (m.flight i) (m.running i)) ∙ c.slot-slot.ensures))),
)
