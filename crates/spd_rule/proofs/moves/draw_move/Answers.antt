use Rattle.std.proofs.Common.{ℕ, subst, sym, ap, ◌∙◌, arith}
use Rattle.atomic_table.specs.Seated.{TableId}
use Rattle.spd_rule.specs.Beside.{Mirrors}
use Rattle.spd_rule.proofs.Mirrors.{mirrors_draw, drawn_due}
use Rattle.spd_rule.proofs.Draws.{draws}
use Rattle.spd_rule.proofs.moves.draw_move.Goals as goal

pub add-old-requires-clause-allows : goal.add-old-requires-clause-allows
add-old-requires-clause-allows g c κs within = let share = c.args.share.now in
    draws g.B.Body.view c.args.field.now.plan c.args.field.now.table.shared.table_id.slots share.seat.id share.seat.me c.args.of g.P.Told.told c.args.field.now.deep c.requires.may share.mirrors.seated

pub invariant_of-share : goal.invariant_of-share
invariant_of-share g c = let share = c.args.share.now in let p = c.args.field.now.plan in let n : ℕ = c.add-old.result in let moves = c.moves.ensures in
    record {
      mirrors = subst (λ (z : TableId). Mirrors z c.add-old.new.seat.me c.draw.new.self) (sym c.add-old.ensures.same.table)
          (mirrors_draw p share.seat.table_id share.seat.me c.add-old.new.seat.me share.beside c.draw.new.self c.args.of g.P.Told.told n share.mirrors
          (ap (λ (z : TableId). z.slots) c.requires.of ∙ c.args.field.now.deep) c.add-old.ensures.tells
          (λ l. c.draw.ensures.drawn (omega arith)) (λ l. c.draw.ensures.full (omega arith)));
      holds = drawn_due p c.args.of g.P.Told.told n share.seat.me c.add-old.new.seat.me c.add-old.ensures.tells c.requires.may.flight share.holds;
    }
