use Rattle.std.proofs.Common.{◌≡◌, ◌<◌, Option, sym, subst, arith, ◌∙◌}
use Rattle.atomic_table.specs.Table.{Joins, Me}
use Rattle.atomic_table.specs.Seated.{TableId}
use Rattle.spd_words.specs.Plan.{PlanView}
use Rattle.spd_state.specs.Seats.{joined_view, spent_view}
use Rattle.spd_state.specs.declared.view.View.{View}
use Rattle.spd_rule.specs.Beside.{Mirrors}
use Rattle.spd_rule.specs.Kept.{Kept}
use Rattle.spd_rule.specs.Rest.{due}
use Rattle.spd_rule.proofs.Settled.{none_there}
use Rattle.spd_rule.proofs.Begins.{joins}
use Rattle.spd_rule.proofs.Joining.{mirrors_join}
use Rattle.spd_rule.proofs.field.Field.join.Goals as goal

pub join_seat-requires : goal.join_seat-requires
join_seat-requires g c = let seat = c.args.share.now.seat in let other = c.args.other.seat in let wide = c.args.self.now.wide in (
  c.requires.of,
  c.requires.other,
  none_there other.me.1 (sym c.args.other.mirrors.slots ∙ c.requires.empty.slots),
  (let e : 0 < c.args.self.now.table.shared.table_id.words = omega arith in e),
  subst (λ (p : PlanView). Joins (Kept g.B.Body.view p) seat.id seat.me.0 other.id other.me.0 (joined_view seat.me.0 other.me.0) spent_view) (sym c.args.self.now.keyed)
      (joins g.B.Body.view c.args.self.now.plan seat.id seat.me.0 other.id other.me.0 c.requires.empty),
)

pub invariant_of-share : goal.invariant_of-share
invariant_of-share g c = let share = c.args.share.now in let other = c.args.other in let z : TableId = share.seat.table_id in
    let after = c.join_seat.new.seat in let made = c.join_seat.ensures in let b' = c.join.new.self in
    let theirs : Mirrors z other.seat.me other.beside = subst (λ (t : TableId). Mirrors t other.seat.me other.beside)
    (c.requires.other ∙ sym c.requires.of) other.mirrors in record {
      mirrors = subst (λ (t : TableId). Mirrors t after.me b') (sym made.0)
          (subst (λ (m : Me (Option g.row.B.Denot) View). Mirrors z m b') (sym made.2)
          (mirrors_join z share.seat.me share.beside share.mirrors other.seat.me other.beside theirs b' c.join.ensures));
      holds = subst (λ (m : Me (Option g.row.B.Denot) View). m.0.slots ≡ due m.0.flight m.0.running) (sym made.2) share.holds;
    }
