use Rattle.std.proofs.Common.{◌≡◌, ◌-◌, ◌<◌, Option, refl, sym, subst, arith}
use Rattle.atomic_table.specs.Table.{Splits, Me}
use Rattle.atomic_table.specs.Seated.{TableId}
use Rattle.spd_words.specs.Plan.{PlanView}
use Rattle.spd_state.specs.Seats.{kept_view, given_view}
use Rattle.spd_state.specs.declared.view.View.{View}
use Rattle.spd_rule.specs.Beside.{Mirrors}
use Rattle.spd_rule.specs.Kept.{Kept}
use Rattle.spd_rule.specs.Rest.{due}
use Rattle.spd_rule.specs.declared.beside.Beside.{Beside}
use Rattle.spd_rule.proofs.Begins.{splits}
use Rattle.spd_rule.proofs.Joining.{mirrors_split, mirrors_new}
use Rattle.spd_rule.proofs.field.Field.split.Goals as goal

pub split_seat-seat-requires : goal.split_seat-seat-requires
split_seat-seat-requires g c = let seat = c.args.share.now.seat in let wide = c.args.self.now.wide in (
  c.requires.of,
  (let e : 0 < c.args.self.now.table.shared.table_id.words = omega arith in e),
  subst (λ (p : PlanView). Splits (Kept g.B.Body.view p) seat.id seat.me.0 (kept_view seat.me.0) (given_view seat.me.0)) (sym c.args.self.now.keyed)
      (splits g.B.Body.view c.args.self.now.plan seat.id seat.me.0 c.requires.spare),
)

pub invariant_of-share : goal.invariant_of-share
invariant_of-share g c = let share = c.args.share.now in let z : TableId = share.seat.table_id in let made = c.split_seat-seat.ensures in
    let b' : Beside = record share.beside { spare = share.beside.spare - 1 } in record {
      mirrors = subst (λ (t : TableId). Mirrors t c.split_seat-seat.new.seat.me b') (sym made.0)
          (subst (λ (m : Me (Option g.row.B.Denot) View). Mirrors z m b') (sym made.2) (mirrors_split z share.seat.me share.beside share.mirrors));
      holds = subst (λ (m : Me (Option g.row.B.Denot) View). m.0.slots ≡ due m.0.flight m.0.running) (sym made.2) share.holds;
    }

pub invariant_of-result : goal.invariant_of-result
invariant_of-result g c = let seat = c.split_seat-seat.result in let made = c.split_seat-seat.ensures in let v : View = c.args.share.now.seat.me.0 in record {
  mirrors = subst (λ (m : Me (Option g.row.B.Denot) View). Mirrors seat.table_id m c.new.result) (sym made.4)
      (mirrors_new seat.table_id v c.new.result c.new.ensures);
  holds = subst (λ (m : Me (Option g.row.B.Denot) View). m.0.slots ≡ due m.0.flight m.0.running) (sym made.4) refl;
}
