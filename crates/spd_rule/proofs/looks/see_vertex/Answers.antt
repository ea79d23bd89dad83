use Rattle.std.proofs.Common.{◌≡◌, ℕ, sym, subst}
use Rattle.atomic_table.specs.Table.{Allows}
use Rattle.spd_words.specs.Words.{vertex_of}
use Rattle.spd_rule.specs.Kept.{Kept}
use Rattle.spd_rule.specs.Steps.{HasSeen, see_known}
use Rattle.std.proofs.Common.{eqb}
use Rattle.spd_state.specs.Shown.{see_after}
use Rattle.spd_state.specs.declared.view.View.{View}
use Rattle.spd_rule.proofs.Likeness.{see_mirrored, mirrors_like, like_due}
use Rattle.spd_rule.proofs.Looking.{looks_at_vertex}
use Rattle.spd_rule.proofs.looks.see_vertex.Goals as goal

pub load-requires-clause-allows : goal.load-requires-clause-allows
load-requires-clause-allows g c κs within = let share = c.args.share.now in let me = share.seat.me in let plan = c.args.field.now.plan in
    let slots : ℕ = c.args.field.now.table.shared.table_id.slots in let v : ℕ = c.args.v in
    subst (λ (i : ℕ). Allows (Kept g.B.Body.view plan) slots share.seat.id me i (λ n. n) (λ n m'. (m' ≡ see_known v n me) × ((vertex_of n).state ≡ 2 → HasSeen v n m'.0)))
    (sym c.vertex_place-word.ensures.place) (looks_at_vertex g.B.Body.view plan slots share.seat.id me v c.requires.vertex)

pub invariant_of-share : goal.invariant_of-share
invariant_of-share g c = let share = c.args.share.now in let z = share.seat.table_id in let after = c.load.new.seat in let x = vertex_of c.load.result in
    let w : View = see_after c.args.v x share.seat.me.0 in let same = see_mirrored share.seat.me.0 c.args.v x (eqb x.state 2) in record {
      mirrors = mirrors_like z after.table_id c.load.ensures.same.table share.seat.me after.me share.beside share.mirrors share.holds w
          c.load.ensures.tells.0 same;
      holds = like_due z after.table_id c.load.ensures.same.table share.seat.me after.me share.beside share.mirrors share.holds w
          c.load.ensures.tells.0 same;
    }
