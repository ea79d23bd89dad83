use Rattle.std.proofs.Common.{ℕ, ◌*◌, List, None, sym, subst, replicate}
use Rattle.atomic_table.specs.Table.{opening}
use Rattle.spd_state.specs.Seats.{first_view}
use Rattle.spd_rule.specs.Kept.{Kept}
use Rattle.spd_rule.specs.Openings.{StartsBlank}
use Rattle.spd_rule.proofs.Begins.{begins}
use Rattle.spd_rule.proofs.field.Field.new.Goals as goal

pub vacant-requires : goal.vacant-requires
vacant-requires g c = let p = c.args.plan in let ws : List ℕ = c.as_slice.result.now in
    subst (λ (m : ℕ). Kept g.B.Body.view p (opening ws (replicate (2 * m) None) first_view)) (sym c.moves.ensures)
    (begins g.B.Body.view p c.in_ok-words.ensures.lawful c.requires.flat ws (subst (StartsBlank p) (sym c.as_slice.ensures.value) c.in_ok-words.ensures.words))
