use Rattle.std.proofs.Common.{◌≡◌, ◌<◌, ℕ, Option, sym, subst, ap, ◌∙◌}
use Rattle.atomic_table.specs.Table.{Allows, Me}
use Rattle.atomic_table.specs.Seated.{TableId}
use Rattle.spd_words.specs.Plan.{node_place}
use Rattle.spd_state.specs.declared.view.View.{View}
use Rattle.spd_rule.specs.Beside.{Mirrors}
use Rattle.spd_rule.specs.Rest.{due}
use Rattle.spd_rule.specs.declared.beside.Beside.{Beside}
use Rattle.spd_rule.specs.Held.{StepUnderRule}
use Rattle.spd_rule.specs.Kept.{Kept}
use Rattle.spd_rule.specs.Moves.{root_set}
use Rattle.spd_rule.proofs.Mirrors.{flies_low, mirrors_root, root_due}
use Rattle.spd_rule.proofs.Glue.{stores_blank}
use Rattle.spd_rule.proofs.Blanks.{root_blank}
use Rattle.spd_rule.proofs.Sets.{sets_root}
use Rattle.spd_rule.proofs.moves.set_root.Goals as goal

pub store-requires-clause-allows : goal.store-requires-clause-allows
store-requires-clause-allows g c κs within = let share = c.args.share.now in let me = share.seat.me in let p = c.args.field.now.plan in
    let slots : ℕ = c.args.field.now.table.shared.table_id.slots in let d : ℕ = c.args.d in
    let low : d < p.moves = flies_low p share.seat.table_id me share.beside share.mirrors
    (ap (λ (z : TableId). z.slots) c.requires.of ∙ c.args.field.now.deep) _ c.requires.may.flies in
    subst (λ (x : ℕ). Allows (Kept g.B.Body.view p) slots share.seat.id me c.node_place-word.result (λ _. x)
    (λ _ m'. (m' ≡ (root_set d g.P.Told.told me.0, me.1)) × StepUnderRule p c.node_place-word.result 0 x me m'))
    (sym c.pack.ensures.word)
    (subst (λ (i : ℕ). Allows (Kept g.B.Body.view p) slots share.seat.id me i (λ _. 2)
    (λ _ m'. (m' ≡ (root_set d g.P.Told.told me.0, me.1)) × StepUnderRule p i 0 2 me m'))
    (sym c.node_place-word.ensures.place)
    (stores_blank p share.seat.id me (node_place p d) g.B.Body.view slots 2 (λ m'. m' ≡ (root_set d g.P.Told.told me.0, me.1))
    (root_blank p share.seat.id me d g.P.Told.told low c.requires.may) (sets_root g.B.Body.view p slots share.seat.id me d g.P.Told.told low c.requires.may)))

pub returns-clause-rule : goal.returns-clause-rule
returns-clause-rule g c = let share = c.args.share.now in let p = c.args.field.now.plan in let after = c.store.new.seat.me in
    subst (λ (i : ℕ). StepUnderRule p i 0 2 share.seat.me after) c.node_place-word.ensures.place
    (subst (λ (x : ℕ). StepUnderRule p c.node_place-word.result 0 x share.seat.me after) c.pack.ensures.word c.store.ensures.tells.1)

pub invariant_of-share : goal.invariant_of-share
invariant_of-share g c = let share = c.args.share.now in let me = share.seat.me in let d : ℕ = c.args.d in let z : TableId = share.seat.table_id in
    let tells = c.store.ensures.tells.0 in record {
      mirrors = subst (λ (t : TableId). Mirrors t c.store.new.seat.me c.reach.new.self) (sym c.store.ensures.same.table)
          (subst (λ (m : Me (Option g.row.B.Denot) View). Mirrors z m c.reach.new.self) (sym tells)
          (subst (λ (b : Beside). Mirrors z (root_set d g.P.Told.told me.0, me.1) b) (sym c.reach.ensures)
          (mirrors_root z me share.beside share.mirrors d g.P.Told.told c.requires.may)));
      holds = subst (λ (m : Me (Option g.row.B.Denot) View). m.0.slots ≡ due m.0.flight m.0.running) (sym tells)
          (root_due z me share.beside share.mirrors d g.P.Told.told c.requires.may share.holds);
    }
