use Rattle.std.proofs.Common.{◌≡◌, ℕ, sym, subst}
use Rattle.atomic_table.specs.Table.{Allows}
use Rattle.atomic_table.specs.Seated.{TableId}
use Rattle.spd_words.specs.Words.{pair_with, pack_pair}
use Rattle.spd_words.specs.Plan.{pair_place}
use Rattle.spd_rule.specs.Held.{StepUnderRule}
use Rattle.spd_rule.specs.Kept.{Kept}
use Rattle.spd_rule.specs.Beside.{Mirrors}
use Rattle.spd_rule.specs.Moves.{pair_set}
use Rattle.spd_rule.proofs.Mirrors.{mirrors_pair, pair_due}
use Rattle.spd_rule.proofs.Glue.{stores_blank}
use Rattle.spd_rule.proofs.Blanks.{pair_blank}
use Rattle.spd_rule.proofs.Sets.{pair_has, sets_pair, pair_fits}
use Rattle.spd_rule.proofs.moves.set_pair.Goals as goal

pub store-requires-clause-allows : goal.store-requires-clause-allows
store-requires-clause-allows g c κs within = let share = c.args.share.now in let me = share.seat.me in let p = c.args.field.now.plan in
    let slots : ℕ = c.args.field.now.table.shared.table_id.slots in
    let q = pair_with 0 c.args.total c.args.kind c.args.first c.args.second in
    subst (λ (x : ℕ). Allows (Kept g.B.Body.view p) slots share.seat.id me c.pair_place-word.result (λ _. x)
    (λ _ m'. (m' ≡ (pair_set me.0.flight c.args.second g.P.Told.told g.Q.Told.told me.0, me.1))
    × StepUnderRule p c.pair_place-word.result 0 x me m')) (sym c.pack-pair.ensures.word)
    (subst (λ (i : ℕ). Allows (Kept g.B.Body.view p) slots share.seat.id me i (λ _. pack_pair q)
    (λ _ m'. (m' ≡ (pair_set me.0.flight c.args.second g.P.Told.told g.Q.Told.told me.0, me.1)) × StepUnderRule p i 0 (pack_pair q) me m'))
    (sym c.pair_place-word.ensures.place)
    (stores_blank p share.seat.id me (pair_place p c.args.d) g.B.Body.view slots (pack_pair q)
    (λ m'. m' ≡ (pair_set me.0.flight c.args.second g.P.Told.told g.Q.Told.told me.0, me.1))
    (pair_blank p share.seat.id me c.args.d q g.P.Told.told g.Q.Told.told c.requires.numbers.pair c.requires.may)
    (sets_pair g.B.Body.view p slots share.seat.id me c.args.d q g.P.Told.told g.Q.Told.told c.requires.numbers.pair
    (pair_fits p c.args.field.now.lawful c.args.d q c.requires.numbers me.0 g.P.Told.told g.Q.Told.told c.requires.may) c.requires.may)))

pub returns-clause-rule : goal.returns-clause-rule
returns-clause-rule g c = let share = c.args.share.now in let p = c.args.field.now.plan in let after = c.store.new.seat.me in
    subst (λ (i : ℕ). StepUnderRule p i 0 (pack_pair (pair_with 0 c.args.total c.args.kind c.args.first c.args.second)) share.seat.me after)
    c.pair_place-word.ensures.place
    (subst (λ (x : ℕ). StepUnderRule p c.pair_place-word.result 0 x share.seat.me after) c.pack-pair.ensures.word c.store.ensures.tells.1)

pub invariant_of-share : goal.invariant_of-share
invariant_of-share g c = let share = c.args.share.now in record {
  mirrors = subst (λ (z : TableId). Mirrors z c.store.new.seat.me c.pair.new.self) (sym c.store.ensures.same.table)
      (mirrors_pair share.seat.table_id share.seat.me c.store.new.seat.me share.beside c.pair.new.self share.mirrors c.args.d
      (pair_with 0 c.args.total c.args.kind c.args.first c.args.second) g.P.Told.told g.Q.Told.told c.requires.may c.store.ensures.tells.0 c.pair.ensures.root c.pair.ensures.spawn);
  holds = pair_due c.args.d
      (pair_with 0 c.args.total c.args.kind c.args.first c.args.second) g.P.Told.told g.Q.Told.told share.seat.me c.store.new.seat.me c.requires.may c.store.ensures.tells.0 share.holds;
}

pub pair-requires : goal.pair-requires
pair-requires g c = record {
  held = λ e. let share = c.args.share.now in
      pair_has share.seat.table_id share.seat.me share.beside share.mirrors c.args.d (pair_with 0 c.args.total c.args.kind c.args.first c.args.second) g.P.Told.told
      g.Q.Told.told c.requires.may e;
}
