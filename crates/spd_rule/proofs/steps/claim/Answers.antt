use Rattle.std.proofs.Common.{◌≡◌, ℕ, ◌+◌, ◌%◌, ◌^◌, ◌<◌, arith, Option, Some, sym, subst, ap, ◌∙◌}
use Rattle.atomic_table.specs.Table.{Allows, Me}
use Rattle.atomic_table.specs.Seated.{TableId}
use Rattle.spd_words.specs.Words.{Pair, pair_of}
use Rattle.spd_state.specs.Dag.{right_in}
use Rattle.spd_state.specs.Steps.{claim_after}
use Rattle.spd_state.specs.declared.view.View.{View}
use Rattle.spd_rule.specs.Beside.{Mirrors}
use Rattle.spd_rule.specs.Rest.{due}
use Rattle.spd_rule.specs.declared.beside.Beside.{Beside}
use Rattle.spd_rule.specs.Held.{StepUnderRule}
use Rattle.spd_rule.specs.Kept.{Kept}
use Rattle.spd_rule.proofs.Found.{handle_found}
use Rattle.spd_rule.proofs.Claims.{claims}
use Rattle.spd_rule.proofs.Mirrors.{mirrors_claim}
use Rattle.spd_rule.proofs.Settled.{due_lost}
use Rattle.spd_rule.proofs.steps.claim.Goals as goal

pub add-old-requires-clause-allows : goal.add-old-requires-clause-allows
add-old-requires-clause-allows g c κs within = let share = c.args.share.now in let plan = c.args.field.now.plan in
    let slots : ℕ = c.args.field.now.table.shared.table_id.slots in let me = share.seat.me in let r = c.in-Some.running in
    let is : me.0.running ≡ Some r = sym share.mirrors.running ∙ c.in-Some.is in let mine : r.right ≡ 1 = ap right_in (sym is) ∙ c.requires.may.right in
    let low : r.pair < plan.moves = let i = share.mirrors.inside r c.in-Some.is in let d = c.args.field.now.deep in
    let e : share.seat.table_id.slots ≡ slots = ap (λ (z : TableId). z.slots) c.requires.of in let i₁ = i.1 in omega arith in
    subst (λ (i : ℕ). Allows (Kept g.B.Body.view plan) slots share.seat.id me i (λ n. (n + 1) % 2 ^ 64) (λ n m'. m' ≡ (claim_after (pair_of n) me.0, me.1)))
    (sym c.pair_place-word.ensures.place) (claims g.B.Body.view plan slots share.seat.id me r is mine c.requires.may.room low c.requires.may.free)

pub returns-clause-handle : goal.returns-clause-handle
returns-clause-handle g c = let share = c.args.share.now in let plan = c.args.field.now.plan in let me = share.seat.me in let r = c.in-Some.running in
    let n : ℕ = c.add-old.result in let after = c.add-old.new.seat.me in
    let is : me.0.running ≡ Some r = sym share.mirrors.running ∙ c.in-Some.is in let mine : r.right ≡ 1 = ap right_in (sym is) ∙ c.requires.may.right in
    let low : r.pair < plan.moves = let i = share.mirrors.inside r c.in-Some.is in let d = c.args.field.now.deep in
    let e : share.seat.table_id.slots ≡ c.args.field.now.table.shared.table_id.slots = ap (λ (z : TableId). z.slots) c.requires.of in let i₁ = i.1 in
    omega arith in
    handle_found plan me after n ((n + 1) % 2 ^ 64) r is mine low
    (subst (λ (i : ℕ). StepUnderRule plan i n ((n + 1) % 2 ^ 64) me after) c.pair_place-word.ensures.place c.add-old.ensures.rule)

pub invariant_of-share : goal.invariant_of-share
invariant_of-share g c = let share = c.args.share.now in let me = share.seat.me in let q : Pair = pair_of c.add-old.result in
    let z : TableId = share.seat.table_id in let tells = c.add-old.ensures.tells in record {
      mirrors = subst (λ (t : TableId). Mirrors t c.add-old.new.seat.me c.claim.new.self) (sym c.add-old.ensures.same.table)
          (subst (λ (m : Me (Option g.row.B.Denot) View). Mirrors z m c.claim.new.self) (sym tells)
          (subst (λ (b : Beside). Mirrors z (claim_after q me.0, me.1) b) (sym c.claim.ensures) (mirrors_claim z me share.beside share.mirrors q)));
      holds = subst (λ (m : Me (Option g.row.B.Denot) View). m.0.slots ≡ due m.0.flight m.0.running) (sym tells)
          (share.holds ∙ due_lost me.0.flight me.0.running);
    }
