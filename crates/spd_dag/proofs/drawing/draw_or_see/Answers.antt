use Rattle.std.proofs.Common.{◌≡◌, ◌<◌, ℕ, Bool, true, false, refl, sym, subst, ◌∙◌, arith}
use Prim.Native.Nat.{zero, suc}
use mathlib.Core.Logic.{dite}
use native.Mathlib.Decide.{dec_lt}
use Rattle.spd_words.specs.Plan.{moves_place}
use Rattle.spd_rule.specs.Held.{StepUnderRule}
use Rattle.spd_dag.specs.Draws.{draw_writes, unmoved_view}
use Rattle.spd_dag.proofs.drawing.draw_or_see.Goals as goal

-- a share that has seen the moves full leaves what it found
marked_writes : (marks n : ℕ) → 0 < marks → n ≡ draw_writes marks n
marked_writes zero n some = absurd (omega arith)
marked_writes (suc marks) n some = refl

-- and one that hasn't has no mark
unmarked : (seen : Bool) (marks : ℕ) → (0 < marks → seen ≡ true) → seen ≡ false → marks ≡ 0
unmarked seen marks tells not = dite (dec_lt 0 marks) (λ some. let t = tells some in absurd (cc)) (λ none. omega arith)

pub see_moves-requires-clause-may : goal.see_moves-requires-clause-may
see_moves-requires-clause-may g c κs within = record {
  marked = c.has_seen_full.ensures.0 c.if-has_seen_full.true;
  pays = λ _ w. c.requires.may.pays w;
}

pub returns-then-has_seen_full-clause-rule : goal.returns-then-has_seen_full-clause-rule
returns-then-has_seen_full-clause-rule g c = let me = c.args.share.now.seat.me in let n : ℕ = c.see_moves.result in
    subst (λ (x : ℕ). StepUnderRule c.args.field.now.plan moves_place n x me c.see_moves.new.share.seat.me)
    (marked_writes me.0.full_draws n (c.has_seen_full.ensures.0 c.if-has_seen_full.true)) c.see_moves.ensures.rule

pub returns-else-has_seen_full-clause-full : goal.returns-else-has_seen_full-clause-full
returns-else-has_seen_full-clause-full g c full = let me = c.args.share.now.seat.me in
    let none : me.0.full_draws ≡ 0 = unmarked c.has_seen_full.result me.0.full_draws c.has_seen_full.ensures.1 c.if-has_seen_full.false in
    c.draw_move.ensures.drawn.full full ∙ (λ i. (unmoved_view (sym none i) me.0, me.1))

pub returns-else-has_seen_full-clause-rule : goal.returns-else-has_seen_full-clause-rule
returns-else-has_seen_full-clause-rule g c = let me = c.args.share.now.seat.me in let n : ℕ = c.draw_move.result in
    let none : me.0.full_draws ≡ 0 = unmarked c.has_seen_full.result me.0.full_draws c.has_seen_full.ensures.1 c.if-has_seen_full.false in
    subst (λ (m : ℕ). StepUnderRule c.args.field.now.plan moves_place n (draw_writes m n) me c.draw_move.new.share.seat.me) (sym none)
    c.draw_move.ensures.rule
