use Rattle.std.proofs.Common.{arith, ◌∙◌, refl}
use Rattle.spd_rule.specs.Shares.{field_plan, share_known}
use Rattle.spd_work.proofs.turns.chain.Goals as goal

pub loop-body-init : goal.loop-body-init
loop-body-init g c = (
  c.requires.of,
  (refl, refl),
  c.requires.may.0,
  c.new-call.ensures (field_plan c.args.field.now)
      (record { known = share_known c.args.share.now; runs = c.requires.may.0; body = c.args.body; rest = c.args.rest })
      refl refl c.requires.may.1,
)

pub loop-body-smaller : goal.loop-body-smaller
loop-body-smaller g c =
    let i = c.loop-body.invariant in
    (rw c.in-More.is at (c.turn.ensures.turned _ i.3).comes).1

pub loop-body-preserved : goal.loop-body-preserved
loop-body-preserved g c =
    let i = c.loop-body.invariant in
    let same = c.turn.ensures.same in
    (same.0 ∙ i.0, (same.0 ∙ i.1.0, same.1 ∙ i.1.1), i.2, (rw c.in-More.is at (c.turn.ensures.turned _ i.3).comes).0)

pub returns-in-Done-clause-chained : goal.returns-in-Done-clause-chained
returns-in-Done-clause-chained g c =
    let comes = rw c.in-Done.is at (c.turn.ensures.turned _ c.loop-body.invariant.3).comes in
    let next = comes.0 in
    let below = comes.1 in
    (omega arith, record { over = comes.2; slots = comes.3 })

pub returns-in-Full-clause-chained : goal.returns-in-Full-clause-chained
returns-in-Full-clause-chained g c =
    let comes = rw c.in-Full.is at (c.turn.ensures.turned _ c.loop-body.invariant.3).comes in
    record { body_is = comes.1; rest_is = comes.2; unmoved = comes.3 }
