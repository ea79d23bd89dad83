use Rattle.std.proofs.Common.{◌∙◌, refl}
use Rattle.spd_rule.specs.Shares.{field_plan, share_view}
use Rattle.spd_work.proofs.Signalled.{has_signalled}
use Rattle.spd_work.proofs.turns.signal.Goals as goal

pub loop-woke-init : goal.loop-woke-init
loop-woke-init g c = (
  c.requires.of,
  (refl, refl),
  c.requires.may.0,
  c.new-call.ensures (field_plan c.args.field.now)
      (record { before = share_view c.args.share.now; runs = c.requires.may.0 }) c.requires.may.1,
)

pub loop-woke-smaller : goal.loop-woke-smaller
loop-woke-smaller g c =
    let i = c.loop-woke.invariant in
    (rw c.in-More.is at (c.turn.ensures.turned _ i.3).comes).1

pub loop-woke-preserved : goal.loop-woke-preserved
loop-woke-preserved g c =
    let i = c.loop-woke.invariant in
    let same = c.turn.ensures.same in
    (same.0 ∙ i.0, (same.0 ∙ i.1.0, same.1 ∙ i.1.1), i.2, (rw c.in-More.is at (c.turn.ensures.turned _ i.3).comes).0)

pub returns-in-Done-clause-signalled : goal.returns-in-Done-clause-signalled
returns-in-Done-clause-signalled g c =
    let i = c.loop-woke.invariant in
    let comes = rw c.in-Done.is at (c.turn.ensures.turned _ i.3).comes in
    has_signalled c.args.field.now i.2 c.args.share.now c.turn.new.share c.in-Done.woke comes.0 comes.1
