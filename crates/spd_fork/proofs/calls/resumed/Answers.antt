use Rattle.std.proofs.Common.{◌/◌, Some, sym, ap, subst, rules, arith, ◌∙◌}
use Rattle.spd_state.specs.declared.view.View.{View}
use Rattle.spd_rule.specs.Shares.{share_view}
use Rattle.spd_fork.specs.Workers.{PieceGoesOn}
use Rattle.spd_rule.specs.Payments.{runs_rest}
use Rattle.spd_fork.specs.Pieces.{piece_awaits}
use Rattle.spd_fork.proofs.Resuming.{awaits_some, goes_resumed, seats_stay, told_some}
use Rattle.spd_fork.proofs.calls.resumed.Goals as goal

pub returns-clause-goes : goal.returns-clause-goes
returns-clause-goes c =
    let i = c.args.vertex in
    let b = c.args.piece in
    let v = share_view c.args.share.now in
    let n = c.see_fault-fault.result in
    subst (λ (u : View). PieceGoesOn i b v u (Some b)) (sym (ap (λ k. k.0) c.see_fault-fault.ensures.view))
    (goes_resumed i b b v n (told_some _ _ _ c.waits.ensures c.is_none.ensures c.if-is_none.false)
    (let odd = c.if-vertex-eq0.false in λ e. absurd (search (rules, arith)))
    (let some = c.if-fault-eq0.false in λ e. absurd (search (rules, arith))))

pub returns-then-fault-eq0-clause-goes : goal.returns-then-fault-eq0-clause-goes
returns-then-fault-eq0-clause-goes c =
    let v = share_view c.args.share.now in
    ap (λ k. k.0.seats) c.see_fault-fault.ensures.view
    ∙ seats_stay (runs_rest (c.args.vertex / 2) v.running) v.awaited c.see_fault-fault.result v

pub resume-requires-clause-awaited : goal.resume-requires-clause-awaited
resume-requires-clause-awaited c =
    awaits_some (piece_awaits c.args.piece.stage) (told_some _ _ _ c.waits.ensures c.is_none.ensures c.if-is_none.false)
