use Rattle.std.proofs.Common.{sym, ap, subst}
use Rattle.spd_state.specs.declared.view.View.{View}
use Rattle.spd_rule.specs.Shares.{share_view}
use Rattle.spd_work.specs.Runs.{Rests, Lasts}
use Rattle.spd_work.proofs.Started.{steps_rest, steps_last, sits_still}
use Rattle.spd_work.proofs.worker.is_done.Goals as goal

pub returns-clause-sits : goal.returns-clause-sits
returns-clause-sits g c =
    let v = share_view c.args.hands.now.share in
    let is = ap (λ k. k.0) c.see_done.ensures.view in
    let lasts = subst (Lasts v) (sym is) (steps_last v) in
    sits_still _ _ _ c.args.hands.now c.see_done.new.share c.requires.sits c.see_done.ensures.same lasts.stays (ap (λ (u : View). u.ready) is)

pub returns-clause-lasts : goal.returns-clause-lasts
returns-clause-lasts g c =
    let v = share_view c.args.hands.now.share in
    subst (Lasts v) (sym (ap (λ k. k.0) c.see_done.ensures.view)) (steps_last v)

pub returns-clause-rests : goal.returns-clause-rests
returns-clause-rests g c =
    subst Rests (sym (ap (λ k. k.0) c.see_done.ensures.view)) (steps_rest (share_view c.args.hands.now.share) c.requires.rests)
