use Rattle.std.proofs.Common.{sym, subst, Some}
use Rattle.spd_state.specs.declared.view.View.{View}
use Rattle.spd_rule.specs.Shares.{share_view}
use Rattle.spd_work.specs.Workers.{EndsWell}
use Rattle.spd_work.proofs.Ends.{end_view, end_well}
use Rattle.spd_work.proofs.worker.finish_end.Goals as goal

pub returns-clause-ends : goal.returns-clause-ends
returns-clause-ends g c =
    let s = c.args.worker.now.hands.share in
    let looks = c.collect.ensures.looks in
    subst (λ (v : View). EndsWell v (Some c.collect.result))
    (sym (end_view s c.collect.new.share c.set_done.new.share c.requires.runs.0 c.collect.result.fault looks.word c.requires.runs.1
    looks.known c.set_done.ensures.view))
    (end_well (share_view s) looks.word c.collect.result c.collect.ensures.gives)
