use Rattle.spd_rule.specs.Shares.{share_view}
use Rattle.spd_work.proofs.WorkerRests.{then_lasts, works_on}
use Rattle.spd_work.proofs.worker.run_vertex.Goals as goal

pub returns-in-Taken-clause-works : goal.returns-in-Taken-clause-works
returns-in-Taken-clause-works g c =
    let begun = c.in-Taken.ensures in
    works_on _ _ _ _ c.args.worker.now c.begin.new.hands c.requires.works begun.sits begun.lasts begun.runs

pub returns-in-Ours-clause-works : goal.returns-in-Ours-clause-works
returns-in-Ours-clause-works g c =
    let run = c.go_on.ensures in
    works_on _ _ _ _ c.args.worker.now c.go_on.new.hands c.requires.works run.sits
    (then_lasts (share_view c.args.worker.now.hands.share) (share_view c.begin.new.hands.share) (share_view c.go_on.new.hands.share)
    c.in-Ours.ensures.lasts run.lasts) run.rests
