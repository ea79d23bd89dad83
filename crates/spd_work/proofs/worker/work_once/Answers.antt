use Rattle.spd_work.proofs.WorkerRests.{works_on}
use Rattle.spd_work.proofs.worker.work_once.Goals as goal

pub returns-then-not-done-clause-works : goal.returns-then-not-done-clause-works
returns-then-not-done-clause-works g c =
    let looked = c.is_done-done.ensures in
    works_on _ _ _ _ c.args.worker.now c.is_done-done.new.hands c.requires.works looked.sits looked.lasts looked.rests

pub returns-else-not-done-clause-works : goal.returns-else-not-done-clause-works
returns-else-not-done-clause-works g c =
    let looked = c.is_done-done.ensures in
    works_on _ _ _ _ c.args.worker.now c.is_done-done.new.hands c.requires.works looked.sits looked.lasts looked.rests
