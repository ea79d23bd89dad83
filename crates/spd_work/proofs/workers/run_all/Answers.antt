use Rattle.std.proofs.Common.{arith, ◌-◌, slice_set, subst}
use Rattle.spd_work.specs.Crew.{HasWorked}
use Rattle.spd_work.specs.declared.worker.Worker.{Worker}
use Rattle.spd_work.proofs.Working.{one_worked, worked_rest}
use Rattle.spd_work.proofs.workers.run_all.Goals as goal

pub run_together-requires-clause-works : goal.run_together-requires-clause-works
run_together-requires-clause-works g c κs within =
    let some = c.requires.some in
    let count = c.len-first.ensures in
    let k = c.len-first.result - 1 in
    let lent = c.index_mut.result.now in
    let rests = HasWorked g.Q.Ready.room g.Q.Ready.pushed c.args.field.now c.args.kind in
    worked_rest g.Q.Ready.room g.Q.Ready.pushed c.args.field.now c.args.kind c.args.workers.now.items (slice_set c.args.workers.now.items k c.work_alone.new.worker)
    (one_worked g.Q.Ready.room g.Q.Ready.pushed c.args.field.now c.args.kind c.args.workers.now.items k c.work_alone.new.worker lent (omega arith) c.requires.works
    (subst (λ (w : Worker g.row.B.Denot g.row.Q.Denot). rests w c.work_alone.new.worker) c.index_mut.ensures.value c.work_alone.ensures))

pub returns-else-not-work_alone : goal.returns-else-not-work_alone
returns-else-not-work_alone g c =
    let some = c.requires.some in
    let count = c.len-first.ensures in
    let k = c.len-first.result - 1 in
    let lent = c.index_mut.result.now in
    let rests = HasWorked g.Q.Ready.room g.Q.Ready.pushed c.args.field.now c.args.kind in
    one_worked g.Q.Ready.room g.Q.Ready.pushed c.args.field.now c.args.kind c.args.workers.now.items k c.work_alone.new.worker lent (omega arith) c.requires.works
    (subst (λ (w : Worker g.row.B.Denot g.row.Q.Denot). rests w c.work_alone.new.worker) c.index_mut.ensures.value c.work_alone.ensures)
