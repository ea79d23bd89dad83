use Rattle.spd_rule.specs.Shares.{share_view}
use Rattle.spd_work.specs.Runs.{Stays}
use Rattle.spd_work.specs.Workers.{WorkerRests}
use Rattle.spd_work.proofs.worker.work_alone.Given as goal

abbrev pub invariant-loop : goal.invariant-loop
invariant-loop g l =
    (goal.iterator-loop g).can_next l.iterator' × (goal.iterator-loop g).is_finite l.iterator'
    × WorkerRests g.Q.Ready.room g.Q.Ready.pushed l.field l.kind l.worker
    × Stays (share_view l.fn.worker.hands.share) (share_view l.worker.hands.share)
