use Rattle.spd_state.specs.declared.view.Running.{Running}
use Rattle.spd_rule.specs.Shares.{share_view}
use Rattle.spd_work.specs.Hands.{Sits}
use Rattle.spd_work.specs.Runs.{RunsBody, Lasts}
use Rattle.spd_work.proofs.events.run_events.Given as goal

abbrev pub invariant-loop-next : goal.invariant-loop-next
invariant-loop-next g l =
    Sits g.Q.Ready.room g.Q.Ready.pushed l.field l.hands
    × Lasts (share_view l.fn.hands.share) (share_view l.hands.share)
    × (r : Running) × RunsBody (share_view l.hands.share) r (g.B.Body.view l.body)

abbrev pub decreases-loop-next : goal.decreases-loop-next
decreases-loop-next g l = (g.B.Body.view l.body).size
