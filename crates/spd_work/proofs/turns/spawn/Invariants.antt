use Rattle.spd_rule.specs.Shares.{IsOf, IsSame, field_plan, share_known}
use Rattle.spd_state.specs.declared.view.Running.{Running}
use Rattle.spd_dag.specs.SpawnStages.{spawn_left}
use Rattle.spd_dag.specs.Spawns.{SpawnGoes}
use Rattle.spd_work.proofs.turns.spawn.Given as goal

abbrev pub invariant-loop-left : goal.invariant-loop-left
invariant-loop-left g l =
    IsOf l.field l.share × IsSame l.fn.share l.share
    × (r : Running) × SpawnGoes g.B.Body.view (field_plan l.field) (record { known = share_known l.fn.share; runs = r; body = l.fn.body; rest = l.fn.rest }) l.call (share_known l.share)

abbrev pub decreases-loop-left : goal.decreases-loop-left
decreases-loop-left g l = spawn_left l.call.stage
