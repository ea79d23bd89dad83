use Rattle.spd_rule.specs.Shares.{IsOf, IsSame, field_plan, share_view}
use Rattle.spd_state.specs.declared.view.Running.{Running}
use Rattle.spd_dag.specs.SignalStages.{signal_left}
use Rattle.spd_dag.specs.Signals.{SignalGoes}
use Rattle.spd_work.proofs.turns.signal.Given as goal

abbrev pub invariant-loop-woke : goal.invariant-loop-woke
invariant-loop-woke g l =
    IsOf l.field l.share × IsSame l.fn.share l.share
    × (r : Running) × SignalGoes (field_plan l.field) (record { before = share_view l.fn.share; runs = r }) l.call (share_view l.share)

abbrev pub decreases-loop-woke : goal.decreases-loop-woke
decreases-loop-woke g l = signal_left l.call.stage
