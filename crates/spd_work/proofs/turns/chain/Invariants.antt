use Rattle.spd_rule.specs.Shares.{IsOf, IsSame, field_plan, share_known}
use Rattle.spd_state.specs.declared.view.Running.{Running}
use Rattle.spd_dag.specs.ChainStages.{chain_left}
use Rattle.spd_dag.specs.Chains.{ChainGoes}
use Rattle.spd_work.proofs.turns.chain.Given as goal

abbrev pub invariant-loop-body : goal.invariant-loop-body
invariant-loop-body g l =
    IsOf l.field l.share × IsSame l.fn.share l.share
    × (r : Running) × ChainGoes g.B.Body.view (field_plan l.field) (record { known = share_known l.fn.share; runs = r; body = l.fn.body; rest = l.fn.rest }) l.call (share_known l.share)

abbrev pub decreases-loop-body : goal.decreases-loop-body
decreases-loop-body g l = chain_left l.call.stage
