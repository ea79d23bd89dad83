use Rattle.std.proofs.Common.{sym, subst}
use Rattle.spd_region.specs.Dag.{MayRun}
use Rattle.spd_script.specs.declared.script.Script.{Script}
use Rattle.spd_script.specs.Scripts.{script_view}
use Rattle.spd_script.proofs.Events.{fresh_may_run}
use Rattle.spd_script.proofs.script.Script.new.Goals as goal

pub returns-clause-may : goal.returns-clause-may
returns-clause-may c =
    subst (λ (x : Script). MayRun c.args.kind (script_view x)) (sym c.fresh.ensures) (fresh_may_run c.args.kind c.args.steps)
