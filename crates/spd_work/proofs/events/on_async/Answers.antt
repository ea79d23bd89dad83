use Rattle.spd_work.proofs.Backs.{back_async}
use Rattle.spd_work.proofs.Cuts.{may_spawn}
use Rattle.spd_work.proofs.events.on_async.Goals as goal

pub spawn-requires-clause-may : goal.spawn-requires-clause-may
spawn-requires-clause-may g c κs bound = (c.requires.runs.0, may_spawn _ _ _ _ c.requires.runs.1)

pub on_full-requires-clause-runs : goal.on_full-requires-clause-runs
on_full-requires-clause-runs g c κs bound =
    (c.requires.runs.0, back_async g.B.Body.view _ _ _ _ _ _ _ (c.in-Full.ensures).spawned c.requires.runs.1)
