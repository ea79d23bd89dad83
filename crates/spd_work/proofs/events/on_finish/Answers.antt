use Rattle.spd_work.proofs.Backs.{back_finish}
use Rattle.spd_work.proofs.Cuts.{may_chain}
use Rattle.spd_work.proofs.events.on_finish.Goals as goal

pub chain-requires-clause-may : goal.chain-requires-clause-may
chain-requires-clause-may g c κs bound = (c.requires.runs.0, may_chain _ _ _ _ _ c.requires.runs.1)

pub on_full-requires-clause-runs : goal.on_full-requires-clause-runs
on_full-requires-clause-runs g c κs bound =
    (c.requires.runs.0, back_finish g.B.Body.view _ _ _ _ _ _ _ (c.in-Full.ensures).chained _ c.requires.runs.1)
