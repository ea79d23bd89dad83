use Rattle.spd_region.proofs.DagEvents.{starts_at_rest}
use Rattle.spd_region.proofs.dag.Dag.new.Goals as goal

pub returns-clause-rest : goal.returns-clause-rest
returns-clause-rest g c =
    let view = g.B.Body.view in
    rw (c.in_ok-push.ensures.items, c.new-ready.ensures.items, c.new.ensures, c.new-2.ensures.items)
    (starts_at_rest c.args.kind (view c.args.body) 1 c.args.most c.requires.body)
