use Rattle.spd_dag_tests.proofs.tests.refused.Goals as goal

pub returns : goal.returns
returns g c = let f = c.args.field.now in c.chain.ensures f (c.spawn.ensures f c.requires)
