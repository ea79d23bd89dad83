use Rattle.spd_dag_tests.proofs.crew.play.Goals as goal

pub turn_where-requires : goal.turn_where-requires
turn_where-requires c = c.chain-begins.ensures c.args.field.now c.requires

pub turn_where-requires-in-Spawn : goal.turn_where-requires-in-Spawn
turn_where-requires-in-Spawn c = c.spawn-begins.ensures c.args.field.now c.requires

pub turn_where-requires-in-Signal : goal.turn_where-requires-in-Signal
turn_where-requires-in-Signal c = c.signal-begins.ensures c.args.field.now c.requires
