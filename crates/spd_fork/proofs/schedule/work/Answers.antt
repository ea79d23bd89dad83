use Rattle.spd_fork.proofs.schedule.work.Goals as goal

pub turn_to_end-requires : goal.turn_to_end-requires
turn_to_end-requires g c = c.begin.ensures c.args.field.now c.start.ensures
