use Rattle.spd_fork.proofs.schedule.begin.Goals as goal

pub returns-then-not-spawn : goal.returns-then-not-spawn
returns-then-not-spawn g c = λ f at. c.take_whole-then-not-spawn.ensures f (c.spawn.ensures f at)
