use Rattle.spd_fork.specs.Places.{IsAt}
use Rattle.spd_fork.proofs.schedule.turn_to_end.Given as goal

abbrev pub invariant-loop : goal.invariant-loop
invariant-loop g l = IsAt l.field l.worker
