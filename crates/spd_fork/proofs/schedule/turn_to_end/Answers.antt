use Rattle.std.proofs.Common.{sym, subst}
use Rattle.spd_fork.specs.Places.{IsAt}
use Rattle.spd_fork.proofs.schedule.turn_to_end.Goals.{in-Some-Full, in-Some-More}
use Rattle.spd_fork.proofs.schedule.turn_to_end.Goals as goal

pub loop-preserved : goal.loop-preserved
loop-preserved g c = let f = c.args.field.now in elim c.match-turn-2.branch [
  | in-Some-Full w ↦ subst (IsAt f) (sym w.worker-is) (w.signal.ensures f c.turn.ensures)
  | in-Some-More w ↦ subst (IsAt f) (sym w.worker-is) c.turn.ensures
]
