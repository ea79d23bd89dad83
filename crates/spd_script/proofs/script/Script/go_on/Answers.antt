use Rattle.spd_script.proofs.Events.{gave_move}
use Rattle.spd_script.proofs.script.Script.go_on.Goals as goal

pub returns-then-self-gt0 : goal.returns-then-self-gt0
returns-then-self-gt0 c = rw c.fresh.ensures (gave_move c.args.self.now c.requires c.if-self-gt0.true)
