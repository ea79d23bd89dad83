use Rattle.std.proofs.Common.{length}
use Rattle.spd_level.specs.Columns.{context_of}
use Rattle.spd_level.specs.Left.{level_eval}
use Rattle.spd_level.proofs.Quiet.{quietly_none, quiet_further, turn_further}
use Rattle.spd_level.proofs.level.Level.turn.Goals as goal

pub loop-init : goal.loop-init
loop-init c = quietly_none (level_eval (context_of c.args.code.now c.args.columns.now) c.args.self.now) (length c.args.self.now.frames.items)

pub loop-preserved : goal.loop-preserved
loop-preserved c =
    quiet_further (context_of c.args.code.now c.args.columns.now) _ _ _ _ c.single_turn.new.self c.loop.invariant
    (rw c.in-Quiet.is at c.in_ok-step.ensures)

pub returns-in_default : goal.returns-in_default
returns-in_default c =
    turn_further (context_of c.args.code.now c.args.columns.now) _ _ _ _ c.single_turn.new.self c.in_ok-step.step c.loop.invariant c.in_ok-step.ensures

pub returns : goal.returns
returns c =
    turn_further (context_of c.args.code.now c.args.columns.now) _ _ _ _ c.single_turn-2.new.self c.in_ok-step-2.step c.loop.invariant c.in_ok-step-2.ensures
