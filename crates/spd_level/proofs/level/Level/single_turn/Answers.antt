use Rattle.std.proofs.Common.{refl, rules, w64, FitsSigned}
use Rattle.std.proofs.lemmas.Int.{to_z-of_z}
use Rattle.spd_level.specs.Columns.{context_of}
use Rattle.spd_level.proofs.Stepping.{popped_turned, popped_skipped, block_skipped_back, block_skipped_fault, for_skipped_back, for_skipped_fault}
use Rattle.spd_level.specs.declared.frame.Frame.TheVariants as frame
use Rattle.spd_level.specs.declared.step.Step.TheVariants as step
use Rattle.spd_level.proofs.level.Level.single_turn.Goals as goal

pub returns-in_ok-step-in-Fell : goal.returns-in_ok-step-in-Fell
returns-in_ok-step-in-Fell c =
    popped_turned (context_of c.args.code.now c.args.columns.now) c.args.self.now
    (record { flow = c.args.self.now.flow; vars = c.args.self.now.vars; frames = c.pop.new.self }) c.go_on.new.self
    (frame.Block c.in-Some-Block.block c.in-Some-Block.next c.in-Some-Block.floor c.in-Some-Block.left) c.in_ok-step-in-Fell.step
    (rw c.in-Some-Block.field-0-is at c.in-Some-Block.ensures.items) refl refl c.in_ok-step-in-Fell.ensures

pub returns-in-Back : goal.returns-in-Back
returns-in-Back c =
    popped_skipped (context_of c.args.code.now c.args.columns.now) c.args.self.now
    (record { flow = c.args.self.now.flow; vars = c.args.self.now.vars; frames = c.pop.new.self })
    (frame.Block c.in-Some-Block.block c.in-Some-Block.next c.in-Some-Block.floor c.in-Some-Block.left)
    (rw c.in-Some-Block.field-0-is at c.in-Some-Block.ensures.items) refl refl
    (block_skipped_back (context_of c.args.code.now c.args.columns.now) (record {
      flow = c.args.self.now.flow;
      vars = c.args.self.now.vars;
      frames =
          c.pop.new.self;
    })
    c.in-Some-Block.block c.in-Some-Block.next c.in-Some-Block.floor c.in-Some-Block.left c.in-Back.field-0 c.in-Back.is)

pub returns-in-Fault : goal.returns-in-Fault
returns-in-Fault c =
    popped_skipped (context_of c.args.code.now c.args.columns.now) c.args.self.now
    (record { flow = c.args.self.now.flow; vars = c.args.self.now.vars; frames = c.pop.new.self })
    (frame.Block c.in-Some-Block.block c.in-Some-Block.next c.in-Some-Block.floor c.in-Some-Block.left)
    (rw c.in-Some-Block.field-0-is at c.in-Some-Block.ensures.items) refl refl
    (block_skipped_fault (context_of c.args.code.now c.args.columns.now) (record {
      flow = c.args.self.now.flow;
      vars = c.args.self.now.vars;
      frames =
          c.pop.new.self;
    })
    c.in-Some-Block.block c.in-Some-Block.next c.in-Some-Block.floor c.in-Some-Block.left c.in-Fault.field-0 c.in-Fault.is)

pub returns-in_ok-step-in-Fell-flow : goal.returns-in_ok-step-in-Fell-flow
returns-in_ok-step-in-Fell-flow c =
    let f : FitsSigned w64 c.in-Some-For.at = search rules in
    let g : FitsSigned w64 c.in-Some-For.end = search rules in
    popped_turned (context_of c.args.code.now c.args.columns.now) c.args.self.now
    (record { flow = c.args.self.now.flow; vars = c.args.self.now.vars; frames = c.pop.new.self }) c.turn_of.new.self
    (frame.For c.in-Some-For.body c.in-Some-For.at c.in-Some-For.end c.in-Some-For.left) c.in_ok-step-in-Fell-flow.step
    (rw c.in-Some-For.field-0-is at c.in-Some-For.ensures.items) refl refl
    (rw (to_z-of_z w64 c.in-Some-For.at f, to_z-of_z w64 c.in-Some-For.end g) at c.in_ok-step-in-Fell-flow.ensures)

pub returns-in-Back-flow : goal.returns-in-Back-flow
returns-in-Back-flow c =
    popped_skipped (context_of c.args.code.now c.args.columns.now) c.args.self.now
    (record { flow = c.args.self.now.flow; vars = c.args.self.now.vars; frames = c.pop.new.self })
    (frame.For c.in-Some-For.body c.in-Some-For.at c.in-Some-For.end c.in-Some-For.left) (rw c.in-Some-For.field-0-is at c.in-Some-For.ensures.items)
    refl refl (for_skipped_back (context_of c.args.code.now c.args.columns.now)
    (record { flow = c.args.self.now.flow; vars = c.args.self.now.vars; frames = c.pop.new.self })
    c.in-Some-For.body c.in-Some-For.at c.in-Some-For.end c.in-Some-For.left c.in-Back-flow.field-0 c.in-Back-flow.is)

pub returns-in-Fault-flow : goal.returns-in-Fault-flow
returns-in-Fault-flow c =
    popped_skipped (context_of c.args.code.now c.args.columns.now) c.args.self.now
    (record { flow = c.args.self.now.flow; vars = c.args.self.now.vars; frames = c.pop.new.self })
    (frame.For c.in-Some-For.body c.in-Some-For.at c.in-Some-For.end c.in-Some-For.left) (rw c.in-Some-For.field-0-is at c.in-Some-For.ensures.items)
    refl refl (for_skipped_fault (context_of c.args.code.now c.args.columns.now)
    (record { flow = c.args.self.now.flow; vars = c.args.self.now.vars; frames = c.pop.new.self })
    c.in-Some-For.body c.in-Some-For.at c.in-Some-For.end c.in-Some-For.left c.in-Fault-flow.field-0 c.in-Fault-flow.is)

pub returns-in-Some-Async : goal.returns-in-Some-Async
returns-in-Some-Async c =
    popped_turned (context_of c.args.code.now c.args.columns.now) c.args.self.now
    (record { flow = c.args.self.now.flow; vars = c.args.self.now.vars; frames = c.pop.new.self }) c.leave.new.self (frame.Async c.in-Some-Async.saved)
    c.leave.result (rw c.in-Some-Async.field-0-is at c.in-Some-Async.ensures.items) refl refl (c.leave.ensures (context_of c.args.code.now c.args.columns.now))

pub returns-in_ok-come_back-in-Some-Call : goal.returns-in_ok-come_back-in-Some-Call
returns-in_ok-come_back-in-Some-Call c =
    popped_turned (context_of c.args.code.now c.args.columns.now) c.args.self.now
    (record { flow = c.args.self.now.flow; vars = c.args.self.now.vars; frames = c.pop.new.self }) c.come_back.new.self
    (frame.Call c.in-Some-Call.saved c.in-Some-Call.binds) step.Quiet (rw c.in-Some-Call.field-0-is at c.in-Some-Call.ensures.items) refl refl
    (c.in_ok-come_back-in-Some-Call.ensures (context_of c.args.code.now c.args.columns.now))

pub returns-in-Some-Gift : goal.returns-in-Some-Gift
returns-in-Some-Gift c =
    popped_turned (context_of c.args.code.now c.args.columns.now) c.args.self.now
    (record { flow = c.args.self.now.flow; vars = c.args.self.now.vars; frames = c.pop.new.self }) c.give.new.self frame.Gift c.give.result
    (rw c.in-Some-Gift.field-0-is at c.in-Some-Gift.ensures.items) refl refl (c.give.ensures (context_of c.args.code.now c.args.columns.now))
