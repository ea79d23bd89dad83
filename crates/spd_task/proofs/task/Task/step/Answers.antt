use Rattle.std.proofs.Common.{◌<◌, refl, rules, arith, w64, FitsSigned}
use Rattle.std.proofs.lemmas.Int.{to_z-of_z}
use Rattle.spd_words.specs.Gift.{no_fault}
use Rattle.spd_machine.specs.Machine.{machine_frames, machine_eval}
use Rattle.spd_machine.specs.declared.machine.Met.TheVariants as met
use Rattle.spd_task.specs.declared.task.State.TheVariants as state
use Rattle.spd_task.specs.declared.task.Task.{Task}
use Rattle.spd_task.specs.Task.{context_in, left_of, IsFreshTask}
use Rattle.spd_task.proofs.Events.{moved_from, gave_offer, gave_fault, gave_held, gave_async, gave_finish}
use Rattle.spd_task.proofs.task.Task.step.Goals as goal

pub returns-in-Offer-clause-gave : goal.returns-in-Offer-clause-gave
returns-in-Offer-clause-gave c =
    let o = c.args.self.now in
    let b = c.begin.new.self in
    let e = c.in_ok-begin.ensures in
    let n : Task = record { code = b.code; columns = b.columns; kind = b.kind; machine = c.run.new.self; state = b.state } in
    let f : FitsSigned w64 c.in-Offer.x = search rules in
    let h = moved_from (context_in b) (left_of o) (machine_eval (context_in b) b.machine) (machine_frames o.machine) (machine_frames b.machine)
    c.run.new.self (met.Offer c.in-Offer.x) e.left e.frames (rw c.in-Offer.is at c.in_ok-x.ensures.goes) in
    rw (to_z-of_z w64 c.in-Offer.x f) (gave_offer o n (left_of o) (machine_frames o.machine) e.context e.kind c.in-Offer.x e.ready h)

pub returns-else-code-clause-gave : goal.returns-else-code-clause-gave
returns-else-code-clause-gave c =
    let o = c.args.self.now in
    let b = c.begin.new.self in
    let e = c.in_ok-begin.ensures in
    let n : Task = record { code = b.code; columns = b.columns; kind = b.kind; machine = c.run.new.self; state = b.state } in
    let l : c.in-Fault.code < no_fault = search (rules, arith) in
    let h = moved_from (context_in b) (left_of o) (machine_eval (context_in b) b.machine) (machine_frames o.machine) (machine_frames b.machine)
    c.run.new.self (met.Fault c.in-Fault.code) e.left e.frames (rw c.in-Fault.is at c.in_ok-x.ensures.goes) in
    gave_fault o n (left_of o) (machine_frames o.machine) e.context e.kind c.in-Fault.code l e.ready h

pub returns-in-Held-clause-gave : goal.returns-in-Held-clause-gave
returns-in-Held-clause-gave c =
    let o = c.args.self.now in
    let b = c.begin.new.self in
    let e = c.in_ok-begin.ensures in
    let n : Task = record { code = b.code; columns = b.columns; kind = b.kind; machine = c.run.new.self; state = b.state } in
    let h = moved_from (context_in b) (left_of o) (machine_eval (context_in b) b.machine) (machine_frames o.machine) (machine_frames b.machine)
    c.run.new.self met.Held e.left e.frames (rw c.in-Held.is at c.in_ok-x.ensures.goes) in
    let k = c.nothing.ensures in
    gave_held o n (left_of o) (machine_frames o.machine) e.context e.kind c.nothing.result e.ready k.fresh k.kind k.frames k.vars h

pub returns-in_ok-child-in-Async-clause-gave : goal.returns-in_ok-child-in-Async-clause-gave
returns-in_ok-child-in-Async-clause-gave c =
    let o = c.args.self.now in
    let b = c.begin.new.self in
    let e = c.in_ok-begin.ensures in
    let n : Task = record { code = b.code; columns = b.columns; kind = b.kind; machine = c.run.new.self; state = b.state } in
    let h = moved_from (context_in b) (left_of o) (machine_eval (context_in b) b.machine) (machine_frames o.machine) (machine_frames b.machine)
    c.run.new.self (met.Async c.in-Async.body c.in-Async.left) e.left e.frames (rw c.in-Async.is at c.in_ok-x.ensures.goes) in
    let k = c.in_ok-child-in-Async.ensures in
    gave_async o n (left_of o) (machine_frames o.machine)
    e.context e.kind c.in_ok-child-in-Async.child c.in-Async.body c.in-Async.left e.ready k.fresh k.kind k.vars k.frames h

pub returns-in_ok-child-in-Finish-clause-gave : goal.returns-in_ok-child-in-Finish-clause-gave
returns-in_ok-child-in-Finish-clause-gave c =
    let o = c.args.self.now in
    let b = c.begin.new.self in
    let e = c.in_ok-begin.ensures in
    let n : Task = record { code = b.code; columns = b.columns; kind = b.kind; machine = c.run.new.self; state = state.Waits c.in-Finish.finish } in
    let h = moved_from (context_in b) (left_of o) (machine_eval (context_in b) b.machine) (machine_frames o.machine) (machine_frames b.machine)
    c.run.new.self (met.Finish c.in-Finish.finish) e.left e.frames (rw c.in-Finish.is at c.in_ok-x.ensures.goes) in
    let k = c.in_ok-child-in-Finish.ensures in
    let r : IsFreshTask n c.in_ok-child-in-Finish.child = record {
      context = k.fresh.context;
      state = k.fresh.state;
      inside = k.fresh.inside;
      falls_through =
          k.fresh.falls_through;
    } in
    gave_finish o n (left_of o) (machine_frames o.machine) e.context e.kind c.in_ok-child-in-Finish.child c.in-Finish.finish refl r k.kind k.vars k.frames h

pub returns-in_ok-event-in-Over-clause-gave : goal.returns-in_ok-event-in-Over-clause-gave
returns-in_ok-event-in-Over-clause-gave c =
    let o = c.args.self.now in
    let b = c.begin.new.self in
    let e = c.in_ok-begin.ensures in
    c.in_ok-event-in-Over.ensures.gave o (left_of o) (machine_frames o.machine) e.context e.kind
    (moved_from (context_in b) (left_of o) (machine_eval (context_in b) b.machine) (machine_frames o.machine) (machine_frames b.machine)
    c.run.new.self met.Over e.left e.frames (rw c.in-Over.is at c.in_ok-x.ensures.goes))
