use Rattle.std.proofs.Common.{refl, ap}
use Rattle.spd_machine.specs.declared.machine.Machine.{Machine}
use Rattle.spd_task.specs.Task.{context_in}
use Rattle.spd_task.proofs.Events.{resumes_so}
use Rattle.spd_task.proofs.task.Task.begin.Goals as goal

pub returns-in_ok-settle-in-Resumed-clause-left : goal.returns-in_ok-settle-in-Resumed-clause-left
returns-in_ok-settle-in-Resumed-clause-left c =
    let r = c.in-Resumed in
    let o = c.args.self.now in
    let n : Machine = record { level = c.settle.new.self; inside = o.machine.inside } in
    resumes_so (context_in o) o.state o.machine n r.binds r.line r.given r.is refl
    (ap (λ v. v.items) c.settle.ensures.frames) c.in_ok-settle-in-Resumed.ensures.now
