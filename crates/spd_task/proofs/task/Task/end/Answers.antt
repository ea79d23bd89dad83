use Rattle.std.proofs.Common.{◌≡◌, ◌<◌, refl, rules, arith}
use Rattle.spd_words.specs.Gift.{no_fault}
use Rattle.spd_level.specs.declared.frame.Flow.TheVariants as flow
use Rattle.spd_task.specs.declared.task.Task.{Task}
use Rattle.spd_task.proofs.Events.{gave_own}
use Rattle.spd_task.proofs.task.Task.end.Goals as goal

pub returns-else-code-clause-gave : goal.returns-else-code-clause-gave
returns-else-code-clause-gave c o a n context kind h =
    let t = c.args.self.now in
    let l : c.in-Fault.code < no_fault = search (rules, arith) in
    let z : t.machine.level.flow ≡ flow.Fault c.in-Fault.code = search rules in
    let f : c.replace.new.dest ≡ flow.Fell = search rules in
    let new : Task = record {
      code = t.code;
      columns = t.columns;
      kind = t.kind;
      machine = record {
        level =
            record { flow = c.replace.new.dest; vars = t.machine.level.vars; frames = t.machine.level.frames };
        inside = t.machine.inside;
      };
      state = t.state;
    } in
    gave_own o new a n context kind t.machine c.in-Fault.code l c.requires z f refl refl h
