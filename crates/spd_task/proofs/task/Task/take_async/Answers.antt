use Rattle.std.proofs.Common.{◌≡◌, ◌<◌, refl, ap, rules, length}
use Rattle.spd_machine.proofs.Moving.{none_in}
use Rattle.spd_task.specs.declared.task.Task.{Task}
use Rattle.spd_task.proofs.Taken.{async_taken, nothing_taken}
use Rattle.spd_task.proofs.task.Task.take_async.Goals as goal

pub returns-then-is_empty : goal.returns-then-is_empty
returns-then-is_empty c =
    let z : length c.args.task.machine.level.frames.items ≡ 0 = search rules in
    nothing_taken c.args.self.now c.args.task c.requires (none_in c.args.task.machine.level.frames.items z)

pub returns : goal.returns
returns c =
    let o = c.args.self.now in
    let b = c.args.task in
    let z : 0 < length b.machine.level.frames.items = search rules in
    let n : Task = record {
      code = o.code;
      columns = o.columns;
      kind = o.kind;
      machine = record {
        level =
            record { flow = b.machine.level.flow; vars = c.replace-saved.new.dest; frames = c.append.new.self };
        inside = o.machine.inside;
      };
      state = o.state;
    } in
    async_taken o n b c.replace-saved.result c.requires z refl refl refl refl (ap (λ v. v.items) c.replace-saved.ensures.value) refl
    (ap (λ v. v.items) c.replace-saved.ensures.after) (rw c.in_ok-push.ensures.items at c.in_ok-append.ensures.items)
