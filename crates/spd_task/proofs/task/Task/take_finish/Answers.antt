use Rattle.std.proofs.Common.{◌≡◌, ◌∙◌, ◌+◌, refl, sym, ap, subst, rules, length}
use Rattle.spd_words.specs.declared.finish_kind.FinishKind.{FinishKind}
use Rattle.spd_task.specs.TaskEvents.{TaskTakesIn}
use Rattle.spd_words.specs.declared.event.Part.TheVariants as part
use Rattle.spd_machine.specs.Machine.{machine_frames}
use Rattle.spd_task.specs.declared.task.State.{State}
use Rattle.spd_task.specs.declared.task.State.TheVariants as state
use Rattle.spd_task.specs.declared.task.Task.{Task}
use Rattle.spd_task.specs.Task.{context_in, fits_task, RunsBlock}
use Rattle.spd_task.proofs.Taken.{finish_taken}
use Rattle.spd_task.proofs.task.Task.take_finish.Goals as goal

pub returns-in_ok-take-in-Waits : goal.returns-in_ok-take-in-Waits
returns-in_ok-take-in-Waits c =
    let o = c.args.self.now in
    let b = c.args.task in
    let f = c.in-Waits.finish in
    let n : Task = record { code = o.code; columns = o.columns; kind = o.kind; machine = c.take.new.self; state = c.replace.new.dest } in
    let s : o.state ≡ state.Waits f = search rules in
    let ns : c.replace.new.dest ≡ state.Ready = search rules in
    let r = c.requires in
    let blk = subst (λ (st : State). RunsBlock st c.args.kind o.machine b) s r.2 in
    let fits = subst (λ (k : FinishKind). fits_task o (part.Finish k b)) blk.0 r in
    let w = c.in_ok-take-in-Waits.ensures.frames ∙ ap (λ fs. machine_frames o.machine + (length fs + 1)) blk.2 in
    let l = c.in_ok-take-in-Waits.ensures.left (context_in o) f.body f.left r.0.falls_through blk.1 blk.2 in
    subst (λ (k : FinishKind). TaskTakesIn o n (part.Finish k b)) (sym blk.0)
    (finish_taken o n b f fits s refl refl ns w l)
