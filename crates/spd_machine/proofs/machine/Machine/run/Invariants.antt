use Rattle.std.proofs.Common.{◌≡◌, ◌≤◌, ◌+◌, ◌*◌, []}
use Rattle.spd_meaning.specs.Acts.{Acts, heard, work_of}
use Rattle.spd_meaning.specs.Eval.{before}
use Rattle.spd_level.specs.Columns.{context_of}
use Rattle.spd_machine.specs.Machine.{machine_frames, machine_eval, machine_measure}
use Rattle.spd_machine.proofs.machine.Machine.run.Given as goal

abbrev pub invariant-loop-met : goal.invariant-loop-met
invariant-loop-met l =
    (p : Acts) × (machine_eval (context_of l.fn.code l.fn.columns) l.fn.self ≡ before p (machine_eval (context_of l.fn.code l.fn.columns) l.self)) × (heard p
    ≡ []) ×
    (machine_frames l.self ≤ 4 * work_of p + machine_frames l.fn.self)

abbrev pub decreases-loop-met : goal.decreases-loop-met
decreases-loop-met l = machine_measure (context_of l.fn.code l.fn.columns) l.self
