use Rattle.std.proofs.Common.{◌∙◌, refl, ap, arith, [], ◌++◌}
use Rattle.spd_meaning.specs.Acts.{Acts, heard, work_of}
use Rattle.spd_meaning.specs.Eval.{before}
use Rattle.spd_level.specs.Columns.{context_of}
use Rattle.spd_machine.specs.Machine.{machine_frames, machine_eval}
use Rattle.spd_meaning.proofs.Sequence.{before_both}
use Rattle.spd_meaning.proofs.Hearing.{heard_both, work_both}
use Rattle.spd_machine.proofs.Moving.{further}
use Rattle.spd_machine.proofs.Eliding.{falls_by}
use Rattle.spd_machine.proofs.machine.Machine.run.Goals as goal

pub loop-met-init : goal.loop-met-init
unfolding work_of
loop-met-init c = ([], refl, refl, omega arith)

pub loop-met-preserved : goal.loop-met-preserved
loop-met-preserved c =
    let h = rw c.in-Quiet.is at c.in_ok-met.ensures in
    let i = c.loop-met.invariant in
    let x = i.3 in
    let y = h.falls in
    let w = work_both i.0 h.given in (
      i.0 ++ h.given,
      i.1 ∙ ap (before i.0) h.is ∙ before_both i.0 h.given (machine_eval (context_of c.args.code.now c.args.columns.now)
          c.turn.new.self),
      heard_both i.0 h.given ∙ ap (λ (z : Acts). z ++ heard h.given) i.2 ∙ h.said,
      omega arith,
    )

pub loop-met-smaller : goal.loop-met-smaller
loop-met-smaller c =
    let h = rw c.in-Quiet.is at c.in_ok-met.ensures in
    falls_by h.given (machine_eval (context_of c.args.code.now c.args.columns.now) c.loop-met.self) (machine_eval (context_of c.args.code.now
    c.args.columns.now) c.turn.new.self)
    (machine_frames c.loop-met.self) (machine_frames c.turn.new.self) h.is h.falls

pub returns-in_default-clause-goes : goal.returns-in_default-clause-goes
returns-in_default-clause-goes c =
    let x = context_of c.args.code.now c.args.columns.now in
    let i = c.loop-met.invariant in
    further x (machine_eval x c.args.self.now) (machine_eval x c.loop-met.self) i.0 (machine_frames c.args.self.now) (machine_frames c.loop-met.self)
    c.turn.new.self c.in_ok-met.met i.1 i.2 i.3 c.in_ok-met.ensures
