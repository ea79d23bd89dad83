use Rattle.std.proofs.Common.{◌∙◌, refl, ap, length, ◌+◌}
use Rattle.spd_machine.specs.Machine.{machine_frames}
use Rattle.spd_machine.proofs.Moving.{taken, taken_weight}
use Rattle.spd_level.specs.declared.level.Level.{Level}
use Rattle.spd_machine.specs.declared.machine.Inside.{Inside}
use Rattle.spd_machine.proofs.machine.Machine.take.Goals as goal

pub returns-clause-frames : goal.returns-clause-frames
returns-clause-frames c =
    let i : Inside = record { tally = c.new.result; binds = c.args.binds; line = c.args.line; outer = c.replace-outer.result } in
    taken_weight c.args.self.now (record { level = c.replace-outer.new.dest; inside = c.push.new.self })
    i c.in_ok-push.ensures.items c.replace-outer.ensures.value
    ∙ ap (λ (l : Level). machine_frames c.args.self.now + (length l.frames.items + 1)) c.replace-outer.ensures.after

pub returns-clause-left : goal.returns-clause-left
returns-clause-left c context body left f vs fs =
    let i : Inside = record { tally = c.new.result; binds = c.args.binds; line = c.args.line; outer = c.replace-outer.result } in
    let a = c.replace-outer.ensures.after in
    rw c.new.ensures at (taken context c.args.self.now (record { level = c.replace-outer.new.dest; inside = c.push.new.self })
    i body left c.in_ok-push.ensures.items c.replace-outer.ensures.value (rw c.new.ensures refl)
    (ap (λ (l : Level). l.flow) a ∙ f) (ap (λ (l : Level). l.vars.items) a ∙ vs) (ap (λ (l : Level). l.frames.items) a ∙ fs))
