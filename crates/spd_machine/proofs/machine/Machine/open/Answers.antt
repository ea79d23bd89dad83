use Rattle.std.proofs.Common.{◌∙◌, ap, ◌∷◌, [], length, ◌+◌, List}
use Rattle.spd_words.specs.Total.{nothing}
use Rattle.spd_meaning.specs.Acts.{Begin, Finish}
use Rattle.spd_meaning.specs.Eval.{before, finish_left}
use Rattle.spd_code.specs.Coded.{around_of, eval_block}
use Rattle.spd_code.specs.Places.{bind_if}
use Rattle.spd_machine.specs.Machine.{machine_frames}
use Rattle.spd_machine.proofs.Moving.{machine_passed}
use Rattle.spd_level.specs.declared.frame.Frame.{Frame}
use Rattle.spd_machine.proofs.machine.Machine.open.Goals as goal

pub returns-clause-frames : goal.returns-clause-frames
returns-clause-frames c = c.in_ok-take.ensures.frames ∙ ap (λ (fs : List Frame). machine_frames c.args.self.now + (length fs + 1)) c.in_ok-level.ensures.frames

pub returns-clause-left : goal.returns-clause-left
returns-clause-left c context =
    let m = c.args.self.now in
    let f = c.args.finish in
    let a = finish_left f.kind (nothing f.kind) f.line (bind_if f.binds m.level.vars.items)
    (eval_block (around_of context f.left) f.body.now m.level.vars.items) in
    machine_passed context m (Begin Finish ∷ []) a
    ∙ ap (before (Begin Finish ∷ [])) (c.in_ok-take.ensures.left context f.body f.left c.in_ok-level.ensures.flow
    (c.in_ok-level.ensures.vars ∙ c.in_ok-vars.ensures) c.in_ok-level.ensures.frames)
