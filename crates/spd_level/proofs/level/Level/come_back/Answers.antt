use Rattle.std.proofs.Common.{refl, ap, ◌∙◌, rules, w64, FitsSigned}
use Rattle.std.proofs.lemmas.Int.{to_z-of_z}
use Rattle.spd_level.proofs.Turns.{call_back, call_fault}
use Rattle.spd_level.specs.declared.frame.Flow.TheVariants as flow
use Rattle.spd_level.proofs.level.Level.come_back.Goals as goal

pub returns-in_ok-keep-in-Ok : goal.returns-in_ok-keep-in-Ok
returns-in_ok-keep-in-Ok c context =
    let f : FitsSigned w64 c.in-Ok.value = search rules in
    call_back context c.args.self.now c.keep.new.self c.args.binds c.args.saved c.in-Ok.value
    (c.came_back.ensures c.args.self.now.vars.items ∙ c.in-Ok.is) (ap (λ v. v.items) c.keep.ensures.frames) c.keep.ensures.flow
    (rw (to_z-of_z w64 c.in-Ok.value f) at c.in_ok-keep-in-Ok.ensures.vars)

pub returns-in-Err : goal.returns-in-Err
returns-in-Err c context =
    call_fault context c.args.self.now (record { flow = flow.Fault c.in-Err.code; vars = c.args.saved; frames = c.args.self.now.frames })
    c.args.binds c.args.saved c.in-Err.code
    (c.came_back.ensures c.args.self.now.vars.items ∙ c.in-Err.is) refl refl
