use Rattle.std.proofs.Common.{◌∙◌, refl, rules, w64, FitsSigned}
use Rattle.std.proofs.lemmas.Int.{to_z-of_z}
use Rattle.spd_level.proofs.Turns.{gift_turn, gift_fault}
use Rattle.spd_level.specs.declared.frame.Flow.TheVariants as flow
use Rattle.spd_level.proofs.level.Level.give.Goals as goal

pub returns-in-Ok : goal.returns-in-Ok
returns-in-Ok c context =
    let f : FitsSigned w64 c.in-Ok.value = search rules in
    rw (to_z-of_z w64 c.in-Ok.value f)
    (gift_turn context c.args.self.now (record { flow = flow.Fell; vars = c.truncate.new.self; frames = c.args.self.now.frames }) c.in-Ok.value
    (c.came_back.ensures c.args.self.now.vars.items ∙ c.in-Ok.is) refl refl c.truncate.ensures.items)

pub returns-in-Err : goal.returns-in-Err
returns-in-Err c context =
    gift_fault context c.args.self.now (record { flow = flow.Fault c.in-Err.code; vars = c.truncate.new.self; frames = c.args.self.now.frames })
    c.in-Err.code
    (c.came_back.ensures c.args.self.now.vars.items ∙ c.in-Err.is) refl refl
