use Rattle.std.proofs.Common.{◌≡◌, refl, rules}
use Rattle.spd_level.proofs.Turns.{async_fell, async_back, async_fault}
use Rattle.spd_level.specs.declared.frame.Flow.TheVariants as flow
use Rattle.spd_level.proofs.level.Level.leave.Goals as goal

pub returns-in-Fault : goal.returns-in-Fault
returns-in-Fault c context =
    let f : c.args.self.now.flow ≡ flow.Fault c.in-Fault.code = search rules in
    let g : c.replace.new.dest ≡ flow.Fell = search rules in
    async_fault context c.args.self.now (record { flow = c.replace.new.dest; vars = c.args.saved; frames = c.args.self.now.frames })
    c.args.saved c.in-Fault.code f refl g refl

pub returns-in-Back : goal.returns-in-Back
returns-in-Back c context =
    let f : c.args.self.now.flow ≡ flow.Back c.in-Back.field-0 = search rules in
    let g : c.replace.new.dest ≡ flow.Fell = search rules in
    async_back context c.args.self.now (record { flow = c.replace.new.dest; vars = c.args.saved; frames = c.args.self.now.frames })
    c.args.saved c.in-Back.field-0 f refl g refl

pub returns-in-Fell : goal.returns-in-Fell
returns-in-Fell c context =
    let f : c.args.self.now.flow ≡ flow.Fell = search rules in
    let g : c.replace.new.dest ≡ flow.Fell = search rules in
    async_fell context c.args.self.now (record { flow = c.replace.new.dest; vars = c.args.saved; frames = c.args.self.now.frames })
    c.args.saved f refl g refl
