use Rattle.std.proofs.Common.{arith, refl, Some, ap, length}
use Rattle.std.proofs.lemmas.List.Elements.{All-pop}
use Rattle.spd_rule.specs.Shares.{field_plan}
use Rattle.spd_work.specs.Crew.{IsUnused}
use Rattle.spd_work.proofs.Placings.{none_placed, one_more}
use Rattle.spd_work.proofs.placing.place.Goals as goal

pub loop-ready-init : goal.loop-ready-init
loop-ready-init g c =
    let items = (c.in-Some.ensures).items in
    let count = one_more c.pop.new.self.items c.args.handles.items c.in-Some.first items in
    let none = ap length c.requires.empty.0 in (
      none_placed g.Q.Ready.room g.Q.Ready.pushed c.args.field.now c.args.share c.args.workers.now.items c.requires.empty.0 c.requires.of c.requires.made,
      refl,
      omega arith,
      (All-pop (IsUnused g.Q.Ready.room g.Q.Ready.pushed (field_plan c.args.field.now)) c.args.handles.items c.pop.new.self.items
          (Some c.in-Some.first) items c.requires.unused).0,
      c.requires.room,
    )
