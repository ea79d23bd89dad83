use Rattle.spd_rule.specs.Shares.{field_plan, share_view}
use Rattle.spd_snzi.proofs.Leaving.{departs, may_depart}
use Rattle.spd_snzi.proofs.depart.DepartCall.turn.Goals as goal

pub sub_root-old-requires-clause-root : goal.sub_root-old-requires-clause-root
sub_root-old-requires-clause-root g c κs within = let call = c.args.self.now in let goes = c.requires.goes in
    (may_depart (field_plan c.args.field.now) goes.0 goes.1 call.unit call.stage (share_view c.args.share.now) goes.2).root

pub sub_root-old-requires-clause-may : goal.sub_root-old-requires-clause-may
sub_root-old-requires-clause-may g c κs within = let call = c.args.self.now in let goes = c.requires.goes in
    (may_depart (field_plan c.args.field.now) goes.0 goes.1 call.unit call.stage (share_view c.args.share.now) goes.2).subs

pub returns-clause-turned : goal.returns-clause-turned
returns-clause-turned g c unit before goes = let call = c.args.self.now in
    departs c.args.field.now unit before call.unit call.stage c.args.share.now c.sub_root-old.new.share c.sub_root-old.result c.told_at-told.result goes
    c.sub_root-old.ensures.rule c.sub_root-old.ensures.view c.told_at-told.ensures
