use Rattle.spd_rule.specs.Shares.{field_plan, share_view}
use Rattle.spd_snzi.proofs.Coming.{arrives, may_arrive_now}
use Rattle.spd_snzi.proofs.arrive.ArriveCall.turn.Goals as goal

pub add_root-requires-clause-root : goal.add_root-requires-clause-root
add_root-requires-clause-root g c κs within = let call = c.args.self.now in let goes = c.requires.goes in
    (may_arrive_now (field_plan c.args.field.now) goes.0 goes.1 call.node call.stage (share_view c.args.share.now) goes.2).root

pub add_root-requires-clause-may : goal.add_root-requires-clause-may
add_root-requires-clause-may g c κs within = let call = c.args.self.now in let goes = c.requires.goes in
    (may_arrive_now (field_plan c.args.field.now) goes.0 goes.1 call.node call.stage (share_view c.args.share.now) goes.2).adds

pub returns-clause-turned : goal.returns-clause-turned
returns-clause-turned g c node before goes = let call = c.args.self.now in
    arrives c.args.field.now node before call.node call.stage c.args.share.now c.add_root.new.share c.add_root.result goes
    c.add_root.ensures.rule c.add_root.ensures.view
