use Rattle.std.proofs.Common.{refl}
use Rattle.spd_counter.specs.declared.increment.IncrementStage.TheVariants as stage
use Rattle.spd_counter.proofs.Turns.{arrived, claimed}
use Rattle.spd_counter.proofs.increment.IncrementCall.turn.Goals as goal

pub returns-in-Arrive-clause-turned : goal.returns-in-Arrive-clause-turned
returns-in-Arrive-clause-turned g c before goes = let n = c.arrive.result in
    arrived c.args.field.now c.args.self.now c.args.share.now c.arrive.new.share before goes record { stage = stage.Claim n } n c.in-Arrive.is refl
    c.arrive.ensures.arrives

pub returns-in-Claim-clause-turned : goal.returns-in-Claim-clause-turned
returns-in-Claim-clause-turned g c before goes = let field = c.args.field.now in
    claimed field c.args.self.now c.args.share.now c.claim-claimed.new.share before goes field.lawful field.flat c.in-Claim.arrived c.claim-claimed.result
    c.stands_still-grown.result c.in-Claim.is c.stands_still-grown.ensures c.claim-claimed.ensures.root c.claim-claimed.ensures.claims
