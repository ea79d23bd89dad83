use Rattle.std.proofs.Common.{ℕ, ◌+◌, ◌%◌, ◌^◌}
use Rattle.spd_rule.specs.Shares.{share_known, field_plan}
use Rattle.spd_counter.proofs.Turns.{claims_next}
use Rattle.spd_counter.proofs.claiming.claim.Goals as goal

pub returns-clause-root : goal.returns-clause-root
returns-clause-root g c = let field = c.args.field.now in let found : ℕ = c.claim-old.result in
    (claims_next (field_plan field) field.lawful field.flat (share_known c.args.share.now) (share_known c.claim-old.new.share) found ((found + 1) % 2 ^ 64)
    c.handle_of.result c.requires.may.right c.handle_of.ensures c.claim-old.ensures.rule).0

pub returns-clause-claims : goal.returns-clause-claims
returns-clause-claims g c = let field = c.args.field.now in let found : ℕ = c.claim-old.result in
    let k = claims_next (field_plan field) field.lawful field.flat (share_known c.args.share.now) (share_known c.claim-old.new.share) found
    ((found + 1) % 2 ^ 64) c.handle_of.result c.requires.may.right c.handle_of.ensures c.claim-old.ensures.rule in
    record { found = found; next = k.1; finish = k.2; known = c.claim-old.ensures.view; step = c.claim-old.ensures.rule }
