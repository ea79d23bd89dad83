use Rattle.spd_rule.specs.Shares.{field_plan, share_known}
use Rattle.spd_fork.proofs.Beginning.{begun_chain}
use Rattle.spd_fork.proofs.worker.Worker.chain.Goals as goal

pub returns : goal.returns
returns c = λ f at. let w = c.args.self.now in record {
  of = at.of;
  fits = begun_chain (field_plan f) w.seats (share_known w.share) w.stage at.fits (c.works.ensures c.if-not-works.false) c.args.body c.waiting-rest.result
      (c.is_ready.ensures c.if-not-is_ready.false) (c.waiting-rest.ensures (c.is_ready-else-not-is_ready.ensures c.if-not-is_ready-2.false)) c.new.result c.new.ensures;
}
