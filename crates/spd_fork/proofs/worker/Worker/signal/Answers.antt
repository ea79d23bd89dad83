use Rattle.spd_rule.specs.Shares.{field_plan, share_known}
use Rattle.spd_fork.proofs.Beginning.{begun_signal}
use Rattle.spd_fork.proofs.worker.Worker.signal.Goals as goal

pub returns : goal.returns
returns c = λ f at. let w = c.args.self.now in record {
  of = at.of;
  fits = begun_signal (field_plan f) w.seats (share_known w.share) w.stage at.fits (c.works.ensures c.if-not-works.false) c.new.result c.new.ensures;
}
