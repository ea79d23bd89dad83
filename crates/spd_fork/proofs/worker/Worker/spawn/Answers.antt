use Rattle.spd_rule.specs.Shares.{field_plan, share_known}
use Rattle.spd_fork.proofs.Beginning.{begun_spawn, fit_piece}
use Rattle.spd_fork.proofs.worker.Worker.spawn.Goals as goal

pub returns : goal.returns
returns c = λ f at. let w = c.args.self.now in record {
  of = at.of;
  fits = begun_spawn (field_plan f) w.seats (share_known w.share) w.stage at.fits (c.works.ensures c.if-not-works.false) c.args.body c.args.rest
      (c.is_ready.ensures c.if-not-is_ready.false)
      (fit_piece c.args.rest (c.is_ready-else-not-is_ready.ensures c.if-not-is_ready-2.false).stage) c.new.result c.new.ensures;
}
