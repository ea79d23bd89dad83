use Rattle.std.proofs.Common.{◌∙◌}
use Rattle.spd_rule.specs.Shares.{field_plan, share_known}
use Rattle.spd_fork.proofs.Beginning.{fits_seen}
use Rattle.spd_fork.proofs.worker.Worker.look.Goals as goal

pub returns : goal.returns
returns c = let w = c.args.self.now in record {
  of = c.see_vertex.ensures.same.0 ∙ c.requires.of;
  fits = fits_seen (field_plan c.args.field.now) w.seats (share_known w.share) w.stage c.requires.fits (c.rests.ensures c.if-not-rests.false)
      c.args.vertex c.see_vertex.result (share_known c.see_vertex.new.share) c.see_vertex.ensures.view;
}
