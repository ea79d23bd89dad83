use Rattle.std.proofs.Common.{◌∙◌}
use Rattle.spd_rule.specs.Shares.{field_plan, share_known}
use Rattle.spd_fork.proofs.Beginning.{begins_started}
use Rattle.spd_fork.proofs.worker.Worker.start.Goals as goal

pub returns-in-Some : goal.returns-in-Some
returns-in-Some c =
    let w = c.args.self.now in
    let begun = begins_started (field_plan c.args.field.now) w.seats (share_known w.share) w.stage c.requires.fits (c.rests.ensures c.if-not-rests.false)
    c.args.vertex (share_known c.start.new.share) c.in-Ours.piece c.in-Ours.ensures.starts in
    record {
      of = c.resumed.ensures.same.0 ∙ c.start.ensures.same.0 ∙ c.requires.of;
      fits = (begun.0, c.in-Some.ensures.goes w.seats begun.0 begun.1);
    }

pub returns-in-None : goal.returns-in-None
returns-in-None c =
    let w = c.args.self.now in
    let begun = begins_started (field_plan c.args.field.now) w.seats (share_known w.share) w.stage c.requires.fits (c.rests.ensures c.if-not-rests.false)
    c.args.vertex (share_known c.start.new.share) c.in-Ours.piece c.in-Ours.ensures.starts in
    record {
      of = c.resumed.ensures.same.0 ∙ c.start.ensures.same.0 ∙ c.requires.of;
      fits = c.in-None.ensures.goes ∙ begun.1.works.has.number;
    }
