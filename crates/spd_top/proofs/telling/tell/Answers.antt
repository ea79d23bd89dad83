use Rattle.spd_top.proofs.Putting.{got_or_failed}
use Rattle.spd_top.proofs.telling.tell.Goals as goal

pub returns : goal.returns
returns g c =
    got_or_failed (g.E.Sink.state c.args.err.now) (g.E.Sink.state c.write_all_of.new.sink) c.args.line.now c.write_all_of.result c.write_all_of.ensures.all c.write_all_of.ensures.kept c.write_all_of.ensures.cause c.write_all_of.ensures.sent
