use Rattle.std.proofs.Common.{inr, refl}
use Rattle.spd_spine.proofs.Putting.{front_of}
use Rattle.spd_top.proofs.telling.say.Goals as goal

pub returns-in-Err : goal.returns-in-Err
returns-in-Err g c = inr (refl, (c.in-Err.ensures.cause, front_of (g.E.Sink.state c.args.err.now) (g.E.Sink.state c.write_all_of.new.sink) c.args.line.now c.in-Err.field-0.sent c.in-Err.ensures.sent))
