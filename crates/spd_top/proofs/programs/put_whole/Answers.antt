-- The bytes were put, or `out` failed in them.
use Rattle.spd_spine.proofs.Putting.{front_of}
use Rattle.spd_top.specs.Serving.{took, out_stopped}
use Rattle.spd_top.proofs.Putting.{takes_nothing}
use Rattle.spd_top.proofs.programs.put_whole.Goals as goal

pub returns-in-Ok : goal.returns-in-Ok
returns-in-Ok g c = took (c.in-Ok.ensures.all, c.in-Ok.ensures.kept) (takes_nothing (g.E.Sink.state c.args.err.now))

pub returns-in-Err : goal.returns-in-Err
returns-in-Err g c = rw c.fail_write.ensures.status (out_stopped (
  c.in-Err.ensures.cause,
  front_of (g.O.Sink.state c.args.out.now) (g.O.Sink.state c.write_all_of.new.sink) _ _ c.in-Err.ensures.sent,
) c.fail_write.ensures.told)
