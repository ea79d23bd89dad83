use Rattle.std.proofs.Common.{sym, ap, length, arith}
use Rattle.std.proofs.Math.Seq.{take-add}
use Rattle.std.proofs.lemmas.List.{take_rest, length-drop}
use Rattle.spd_io.proofs.Appending.{Gets-then}
use Rattle.spd_io.proofs.sink.write_all_of.Goals as goal

pub loop-sent-preserved : goal.loop-sent-preserved
loop-sent-preserved g c =
    let given = rw (take_rest c.args.bytes.now c.loop-sent.sent) at c.in-Ok.ensures in
    record {
      within = omega (arith, given.within, length-drop c.loop-sent.sent c.args.bytes.now);
      taken = Gets-then (g.S.Sink.state c.args.sink.now) (g.S.Sink.state c.loop-sent.sink) (g.S.Sink.state c.put.new.self) _ _ _ (sym (take-add c.loop-sent.sent c.in-Ok.count c.args.bytes.now)) c.loop-sent.invariant.taken given.taken;
      kept = omega arith;
      none = λ e. absurd (omega (arith, ap length e));
    }
