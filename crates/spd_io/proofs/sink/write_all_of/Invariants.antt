use Rattle.std.proofs.Common.{length, ◌-◌, ◌≡◌, ◌≤◌, [], take}
use Rattle.spd_io.specs.Sink.{Gets, SameFaults}
use Rattle.spd_io.proofs.sink.write_all_of.Given as goal

abbrev pub invariant-loop-sent : goal.invariant-loop-sent
invariant-loop-sent g l =
    record {
      within : l.sent ≤ length l.bytes;
      taken : Gets (g.S.Sink.state l.fn.sink) (g.S.Sink.state l.sink) (take l.sent l.bytes);
      kept : SameFaults (g.S.Sink.state l.fn.sink) (g.S.Sink.state l.sink);
      none : l.bytes ≡ [] → l.sink ≡ l.fn.sink;
    }

abbrev pub decreases-loop-sent : goal.decreases-loop-sent
decreases-loop-sent g l = length l.bytes - l.sent
