use Rattle.std.proofs.Common.{◌≡◌, ◌≤◌}
use Rattle.spd_io.specs.Sink.{SameFaults}
use Rattle.spd_spine.specs.Walk.{spine_context, spine_left, spine_size, PutBeforeJob}
use Rattle.spd_spine.specs.declared.spine.Standing.TheVariants as standing
use Rattle.spd_spine.proofs.walk.go_on.Given as goal

abbrev pub invariant-loop-turn : goal.invariant-loop-turn
invariant-loop-turn g l = record {
  so_far : PutBeforeJob (spine_left l.fn.spine) (spine_left l.spine) (g.O.Sink.state l.fn.out) (g.O.Sink.state l.out);
  runs : l.spine.standing ≡ standing.Runs;
  context : spine_context l.spine ≡ spine_context l.fn.spine;
  size : spine_size l.spine ≤ spine_size l.fn.spine;
  kept : SameFaults (g.O.Sink.state l.fn.out) (g.O.Sink.state l.out);
}

abbrev pub decreases-loop-turn : goal.decreases-loop-turn
decreases-loop-turn g l = spine_size l.spine
