use Rattle.std.proofs.Common.{◌≡◌}
use Rattle.spd_io.specs.Sink.{SameFaults}
use Rattle.spd_level.specs.Columns.{context_of}
use Rattle.spd_spine.specs.Walk.{spine_context, spine_left, spine_size, MayGoOn, PutSoFar}
use Rattle.spd_spine.proofs.Spines.{whole_main}
use Rattle.spd_run.proofs.MainJobs.{LogSoFar}
use Rattle.spd_run.proofs.mains.run_main_on_workers.Given as goal

abbrev pub invariant-loop-job : goal.invariant-loop-job
invariant-loop-job g l = record {
  so_far : PutSoFar (whole_main (context_of l.fn.code l.fn.columns)) (spine_left l.spine) (g.O.Sink.state l.fn.out) (g.O.Sink.state l.out);
  logged : LogSoFar l.fn.plan (whole_main (context_of l.fn.code l.fn.columns)) (spine_left l.spine) l.fn.log l.log;
  going : MayGoOn l.spine.standing;
  context : spine_context l.spine ≡ context_of l.fn.code l.fn.columns;
  kept : SameFaults (g.O.Sink.state l.fn.out) (g.O.Sink.state l.out);
}

abbrev pub decreases-loop-job : goal.decreases-loop-job
decreases-loop-job g l = spine_size l.spine
