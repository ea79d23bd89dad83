use Rattle.spd_spine.specs.Walk.{KeepsToMain, spine_context, MayGoOn}
use Rattle.spd_tests.proofs.spine_rows.expect_turns.Given as goal

abbrev pub invariant-loop-turned : goal.invariant-loop-turned
invariant-loop-turned g l = KeepsToMain (spine_context l.spine) × MayGoOn l.spine.standing
