use Rattle.std.proofs.Common.{◌≡◌, None}
use Rattle.spd_words.specs.Meaning.{Going}
use Rattle.spd_task.specs.Task.{task_view}
use Rattle.spd_task_tests.proofs.resumes.expect_resumed.Given as goal

abbrev pub invariant-loop : goal.invariant-loop
invariant-loop g l = ((task_view l.task).means.awaited ≡ None) × ((task_view l.task).stage ≡ Going)
