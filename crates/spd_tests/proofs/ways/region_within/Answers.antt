use denote.Param.Send.{sendable}
use Rattle.spd_task.proofs.Sends.{task_send}
use Rattle.spd_tests.proofs.ways.region_within.Goals as goal

pub run_within-requires-send-B : goal.run_within-requires-send-B
run_within-requires-send-B c κs = search (task_send, sendable)
