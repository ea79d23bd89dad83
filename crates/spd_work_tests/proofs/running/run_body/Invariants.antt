use Rattle.std.proofs.Common.{◌≡◌, length}
use Rattle.spd_work_tests.proofs.running.run_body.Given as goal

abbrev pub invariant-loop : goal.invariant-loop
invariant-loop g l = length l.coins.items ≡ l.counter
