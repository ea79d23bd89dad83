-- There are as many coins as turns.
use Rattle.std.proofs.Common.{◌≡◌, length}
use Rattle.spd_run_tests.proofs.running.coins_of.Given as goal

abbrev pub invariant-loop : goal.invariant-loop
invariant-loop l = length l.coins.items ≡ l.counter
