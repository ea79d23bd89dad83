-- No item before the place declares anything again.
use Rattle.std.proofs.Common.{◌≡◌, drop, take, []}
use Rattle.spd_check.specs.Checks.{again_faults}
use Rattle.spd_check.proofs.items.check_again.Given as goal

abbrev pub invariant-loop-place : goal.invariant-loop-place
invariant-loop-place l = again_faults (take l.place l.items) (drop l.place l.items) ≡ again_faults [] l.items
