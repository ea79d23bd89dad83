use Rattle.std.proofs.Common.{◌≡◌, length}
use Rattle.spd_code.specs.Places.{fitted}
use Rattle.spd_level.proofs.calls.fit.Given as goal

abbrev pub invariant-loop-place : goal.invariant-loop-place
invariant-loop-place l = (fitted l.params l.args.items ≡ fitted l.params l.fn.args.items) × (length l.args.items ≡ l._place)
