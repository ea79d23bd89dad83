-- What was gathered so far are the arguments before the number.
use Rattle.std.proofs.Common.{◌≡◌, IfSome, take}
use Rattle.spd_process.proofs.arguments.all_arguments.Given as goal

abbrev pub invariant-loop-number : goal.invariant-loop-number
invariant-loop-number g l = IfSome (g.A.Arguments.told l.arguments) (λ told. l.all ≡ take l.number told)
