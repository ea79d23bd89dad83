-- The bytes before are digits.
use Rattle.std.proofs.Common.{◌≡◌, length}
use Rattle.spd_command.specs.Values.{is_decimal}
use Rattle.spd_command.proofs.value.is_decimal.Given as goal

abbrev pub invariant-loop-digits : goal.invariant-loop-digits
invariant-loop-digits l = is_decimal l.digits ≡ is_decimal l.word

abbrev pub decreases-loop-digits : goal.decreases-loop-digits
decreases-loop-digits l = length l.digits
