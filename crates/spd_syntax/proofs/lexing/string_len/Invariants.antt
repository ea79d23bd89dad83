use Rattle.std.proofs.Common.{◌≡◌, ◌+◌, length, false}
use Rattle.spd_syntax.specs.Tokens.{string_end}
use Rattle.spd_syntax.proofs.lexing.string_len.Given as goal

abbrev pub invariant-loop-z : goal.invariant-loop-z
invariant-loop-z l = (string_end l.escaped l.at l.z ≡ string_end false 1 l.initial.z) × (l.at + length l.z ≡ length l.initial.z + 1)

abbrev pub decreases-loop-z : goal.decreases-loop-z
decreases-loop-z l = length l.z
