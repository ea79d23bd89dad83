use Rattle.std.proofs.Common.{◌≡◌, ◌++◌, length}
use Rattle.spd_syntax.specs.Symbols.{unquoted_from, unquoted}
use Rattle.spd_read.proofs.tokens.unquoted.Given as goal

abbrev pub invariant-loop-rest : goal.invariant-loop-rest
invariant-loop-rest l = l.found ++ unquoted_from l.escaped l.rest ≡ unquoted l.text

abbrev pub decreases-loop-rest : goal.decreases-loop-rest
decreases-loop-rest l = length l.rest
