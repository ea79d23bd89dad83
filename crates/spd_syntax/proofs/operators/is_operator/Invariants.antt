use Rattle.std.proofs.Common.{◌≡◌, length}
use Rattle.spd_syntax.specs.Operators.{has_mark}
use Rattle.spd_syntax.specs.declared.operators.TheConstants.{OPERATORS}
use Rattle.spd_syntax.proofs.operators.is_operator.Given as goal

abbrev pub invariant-loop-table : goal.invariant-loop-table
invariant-loop-table l = has_mark l.mark l.table ≡ has_mark l.mark OPERATORS

abbrev pub decreases-loop-table : goal.decreases-loop-table
decreases-loop-table l = length l.table
