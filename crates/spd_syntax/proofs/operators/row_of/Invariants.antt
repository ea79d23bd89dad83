use Rattle.std.proofs.Common.{◌≡◌, length}
use Rattle.spd_syntax.specs.Operators.{row_in}
use Rattle.spd_syntax.specs.declared.operators.TheConstants.{OPERATORS}
use Rattle.spd_syntax.proofs.operators.row_of.Given as goal

abbrev pub invariant-loop-table : goal.invariant-loop-table
invariant-loop-table l = row_in l.op l.table ≡ row_in l.op OPERATORS

abbrev pub decreases-loop-table : goal.decreases-loop-table
decreases-loop-table l = length l.table
