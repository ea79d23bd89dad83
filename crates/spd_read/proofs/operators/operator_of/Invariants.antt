use Rattle.std.proofs.Common.{◌≡◌, length}
use Rattle.spd_syntax.specs.Grammar.{operator_in}
use Rattle.spd_syntax.specs.declared.operators.TheConstants.{OPERATORS}
use Rattle.spd_read.proofs.operators.operator_of.Given as goal

abbrev pub invariant-loop-table : goal.invariant-loop-table
invariant-loop-table l = operator_in l.level l.mark l.table ≡ operator_in l.level l.mark OPERATORS

abbrev pub decreases-loop-table : goal.decreases-loop-table
decreases-loop-table l = length l.table
