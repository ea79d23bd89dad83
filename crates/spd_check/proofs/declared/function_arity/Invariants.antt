-- No item before the place has the name.
use Rattle.std.proofs.Common.{◌≡◌, drop}
use Rattle.spd_check.specs.Items.{function_arity}
use Rattle.spd_check.proofs.declared.function_arity.Given as goal

abbrev pub invariant-loop-item : goal.invariant-loop-item
invariant-loop-item l = function_arity (drop l.item-index l.items) l.name ≡ function_arity l.items l.name
