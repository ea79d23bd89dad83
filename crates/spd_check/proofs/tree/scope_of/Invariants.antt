-- The parameters before the place are visible.
use Rattle.std.proofs.Common.{◌≡◌, take}
use Rattle.spd_check.specs.Names.{name_texts}
use Rattle.spd_check.proofs.tree.scope_of.Given as goal

abbrev pub invariant-loop-param : goal.invariant-loop-param
invariant-loop-param l = name_texts l.names.items ≡ take l.param-index l.param-items
