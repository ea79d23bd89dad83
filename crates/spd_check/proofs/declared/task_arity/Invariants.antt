-- No item before the place has the name.
use Rattle.std.proofs.Common.{◌≡◌, drop}
use Rattle.spd_check.specs.Items.{task_arity}
use Rattle.spd_check.proofs.declared.task_arity.Given as goal

abbrev pub invariant-loop-item : goal.invariant-loop-item
invariant-loop-item l = task_arity (drop l.item-index l.items) l.name ≡ task_arity l.items l.name
