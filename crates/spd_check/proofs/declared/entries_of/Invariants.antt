-- No item before the place has the name.
use Rattle.std.proofs.Common.{◌≡◌, drop}
use Rattle.spd_check.specs.Items.{entries_of}
use Rattle.spd_check.proofs.declared.entries_of.Given as goal

abbrev pub invariant-loop-item : goal.invariant-loop-item
invariant-loop-item l = entries_of (drop l.item-index l.items) l.name ≡ entries_of l.items l.name
