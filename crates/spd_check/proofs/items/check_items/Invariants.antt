-- The items before the place have no fault.
use Rattle.std.proofs.Common.{◌≡◌, drop, flat_map}
use Rattle.spd_check.specs.Checks.{item_faults}
use Rattle.spd_check.proofs.items.check_items.Given as goal

abbrev pub invariant-loop-item : goal.invariant-loop-item
invariant-loop-item l = flat_map (item_faults l.items) (drop l.item-index l.items) ≡ flat_map (item_faults l.items) l.items
