-- Of the program so many items are laid.
use Rattle.std.proofs.Common.{◌≡◌, take, flat_map}
use Rattle.spd_syntax.specs.declared.tree.Item.{Item}
use Rattle.spd_canonical.specs.Canonical.{item_symbols}
use Rattle.spd_canonical.specs.Layout.{laid, empty_page}
use Rattle.spd_canonical.proofs.printing.printed.Given as goal

abbrev pub invariant-loop-item : goal.invariant-loop-item
invariant-loop-item l = l.page ≡ laid empty_page (flat_map (λ (item : Item). item_symbols item.what) (take l.item-index l.item-items))
