-- One more item is laid.
use Rattle.std.proofs.Common.{◌∙◌}
use Rattle.spd_syntax.specs.declared.tree.Item.{Item}
use Rattle.spd_canonical.specs.Canonical.{item_symbols}
use Rattle.spd_canonical.specs.Layout.{empty_page}
use Rattle.spd_canonical.proofs.Pages.{laid_next}
use Rattle.spd_canonical.proofs.printing.printed.Goals as goal

pub loop-item-preserved : goal.loop-item-preserved
loop-item-preserved c =
    c.in_ok-put_item.ensures
    ∙ laid_next (λ (item : Item). item_symbols item.what) empty_page c.loop-item.page c.as_slice-item-items.result.now c.loop-item.item-index
    c.item-item.result c.loop-item-test.true c.item-item.is c.loop-item.invariant
