-- Of a block so many statements are laid.
use Rattle.std.proofs.Common.{◌≡◌, take, flat_map}
use Rattle.spd_canonical.specs.Canonical.{statement_symbols}
use Rattle.spd_canonical.specs.Layout.{laid}
use Rattle.spd_canonical.proofs.print_statements.+block.Given as goal

abbrev pub invariant-put_block-loop-stmt : goal.invariant-put_block-loop-stmt
invariant-put_block-loop-stmt l = l.page ≡ laid l.initial.page (flat_map statement_symbols (take l.stmt-index l.stmt-items))
