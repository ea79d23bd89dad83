-- What is laid are so many of them, each behind a comma.
use Rattle.std.proofs.Common.{◌≡◌, take}
use Rattle.spd_canonical.specs.Canonical.{behind_commas, part_symbols}
use Rattle.spd_canonical.specs.Layout.{laid}
use Rattle.spd_canonical.proofs.print_statements.put_more_parts.Given as goal

abbrev pub invariant-loop-part : goal.invariant-loop-part
invariant-loop-part l = l.page ≡ laid l.initial.page (behind_commas part_symbols (take l.part-index l.parts))
