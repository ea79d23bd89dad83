-- What is laid are so many of them, each behind a comma.
use Rattle.std.proofs.Common.{◌≡◌, take}
use Rattle.spd_canonical.specs.Canonical.{behind_commas, name_symbols}
use Rattle.spd_canonical.specs.Layout.{laid}
use Rattle.spd_canonical.proofs.printing.put_more_names.Given as goal

abbrev pub invariant-loop-name : goal.invariant-loop-name
invariant-loop-name l = l.page ≡ laid l.initial.page (behind_commas name_symbols (take l.name-index l.names))
