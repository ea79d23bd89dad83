-- What is laid are so many of them, each behind a comma.
use Rattle.std.proofs.Common.{◌≡◌, take}
use Rattle.spd_canonical.specs.Canonical.{behind_commas, expression_symbols}
use Rattle.spd_canonical.specs.Layout.{laid}
use Rattle.spd_canonical.proofs.print_expressions.put_more_args.Given as goal

abbrev pub invariant-loop-arg : goal.invariant-loop-arg
invariant-loop-arg l = l.page ≡ laid l.initial.page (behind_commas expression_symbols (take l.arg-index l.args))
