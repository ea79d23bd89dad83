-- The code so far, and that of the arguments that are left, is all.
use Rattle.std.proofs.Common.{◌≡◌, ◌++◌, drop, map}
use Rattle.spd_code.specs.Resolved.{expression_code}
use Rattle.spd_check.specs.Names.{name_texts}
use Rattle.spd_check.proofs.values.arguments.Given as goal

abbrev pub invariant-loop-expr : goal.invariant-loop-expr
invariant-loop-expr l =
    l.coded ++ map (expression_code l.spaces (name_texts l.names)) (drop l.expr-index l.expr-items)
    ≡ map (expression_code l.spaces (name_texts l.names)) l.exprs
