-- Those before the place have no fault.
use Rattle.std.proofs.Common.{◌≡◌, drop}
use Rattle.spd_check.specs.Names.{name_texts}
use Rattle.spd_check.specs.Checks.{expressions_faults}
use Rattle.spd_check.proofs.expressions.check_exprs.Given as goal

abbrev pub invariant-loop-expr : goal.invariant-loop-expr
invariant-loop-expr l =
    expressions_faults l.items (name_texts l.names) l.line (drop l.expr-index l.expr-items) ≡ expressions_faults l.items (name_texts l.names) l.line l.exprs
