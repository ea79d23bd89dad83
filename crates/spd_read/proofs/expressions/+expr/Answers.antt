use Rattle.std.proofs.Common.{◌+◌, sym, ◌∙◌}
use Rattle.std.proofs.lemmas.Result.{err_from_is_err_and}
use Rattle.spd_syntax.specs.Symbols.{all_seen}
use Rattle.spd_syntax.specs.Grammar.{operators, operation, into, at_level}
use Rattle.spd_read.specs.Reading.{step}
use Rattle.spd_read.proofs.Repeat as r
use Rattle.spd_read.proofs.Levels.{at_zero, at_more}
use Rattle.spd_read.proofs.expressions.+expr.Goals as goal

pub behind_operand-returns-then-level-eq0 : goal.behind_operand-returns-then-level-eq0
behind_operand-returns-then-level-eq0 t c = at_zero c.args.depth c.args.level c.args.first (all_seen c.args.text.now c.args.tokens.now) c.if-level-eq0.true

pub behind_operand-returns : goal.behind_operand-returns
behind_operand-returns t c = rw (at_more c.args.depth c.args.level c.args.first (all_seen c.args.text.now c.args.tokens.now) c.if-level-eq0.false)
    c.grouped.ensures

pub operations-returns-then-not-next_is_operator : goal.operations-returns-then-not-next_is_operator
operations-returns-then-not-next_is_operator t c = sym c.loop.invariant
    ∙ r.stops _ (operators (c.args.level + 1)) (step c.args.depth into (operation (c.args.level + 1) (at_level c.args.level))) _ c.loop.left _
    (sym (c.next_is_operator.ensures c.args.text.now) ∙ c.if-not-next_is_operator.true)

pub operations-returns-in_err-next : goal.operations-returns-in_err-next
operations-returns-in_err-next t c =
    let p = err_from_is_err_and c.from_residual.result c.from_residual.ensures.1 in
    rw (p.1, p.2) (r.fails _ (operators (c.args.level + 1)) (step c.args.depth into (operation (c.args.level + 1) (at_level c.args.level))) c.args.text.now
    c.in_err-next.field-0.0 _ c.loop.counter c.loop.left _ _ c.loop-test.true
    (sym (c.next_is_operator.ensures c.args.text.now) ∙ c.if-not-next_is_operator.false) c.in_err-next.ensures c.loop.invariant)

pub operations-loop-preserved : goal.operations-loop-preserved
operations-loop-preserved t c = r.goes_on _ (operators (c.args.level + 1)) (step c.args.depth into (operation (c.args.level + 1) (at_level c.args.level))) _
    c.loop.counter c.loop.left c.in_ok-next.next _ _ c.loop-test.true (sym (c.next_is_operator.ensures c.args.text.now) ∙ c.if-not-next_is_operator.false)
    c.in_ok-next.ensures ∙ c.loop.invariant

pub operations-returns : goal.operations-returns
operations-returns t c = sym c.loop.invariant ∙ r.is_done _ (operators (c.args.level + 1))
    (step c.args.depth into (operation (c.args.level + 1) (at_level c.args.level))) _ c.loop.counter c.loop.left _ c.loop-test.false
