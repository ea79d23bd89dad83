use Rattle.std.proofs.Common.{◌∙◌, sym}
use Rattle.std.proofs.lemmas.Result.{err_from_is_err_and}
use Rattle.spd_syntax.specs.Shapes.{snoc}
use Rattle.spd_syntax.specs.Grammar.{a_statement, statement}
use Rattle.spd_read.specs.Reading.{step}
use Rattle.spd_read.proofs.Repeat as r
use Rattle.spd_parse.proofs.statements.+block.Goals as goal

pub more_statements-returns-then-not-next_is_statement : goal.more_statements-returns-then-not-next_is_statement
more_statements-returns-then-not-next_is_statement t c = sym c.loop.invariant
    ∙ r.stops _ a_statement (step c.args.depth snoc statement) _ c.loop.found _
    (sym (c.next_is_statement.ensures c.args.text.now) ∙ c.if-not-next_is_statement.true)

pub more_statements-returns-in_err-next : goal.more_statements-returns-in_err-next
more_statements-returns-in_err-next t c =
    let p = err_from_is_err_and c.from_residual.result c.from_residual.ensures.1 in
    rw (p.1, p.2) (r.fails _ a_statement (step c.args.depth snoc statement) c.args.text.now c.in_err-next.field-0.0 _ c.loop.counter c.loop.found _ _
    c.loop-test.true (sym (c.next_is_statement.ensures c.args.text.now) ∙ c.if-not-next_is_statement.false) c.in_err-next.ensures c.loop.invariant)

pub more_statements-loop-preserved : goal.more_statements-loop-preserved
more_statements-loop-preserved t c = r.goes_on _ a_statement (step c.args.depth snoc statement) _ c.loop.counter c.loop.found c.in_ok-next.next _ _
    c.loop-test.true (sym (c.next_is_statement.ensures c.args.text.now) ∙ c.if-not-next_is_statement.false) c.in_ok-next.ensures ∙ c.loop.invariant

pub more_statements-returns : goal.more_statements-returns
more_statements-returns t c = sym c.loop.invariant ∙ r.is_done _ a_statement (step c.args.depth snoc statement) _ c.loop.counter c.loop.found _
    c.loop-test.false
