use Rattle.std.proofs.Common.{◌∙◌, sym}
use Rattle.std.proofs.lemmas.Result.{err_from_is_err_and}
use Rattle.spd_syntax.specs.declared.token.Mark.TheVariants.{Comma}
use Rattle.spd_syntax.specs.Shapes.{after_mark, snoc, a_mark}
use Rattle.spd_syntax.specs.Grammar.{expression}
use Rattle.spd_read.specs.Reading.{step}
use Rattle.spd_read.proofs.Repeat as r
use Rattle.spd_parse.proofs.calls.more_arguments.Goals as goal

pub returns-then-not-next_is : goal.returns-then-not-next_is
returns-then-not-next_is c = sym c.loop.invariant ∙ r.stops _ (a_mark Comma) (step c.args.depth snoc (after_mark Comma expression)) _ c.loop.found _
    (sym (c.next_is.ensures c.args.text.now) ∙ c.if-not-next_is.true)

pub returns-in_err-next : goal.returns-in_err-next
returns-in_err-next c =
    let p = err_from_is_err_and c.from_residual-in_err-next.result c.from_residual-in_err-next.ensures.1 in
    rw (p.1, p.2) (r.fails _ (a_mark Comma) (step c.args.depth snoc (after_mark Comma expression)) c.args.text.now c.in_err-next.field-0.0 _ c.loop.counter
    c.loop.found _ _ c.loop-test.true (sym (c.next_is.ensures c.args.text.now) ∙ c.if-not-next_is.false) c.in_err-next.ensures c.loop.invariant)

pub loop-preserved : goal.loop-preserved
loop-preserved c = r.goes_on _ (a_mark Comma) (step c.args.depth snoc (after_mark Comma expression)) _ c.loop.counter c.loop.found c.in_ok-next.next _ _
    c.loop-test.true (sym (c.next_is.ensures c.args.text.now) ∙ c.if-not-next_is.false) c.in_ok-next.ensures ∙ c.loop.invariant

pub returns : goal.returns
returns c = sym c.loop.invariant ∙ r.is_done _ (a_mark Comma) (step c.args.depth snoc (after_mark Comma expression)) _ c.loop.counter c.loop.found _
    c.loop-test.false
