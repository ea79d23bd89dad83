use Rattle.std.proofs.Common.{◌∙◌, sym}
use Rattle.std.proofs.lemmas.Result.{err_from_is_err_and}
use Rattle.spd_syntax.specs.Grammar.{an_item, with_item, any_item}
use Rattle.spd_read.specs.Reading.{step}
use Rattle.spd_read.proofs.Repeat as r
use Rattle.spd_parse.proofs.items.more_items.Goals as goal

pub returns-then-not-next_is_item : goal.returns-then-not-next_is_item
returns-then-not-next_is_item c = sym c.loop.invariant ∙ r.stops _ an_item (step c.args.depth with_item any_item) _ c.loop.found _
    (sym (c.next_is_item.ensures c.args.text.now) ∙ c.if-not-next_is_item.true)

pub returns-in_err-next : goal.returns-in_err-next
returns-in_err-next c =
    let p = err_from_is_err_and c.from_residual.result c.from_residual.ensures.1 in
    rw (p.1, p.2) (r.fails _ an_item (step c.args.depth with_item any_item) c.args.text.now c.in_err-next.field-0.0 _ c.loop.counter c.loop.found _ _
    c.loop-test.true (sym (c.next_is_item.ensures c.args.text.now) ∙ c.if-not-next_is_item.false) c.in_err-next.ensures c.loop.invariant)

pub loop-preserved : goal.loop-preserved
loop-preserved c = r.goes_on _ an_item (step c.args.depth with_item any_item) _ c.loop.counter c.loop.found c.in_ok-next.next _ _ c.loop-test.true
    (sym (c.next_is_item.ensures c.args.text.now) ∙ c.if-not-next_is_item.false) c.in_ok-next.ensures ∙ c.loop.invariant

pub returns : goal.returns
returns c = sym c.loop.invariant ∙ r.is_done _ an_item (step c.args.depth with_item any_item) _ c.loop.counter c.loop.found _ c.loop-test.false
