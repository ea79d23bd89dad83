-- Each statement by what the checks of its kind are.
use Rattle.std.proofs.Common.{◌++◌}
use Rattle.std.proofs.lemmas.Result.{err_from_is_err_and}
use Rattle.spd_check.specs.Names.{name_texts}
use Rattle.spd_check.specs.Checks.{block_faults, inside_block, expression_faults}
use Rattle.spd_check.proofs.Passing.{passes_more, passes_behind, passes_regrouped}
use Rattle.spd_check.proofs.Equations as equations
use Rattle.spd_check.proofs.statements.+blocks.Goals as goal

pub check_kind-returns-in-LetCall-clause-answer : goal.check_kind-returns-in-LetCall-clause-answer
check_kind-returns-in-LetCall-clause-answer t c = rw (c.in-LetCall.is, equations.checked_let_call) c.check_let_call.ensures.answer

pub check_kind-returns-in-LetFinish-clause-answer : goal.check_kind-returns-in-LetFinish-clause-answer
unfolding block_faults inside_block
check_kind-returns-in-LetFinish-clause-answer t c = rw (c.in-LetFinish.is, equations.checked_let_finish) c.check_let_finish.ensures.answer

pub check_kind-returns-in-Assign-clause-answer : goal.check_kind-returns-in-Assign-clause-answer
check_kind-returns-in-Assign-clause-answer t c = rw (c.in-Assign.is, equations.checked_assign) (rw c.deref.ensures.value at c.check_assign.ensures)

pub check_kind-returns-in-For-clause-answer : goal.check_kind-returns-in-For-clause-answer
unfolding block_faults inside_block
check_kind-returns-in-For-clause-answer t c = rw (c.in-For.is, equations.checked_for) c.check_for.ensures.answer

pub check_kind-returns-in-Async-clause-answer : goal.check_kind-returns-in-Async-clause-answer
unfolding block_faults inside_block
check_kind-returns-in-Async-clause-answer t c = rw (c.in-Async.is, equations.checked_async) c.check_async.ensures.answer

pub check_kind-returns-in-Finish-clause-answer : goal.check_kind-returns-in-Finish-clause-answer
unfolding block_faults inside_block
check_kind-returns-in-Finish-clause-answer t c = rw (c.in-Finish.is, equations.checked_finish) c.check_inside.ensures.answer

pub check_kind-returns-in-Offer-clause-answer : goal.check_kind-returns-in-Offer-clause-answer
check_kind-returns-in-Offer-clause-answer t c = rw (c.in-Offer.is, equations.checked_offer) (rw c.deref-in-Offer.ensures.value at c.check_offer.ensures)

pub check_kind-returns-in-Run-clause-answer : goal.check_kind-returns-in-Run-clause-answer
check_kind-returns-in-Run-clause-answer t c = rw (c.in-Run.is, equations.checked_run) (rw c.deref-in-Run.ensures.value at c.check_run.ensures)

pub check_kind-returns-in-Return-clause-answer : goal.check_kind-returns-in-Return-clause-answer
check_kind-returns-in-Return-clause-answer t c = rw (c.in-Return.is, equations.checked_return) (rw c.deref-in-Return.ensures.value at c.check_return.ensures)

pub check_for-returns-in_err-check_expr-2-clause-answer : goal.check_for-returns-in_err-check_expr-2-clause-answer
check_for-returns-in_err-check_expr-2-clause-answer t c =
    let p = err_from_is_err_and c.from_residual-in_err-check_expr-2.result c.from_residual-in_err-check_expr-2.ensures.1 in
    passes_behind _ _ _ (rw c.deref.ensures.value at c.in_ok-check_expr.ensures)
    (passes_more _ _ _ _ (rw p.2 at p.1) (rw c.deref-2.ensures.value at c.in_err-check_expr-2.ensures))

pub check_kind-returns-in_err-check_if-in-If-clause-answer : goal.check_kind-returns-in_err-check_if-in-If-clause-answer
unfolding block_faults
check_kind-returns-in_err-check_if-in-If-clause-answer t c =
    let p = err_from_is_err_and c.from_residual.result c.from_residual.ensures.1 in
    let names = name_texts c.args.names.now.items in
    let cond = expression_faults c.args.items.now names c.args.line c.in-If.cond in
    let first = block_faults c.args.items.now c.in-If.yes names c.args.place in
    let second = block_faults c.args.items.now c.in-If.no names c.args.place in
    rw (c.in-If.is, equations.checked_if)
    (passes_regrouped c.from_residual.result cond first second (passes_more _ _ (cond ++ first) second
    (rw p.2 at p.1) c.in_err-check_if-in-If.ensures.answer))

pub check_kind-returns-in_ok-check_if-in-If-clause-answer : goal.check_kind-returns-in_ok-check_if-in-If-clause-answer
unfolding block_faults
check_kind-returns-in_ok-check_if-in-If-clause-answer t c =
    let names = name_texts c.args.names.now.items in
    let cond = expression_faults c.args.items.now names c.args.line c.in-If.cond in
    let first = block_faults c.args.items.now c.in-If.yes names c.args.place in
    let second = block_faults c.args.items.now c.in-If.no names c.args.place in
    rw (c.in-If.is, equations.checked_if)
    (passes_regrouped c.check_block.result cond first second
    (passes_behind c.check_block.result (cond ++ first) second c.in_ok-check_if-in-If.ensures.answer
    (rw c.in_ok-check_if-in-If.ensures.names at c.check_block.ensures.answer)))
