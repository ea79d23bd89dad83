use Rattle.std.proofs.Common.{◌∙◌, sym, refl, ap, arith, true, false}
use Rattle.std.specs.Prelude.{map}
use Rattle.spd_words.specs.declared.finish_kind.FinishKind.{FinishKind}
use Rattle.spd_code.specs.declared.stmt.CodeStmtKind.TheVariants as v
use Rattle.spd_code.specs.declared.stmt.CodeStmtKind.TheOpen as code
use Rattle.spd_meaning.specs.Eval.{finish_of}
use Rattle.spd_meaning.specs.Values.{all_values}
use Rattle.spd_code.specs.Coded.{code_value, around_of, eval_block, calls_of}
use Rattle.spd_code.specs.Places.{bind_if}
use Rattle.spd_level.specs.Columns.{around_columns, context_of}
use Rattle.spd_level.specs.Left.{level_left, called_in}
use Rattle.spd_level.proofs.Called.{function_in, task_in}
use Rattle.spd_level.proofs.Stepping.{turned_at, done_turned, inner_turned, met_turned}
use Rattle.spd_level.proofs.Turns.{same_calls}
use Rattle.spd_level.proofs.Rows.{row_turned}
use Rattle.spd_level.specs.declared.step.Step.TheVariants as step
use Rattle.spd_level.proofs.level.Level.statement.Goals as goal

pub returns-in_ok-bind-in-Let : goal.returns-in_ok-bind-in-Let
returns-in_ok-bind-in-Let c =
    let x = context_of c.args.code.now c.args.columns.now in
    let l = c.args.self.now in
    row_turned x c.args.left l c.bind.new.self c.args.stmt.now step.Quiet (code.Let c.in-Let.value) (c.in-Let.is ∙ sym (v.rolls-Let c.in-Let.value))
    (done_turned x l c.bind.new.self _ step.Quiet c.in_ok-bind-in-Let.ensures)

pub returns-in-Assign : goal.returns-in-Assign
returns-in-Assign c =
    let x = context_of c.args.code.now c.args.columns.now in
    let l = c.args.self.now in
    row_turned x c.args.left l c.assign.new.self c.args.stmt.now step.Quiet (code.Assign c.in-Assign.place c.in-Assign.value)
    (c.in-Assign.is ∙ sym (v.rolls-Assign c.in-Assign.place c.in-Assign.value))
    (done_turned x l c.assign.new.self _ step.Quiet c.assign.ensures)

pub returns-in-Return : goal.returns-in-Return
returns-in-Return c =
    let x = context_of c.args.code.now c.args.columns.now in
    let l = c.args.self.now in
    row_turned x c.args.left l c.give_back.new.self c.args.stmt.now step.Quiet (code.Return c.in-Return.value)
    (c.in-Return.is ∙ sym (v.rolls-Return c.in-Return.value))
    (done_turned x l c.give_back.new.self _ step.Quiet c.give_back.ensures)

pub returns-in-Offer : goal.returns-in-Offer
returns-in-Offer c =
    let x = context_of c.args.code.now c.args.columns.now in
    let l = c.args.self.now in
    row_turned x c.args.left l c.offer.new.self c.args.stmt.now c.offer.result (code.Offer c.in-Offer.value)
    (c.in-Offer.is ∙ sym (v.rolls-Offer c.in-Offer.value))
    (done_turned x l c.offer.new.self _ c.offer.result c.offer.ensures)

pub returns-in_ok-step-in-Print : goal.returns-in_ok-step-in-Print
returns-in_ok-step-in-Print c =
    let x = context_of c.args.code.now c.args.columns.now in
    let l = c.args.self.now in
    row_turned x c.args.left l c.print.new.self c.args.stmt.now c.in_ok-step-in-Print.step (code.Print c.in-Print.parts)
    (c.in-Print.is ∙ sym (v.rolls-Print c.in-Print.parts))
    (done_turned x l c.print.new.self _ c.in_ok-step-in-Print.step c.in_ok-step-in-Print.ensures)

pub returns-in_ok-choose-in-If : goal.returns-in_ok-choose-in-If
returns-in_ok-choose-in-If c =
    let x = context_of c.args.code.now c.args.columns.now in
    let l = c.args.self.now in
    row_turned x c.args.left l c.choose.new.self c.args.stmt.now step.Quiet (code.If c.in-If.cond c.in-If.yes c.in-If.no)
    (c.in-If.is ∙ sym (v.rolls-If c.in-If.cond c.in-If.yes c.in-If.no))
    (inner_turned x l c.choose.new.self _ (c.in_ok-choose-in-If.ensures.comes c.args.code.now) c.in_ok-choose-in-If.ensures.frames)

pub returns-in_ok-begin_for-in-For : goal.returns-in_ok-begin_for-in-For
returns-in_ok-begin_for-in-For c =
    let x = context_of c.args.code.now c.args.columns.now in
    let l = c.args.self.now in
    row_turned x c.args.left l c.begin_for.new.self c.args.stmt.now step.Quiet (code.For c.in-For.from c.in-For.to c.in-For.body)
    (c.in-For.is ∙ sym (v.rolls-For c.in-For.from c.in-For.to c.in-For.body))
    (inner_turned x l c.begin_for.new.self _ (c.in_ok-begin_for-in-For.ensures.comes c.args.code.now) c.in_ok-begin_for-in-For.ensures.frames)

pub returns-in-Async : goal.returns-in-Async
returns-in-Async c =
    let x = context_of c.args.code.now c.args.columns.now in
    let l = c.args.self.now in
    row_turned x c.args.left l l c.args.stmt.now _ (code.Async c.in-Async.body) (c.in-Async.is ∙ sym (v.rolls-Async c.in-Async.body))
    (met_turned x l _ _ refl c.requires tt refl (omega arith))

pub returns-in-Finish : goal.returns-in-Finish
returns-in-Finish c =
    let x = context_of c.args.code.now c.args.columns.now in
    let l = c.args.self.now in
    row_turned x c.args.left l l c.args.stmt.now _ (code.Finish c.in-Finish.body) (c.in-Finish.is ∙ sym (v.rolls-Finish c.in-Finish.body))
    (met_turned x l _ _ refl c.requires tt refl (omega arith))

pub returns-in-LetFinish : goal.returns-in-LetFinish
returns-in-LetFinish c =
    let x = context_of c.args.code.now c.args.columns.now in
    let l = c.args.self.now in
    row_turned x c.args.left l l c.args.stmt.now _ (code.LetFinish c.in-LetFinish.kind c.in-LetFinish.body)
    (c.in-LetFinish.is ∙ sym (v.rolls-LetFinish c.in-LetFinish.kind c.in-LetFinish.body))
    (met_turned x l _ _
    (ap (λ (k : FinishKind). level_left x l (finish_of k c.args.stmt.now.line (bind_if true l.vars.items)
    (eval_block (around_of x c.args.left) c.in-LetFinish.body l.vars.items)))
    (sym c.kind_of.ensures)) c.requires tt refl (omega arith))

pub returns-in_ok-step-in-LetCall : goal.returns-in_ok-step-in-LetCall
returns-in_ok-step-in-LetCall c =
    let x = context_of c.args.code.now c.args.columns.now in
    let l = c.args.self.now in
    row_turned x c.args.left l c.call.new.self c.args.stmt.now c.in_ok-step-in-LetCall.step (code.LetCall c.in-LetCall.callee c.in-LetCall.args)
    (c.in-LetCall.is ∙ sym (v.rolls-LetCall c.in-LetCall.callee c.in-LetCall.args))
    (turned_at x _ _ _ c.call.new.self c.in_ok-step-in-LetCall.step
    (ap (level_left x l) (same_calls (bind_if true l.vars.items) (all_values (map (λ e. code_value (around_columns c.args.columns.now) e l.vars.items
    c.args.stmt.now.line) c.in-LetCall.args))
    (λ vs. (calls_of x c.args.left).function c.in-LetCall.callee vs c.args.stmt.now.line)
    (λ vs. called_in x c.args.left c.args.code.now.functions c.in-LetCall.callee vs c.args.stmt.now.line)
    (λ vs. function_in x c.args.left c.in-LetCall.callee vs c.args.stmt.now.line)))
    (c.in_ok-step-in-LetCall.ensures c.args.code.now refl))

pub returns-in_ok-step-in-Run : goal.returns-in_ok-step-in-Run
returns-in_ok-step-in-Run c =
    let x = context_of c.args.code.now c.args.columns.now in
    let l = c.args.self.now in
    row_turned x c.args.left l c.call-in-Run.new.self c.args.stmt.now c.in_ok-step-in-Run.step (code.Run c.in-Run.callee c.in-Run.args)
    (c.in-Run.is ∙ sym (v.rolls-Run c.in-Run.callee c.in-Run.args))
    (turned_at x _ _ _ c.call-in-Run.new.self c.in_ok-step-in-Run.step
    (ap (level_left x l) (same_calls (bind_if false l.vars.items) (all_values (map (λ e. code_value (around_columns c.args.columns.now) e l.vars.items
    c.args.stmt.now.line) c.in-Run.args))
    (λ vs. (calls_of x c.args.left).task c.in-Run.callee vs c.args.stmt.now.line)
    (λ vs. called_in x c.args.left c.args.code.now.tasks c.in-Run.callee vs c.args.stmt.now.line)
    (λ vs. task_in x c.args.left c.in-Run.callee vs c.args.stmt.now.line)))
    (c.in_ok-step-in-Run.ensures c.args.code.now refl))
