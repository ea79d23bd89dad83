-- The code of a statement by what the code of its kind is.
use Rattle.std.proofs.Common.{◌≡◌, ◌∙◌, ◌+◌, IfOk, OnOk, ap, sym, subst, arith}
use Rattle.spd_syntax.specs.declared.tree.StmtKind.{StmtKind}
use Rattle.spd_code.specs.declared.stmt.CodeBlock.{CodeBlock}
use Rattle.spd_code.specs.declared.stmt.CodeStmtKind.TheVariants as w
use Rattle.spd_code.specs.Resolved.{kind_resolved}
use Rattle.spd_check.specs.Names.{name_texts}
use Rattle.spd_check.proofs.CodeEquations as equations
use Rattle.spd_check.proofs.Lined.{stmt_lined}
use Rattle.spd_check.proofs.coding.+coding.Goals as goal

pub code_else-returns-clause-code : goal.code_else-returns-clause-code
code_else-returns-clause-code t c =
    let is = equations.else_is c.args.spaces.now c.args.block.now (name_texts c.args.scope.now.names.items) c.args.scope.now.next_block
    (λ e. let h = c.is_empty.ensures.1 e in let f = c.if-is_empty.false in absurd cc) in
    subst (λ (b : CodeBlock). IfOk c.code_block.result (λ code. code ≡ b)) (sym is) c.code_block.ensures.code

pub code_else-returns-clause-blocks : goal.code_else-returns-clause-blocks
code_else-returns-clause-blocks t c =
    let is = equations.else_counts c.args.spaces.now c.args.block.now (λ e. let h = c.is_empty.ensures.1 e in let f = c.if-is_empty.false in absurd cc) in
    subst (λ n. OnOk c.code_block.result (c.code_block.new.scope.next_block ≡ c.args.scope.now.next_block + n)) (sym is) c.code_block.ensures.blocks

pub code_kind-returns-in_ok-body-in-LetFinish-clause-code : goal.code_kind-returns-in_ok-body-in-LetFinish-clause-code
code_kind-returns-in_ok-body-in-LetFinish-clause-code t c =
    ap (λ (b : CodeBlock). w.LetFinish c.in-LetFinish.kind b) c.in_ok-body-in-LetFinish.ensures.code
    ∙ sym (ap (λ (k : StmtKind). (kind_resolved c.args.spaces.now k).code
    (name_texts c.args.scope.now.names.items) c.args.scope.now.next_block) c.in-LetFinish.is
    ∙ equations.coded_let_finish c.args.spaces.now c.in-LetFinish.name c.in-LetFinish.kind c.in-LetFinish.body
    (name_texts c.args.scope.now.names.items) c.args.scope.now.next_block)

pub code_kind-returns-in_ok-body-in-LetFinish-clause-blocks : goal.code_kind-returns-in_ok-body-in-LetFinish-clause-blocks
code_kind-returns-in_ok-body-in-LetFinish-clause-blocks t c =
    omega (
      arith,
      c.in_ok-body-in-LetFinish.ensures.blocks,
      ap (λ (k : StmtKind). (kind_resolved c.args.spaces.now k).blocks) c.in-LetFinish.is
          ∙ equations.counted_let_finish c.args.spaces.now c.in-LetFinish.name c.in-LetFinish.kind c.in-LetFinish.body,
    )

pub code_kind-returns-in_ok-body-in-Async-clause-code : goal.code_kind-returns-in_ok-body-in-Async-clause-code
code_kind-returns-in_ok-body-in-Async-clause-code t c =
    ap (λ (b : CodeBlock). w.Async b) c.in_ok-body-in-Async.ensures.code
    ∙ sym (ap (λ (k : StmtKind). (kind_resolved c.args.spaces.now k).code (name_texts c.args.scope.now.names.items) c.args.scope.now.next_block) c.in-Async.is
    ∙ equations.coded_async c.args.spaces.now c.in-Async.body (name_texts c.args.scope.now.names.items) c.args.scope.now.next_block)

pub code_kind-returns-in_ok-body-in-Async-clause-blocks : goal.code_kind-returns-in_ok-body-in-Async-clause-blocks
code_kind-returns-in_ok-body-in-Async-clause-blocks t c =
    omega (
      arith,
      c.in_ok-body-in-Async.ensures.blocks,
      ap (λ (k : StmtKind). (kind_resolved c.args.spaces.now k).blocks) c.in-Async.is
          ∙ equations.counted_async c.args.spaces.now c.in-Async.body,
    )

pub code_kind-returns-in_ok-body-in-Finish-clause-code : goal.code_kind-returns-in_ok-body-in-Finish-clause-code
code_kind-returns-in_ok-body-in-Finish-clause-code t c =
    ap (λ (b : CodeBlock). w.Finish b) c.in_ok-body-in-Finish.ensures.code
    ∙ sym (ap (λ (k : StmtKind). (kind_resolved c.args.spaces.now k).code
    (name_texts c.args.scope.now.names.items) c.args.scope.now.next_block) c.in-Finish.is
    ∙ equations.coded_finish c.args.spaces.now c.in-Finish.body (name_texts c.args.scope.now.names.items) c.args.scope.now.next_block)

pub code_kind-returns-in_ok-body-in-Finish-clause-blocks : goal.code_kind-returns-in_ok-body-in-Finish-clause-blocks
code_kind-returns-in_ok-body-in-Finish-clause-blocks t c =
    omega (
      arith,
      c.in_ok-body-in-Finish.ensures.blocks,
      ap (λ (k : StmtKind). (kind_resolved c.args.spaces.now k).blocks) c.in-Finish.is
          ∙ equations.counted_finish c.args.spaces.now c.in-Finish.body,
    )

pub code_kind-returns-in_ok-no-in-If-clause-code : goal.code_kind-returns-in_ok-no-in-If-clause-code
code_kind-returns-in_ok-no-in-If-clause-code t c =
    equations.if_alike _ _ _ _ _ _ (rw c.deref.ensures.value at c.in_ok-cond-in-If.ensures) c.in_ok-yes-in-If.ensures.code
    (rw (c.in_ok-yes-in-If.ensures.names, c.in_ok-yes-in-If.ensures.blocks) at c.in_ok-no-in-If.ensures.code)
    ∙ sym (ap (λ (k : StmtKind). (kind_resolved c.args.spaces.now k).code (name_texts c.args.scope.now.names.items) c.args.scope.now.next_block) c.in-If.is
    ∙ equations.coded_if c.args.spaces.now c.in-If.cond c.in-If.yes c.in-If.no (name_texts c.args.scope.now.names.items) c.args.scope.now.next_block)

pub code_kind-returns-in_ok-no-in-If-clause-blocks : goal.code_kind-returns-in_ok-no-in-If-clause-blocks
code_kind-returns-in_ok-no-in-If-clause-blocks t c =
    omega (
      arith,
      c.in_ok-yes-in-If.ensures.blocks,
      c.in_ok-no-in-If.ensures.blocks,
      ap (λ (k : StmtKind).
          (kind_resolved c.args.spaces.now k).blocks) c.in-If.is ∙ equations.counted_if c.args.spaces.now c.in-If.cond c.in-If.yes c.in-If.no,
    )

pub code_kind-returns-in_ok-body-in-For-clause-code : goal.code_kind-returns-in_ok-body-in-For-clause-code
code_kind-returns-in_ok-body-in-For-clause-code t c =
    equations.for_alike _ _ _ _ _ _ (rw c.deref-in-For.ensures.value at c.in_ok-from-in-For.ensures)
    (rw c.deref-in-For-2.ensures.value at c.in_ok-to-in-For.ensures) c.in_ok-body-in-For.ensures.code
    ∙ sym (ap (λ (k : StmtKind). (kind_resolved c.args.spaces.now k).code (name_texts c.args.scope.now.names.items) c.args.scope.now.next_block) c.in-For.is
    ∙ equations.coded_for c.args.spaces.now c.in-For.name c.in-For.from c.in-For.to c.in-For.body
    (name_texts c.args.scope.now.names.items) c.args.scope.now.next_block)

pub code_kind-returns-in_ok-body-in-For-clause-blocks : goal.code_kind-returns-in_ok-body-in-For-clause-blocks
code_kind-returns-in_ok-body-in-For-clause-blocks t c =
    omega (
      arith,
      c.in_ok-body-in-For.ensures.blocks,
      ap (λ (k : StmtKind). (kind_resolved c.args.spaces.now k).blocks) c.in-For.is
          ∙ equations.counted_for c.args.spaces.now c.in-For.name c.in-For.from c.in-For.to c.in-For.body,
    )

pub code_stmt-returns-clause-lined : goal.code_stmt-returns-clause-lined
code_stmt-returns-clause-lined t c = stmt_lined _ c.line_of-line.ensures.within c.in_ok-what.ensures.lined
