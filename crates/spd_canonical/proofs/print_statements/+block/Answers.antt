-- Statements with blocks, of which each part is laid behind the one before it.
use Rattle.std.proofs.Common.{◌≡◌, List, OnOk, take, [], ◌∷◌, ◌++◌, map, flat_map, sym, ◌∙◌, ap, subst}
use Rattle.spd_syntax.specs.declared.token.Word.TheVariants.{Else}
use Rattle.spd_syntax.specs.declared.tree.Stmt.{Stmt}
use Rattle.spd_syntax.specs.Tokens.{word}
use Rattle.spd_canonical.specs.Canonical.{expression_symbols, statement_symbols, kind_symbols, block_symbols, else_symbols, if_front, for_front}
use Rattle.spd_canonical.specs.Layout.{PageView, laid}
use Rattle.spd_canonical.proofs.Equations.{symbols_if, symbols_for}
use Rattle.spd_canonical.proofs.Pages.{laid_append, laid_pair, laid_next, else_some, block_laid}
use Rattle.std.proofs.lemmas.List.{take_all}
use Rattle.spd_canonical.proofs.print_statements.+block.Goals as goal

pub put_else-returns : goal.put_else-returns
put_else-returns t c =
    subst (λ (page : PageView). OnOk c.put_block.result (c.put_block.new.page ≡ page))
    (laid_pair c.args.page.now c.put_word.new.self (else_symbols (map statement_symbols c.args.body.now)) (word Else ∷ []) (block_symbols c.args.body.now)
    (else_some c.args.body.now (λ e. let h = c.is_empty.ensures.1 e in let is = c.if-is_empty.false in absurd cc)) c.in_ok-put_word.ensures)
    c.put_block.ensures

pub put_kind-returns-in_ok-put_block-in-If : goal.put_kind-returns-in_ok-put_block-in-If
put_kind-returns-in_ok-put_block-in-If t c =
    let front = if_front (expression_symbols c.in-If.cond) in
    let first = block_symbols c.in-If.yes in
    let second = else_symbols (map statement_symbols c.in-If.no) in
    subst (λ (page : PageView). OnOk c.put_else.result (c.put_else.new.page ≡ page))
    (laid_pair c.args.page.now c.put_block-in-If.new.page (kind_symbols c.args.what.now) (front ++ first) second
    (ap kind_symbols c.in-If.is ∙ symbols_if c.in-If.cond c.in-If.yes c.in-If.no)
    (c.in_ok-put_block-in-If.ensures ∙ ap (λ (page : PageView). laid page first) c.in_ok-put_if_front-in-If.ensures
    ∙ sym (laid_append c.args.page.now front first)))
    c.put_else.ensures

pub put_kind-returns-in_ok-put_for_front-in-For : goal.put_kind-returns-in_ok-put_for_front-in-For
put_kind-returns-in_ok-put_for_front-in-For t c =
    subst (λ (page : PageView). OnOk c.put_block-in-For.result (c.put_block-in-For.new.page ≡ page))
    (laid_pair c.args.page.now c.put_for_front.new.page (kind_symbols c.args.what.now)
    (for_front c.in-For.name (expression_symbols c.in-For.from) (expression_symbols c.in-For.to)) (block_symbols c.in-For.body)
    (ap kind_symbols c.in-For.is ∙ symbols_for c.in-For.name c.in-For.from c.in-For.to c.in-For.body)
    c.in_ok-put_for_front-in-For.ensures)
    c.put_block-in-For.ensures

pub put_block-loop-stmt-preserved : goal.put_block-loop-stmt-preserved
put_block-loop-stmt-preserved t c =
    c.in_ok-put_stmt.ensures
    ∙ laid_next statement_symbols c.put_mark.new.self c.loop-stmt.page c.as_slice-stmt-items.result.now c.loop-stmt.stmt-index c.stmt-item.result
    c.loop-stmt-test.true c.stmt-item.is c.loop-stmt.invariant

pub put_block-returns : goal.put_block-returns
put_block-returns t c =
    let all : take c.loop-stmt.stmt-index c.as_slice-stmt-items.result.now ≡ c.args.body.now =
    take_all c.loop-stmt.stmt-index c.as_slice-stmt-items.result.now c.loop-stmt-test.false ∙ c.as_slice-stmt-items.ensures.entries in
    subst (λ (page : PageView). OnOk c.put_mark-2.result (c.put_mark-2.new.self ≡ page))
    (block_laid c.args.page.now c.put_mark.new.self c.loop-stmt.page c.args.body.now c.in_ok-put_mark.ensures
    (c.loop-stmt.invariant ∙ ap (λ (body : List Stmt). laid c.put_mark.new.self (flat_map statement_symbols body)) all))
    c.put_mark-2.ensures
