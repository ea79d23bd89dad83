-- Expressions of two parts, of which the first is laid before the second.
use Rattle.std.proofs.Common.{◌≡◌, ℕ, List, OnOk, [], ◌∷◌, ◌++◌, sym, ◌∙◌, ap, subst, append_assoc}
use Rattle.spd_syntax.specs.declared.token.Mark.TheVariants.{Comma, LeftParen, RightParen}
use Rattle.spd_syntax.specs.declared.token.Word.TheVariants.{At}
use Rattle.spd_syntax.specs.declared.tree.BinOp.{BinOp}
use Rattle.spd_syntax.specs.declared.tree.Expr.{Expr}
use Rattle.spd_syntax.specs.declared.tree.Expr.TheVariants as e
use Rattle.spd_syntax.specs.Tokens.{Symbol, word, mark}
use Rattle.spd_canonical.specs.Canonical.{expression_symbols, printed_of, left_symbols, right_symbols, place_symbols, at_front, Printed, operand_symbols}
use Rattle.spd_canonical.specs.Layout.{PageView, laid}
use Rattle.spd_canonical.proofs.Equations.{printed_binary, printed_at}
use Rattle.spd_canonical.proofs.Pages.{laid_append, laid_pair}
use Rattle.spd_canonical.proofs.print_expressions.+expr.Goals as goal

binary_laid : (start middle : PageView) (whole : Expr) (op : BinOp) (x y : Expr) (level : ℕ) → whole ≡ e.Binary op x y
    → middle ≡ laid start (left_symbols op (printed_of x)) → right_symbols op (printed_of y) ≡ operand_symbols level (printed_of y)
    → laid middle (operand_symbols level (printed_of y)) ≡ laid start (expression_symbols whole)
binary_laid start middle whole op x y level is h k =
    laid_pair start middle (expression_symbols whole) (left_symbols op (printed_of x)) (operand_symbols level (printed_of y))
    (ap expression_symbols is ∙ ap (λ (p : Printed). p.symbols) (printed_binary op x y) ∙ ap (λ (ss : List Symbol). left_symbols op (printed_of x) ++ ss) k) h

at_laid : (start middle : PageView) (whole : Expr) (n : List ℕ) (x y : Expr) → whole ≡ e.At n x y → middle ≡ laid start (at_front n (expression_symbols x))
    → laid middle (expression_symbols y ++ mark RightParen ∷ []) ≡ laid start (expression_symbols whole)
at_laid start middle whole n x y is h =
    laid_pair start middle (expression_symbols whole) (at_front n (expression_symbols x)) (expression_symbols y ++ mark RightParen ∷ [])
    (ap expression_symbols is ∙ ap (λ (p : Printed). p.symbols) (printed_at n x y)
    ∙ ap (λ (ss : List Symbol). word At ∷ mark LeftParen ∷ ss) (append_assoc (place_symbols n (expression_symbols x) ++ mark Comma ∷ [])
    (expression_symbols y) (mark RightParen ∷ [])))
    h

pub put_expr-returns-in_ok-put_left-in-Binary : goal.put_expr-returns-in_ok-put_left-in-Binary
put_expr-returns-in_ok-put_left-in-Binary t c =
    subst (λ (page : PageView). OnOk c.put_operand-in-Binary.result (c.put_operand-in-Binary.new.page ≡ page))
    (binary_laid c.args.page.now c.put_left.new.page c.args.x.now c.in-Binary.op c.get-in-Binary.result.now c.get-in-Binary-2.result.now c.binary_level.result
    (rw (c.get-in-Binary.ensures, c.get-in-Binary-2.ensures) c.in-Binary.is)
    c.in_ok-put_left-in-Binary.ensures
    (ap (λ (level : ℕ). operand_symbols level (printed_of c.get-in-Binary-2.result.now)) (sym c.binary_level.ensures.value)))
    c.put_operand-in-Binary.ensures

pub put_expr-returns-in_ok-put_expr-in-At : goal.put_expr-returns-in_ok-put_expr-in-At
put_expr-returns-in_ok-put_expr-in-At t c =
    let h = c.in_ok-put_expr-in-At.ensures in
    let both : laid c.put_expr.new.page (mark RightParen ∷ []) ≡ laid c.put_at_front.new.page
    (expression_symbols c.get-in-At-2.result.now ++ mark RightParen ∷ []) =
    ap (λ (page : PageView). laid page (mark RightParen ∷ [])) h ∙ sym (laid_append c.put_at_front.new.page (expression_symbols c.get-in-At-2.result.now)
    (mark RightParen ∷ [])) in
    subst (λ (page : PageView). OnOk c.put_mark-in-At.result (c.put_mark-in-At.new.self ≡ page))
    (both ∙ at_laid c.args.page.now c.put_at_front.new.page c.args.x.now c.in-At.name c.get-in-At.result.now c.get-in-At-2.result.now
    (rw (c.get-in-At.ensures, c.get-in-At-2.ensures) c.in-At.is)
    c.in_ok-put_at_front-in-At.ensures)
    c.put_mark-in-At.ensures
