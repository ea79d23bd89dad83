-- One more is laid.
use Rattle.std.proofs.Common.{◌∷◌, ◌∙◌, ap}
use Rattle.spd_syntax.specs.declared.token.Mark.TheVariants.{Comma}
use Rattle.spd_syntax.specs.Tokens.{mark}
use Rattle.spd_canonical.specs.Canonical.{expression_symbols}
use Rattle.spd_canonical.specs.Layout.{PageView, laid}
use Rattle.spd_canonical.proofs.Pages.{laid_next}
use Rattle.spd_canonical.proofs.print_expressions.put_more_args.Goals as goal

pub loop-arg-preserved : goal.loop-arg-preserved
loop-arg-preserved c =
    c.in_ok-put_expr.ensures ∙ ap (λ (page : PageView). laid page (expression_symbols c.arg-item.result)) c.in_ok-put_mark.ensures
    ∙ laid_next (λ x. mark Comma ∷ expression_symbols x) c.args.page.now c.loop-arg.page c.args.args.now c.loop-arg.arg-index c.arg-item.result
    c.loop-arg-test.true c.arg-item.is c.loop-arg.invariant
