-- One more is laid.
use Rattle.std.proofs.Common.{◌∷◌, ◌∙◌, ap}
use Rattle.spd_syntax.specs.declared.token.Mark.TheVariants.{Comma}
use Rattle.spd_syntax.specs.Tokens.{mark}
use Rattle.spd_canonical.specs.Canonical.{part_symbols}
use Rattle.spd_canonical.specs.Layout.{PageView, laid}
use Rattle.spd_canonical.proofs.Pages.{laid_next}
use Rattle.spd_canonical.proofs.print_statements.put_more_parts.Goals as goal

pub loop-part-preserved : goal.loop-part-preserved
loop-part-preserved c =
    c.in_ok-put_part.ensures ∙ ap (λ (page : PageView). laid page (part_symbols c.part-item.result)) c.in_ok-put_mark.ensures
    ∙ laid_next (λ x. mark Comma ∷ part_symbols x) c.args.page.now c.loop-part.page c.args.parts.now c.loop-part.part-index c.part-item.result
    c.loop-part-test.true c.part-item.is c.loop-part.invariant
