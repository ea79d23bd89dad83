-- One more is laid.
use Rattle.std.proofs.Common.{ℕ, List, ◌∷◌, ◌∙◌, ap}
use Rattle.spd_syntax.specs.declared.token.Mark.TheVariants.{Comma}
use Rattle.spd_syntax.specs.Tokens.{mark}
use Rattle.spd_canonical.specs.Canonical.{name_symbols}
use Rattle.spd_canonical.specs.Layout.{PageView, laid}
use Rattle.spd_canonical.proofs.Pages.{laid_next}
use Rattle.spd_canonical.proofs.printing.put_more_names.Goals as goal

pub loop-name-preserved : goal.loop-name-preserved
loop-name-preserved c =
    c.in_ok-put_name.ensures ∙ ap (λ (n : List ℕ). laid c.put_mark.new.self (name_symbols n)) c.as_slice.ensures.entries
    ∙ ap (λ (page : PageView). laid page (name_symbols c.name-item.result)) c.in_ok-put_mark.ensures
    ∙ laid_next (λ x. mark Comma ∷ name_symbols x) c.args.page.now c.loop-name.page c.args.names.now c.loop-name.name-index c.name-item.result
    c.loop-name-test.true c.name-item.is c.loop-name.invariant
