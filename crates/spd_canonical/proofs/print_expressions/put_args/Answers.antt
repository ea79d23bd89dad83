-- The first is laid before the others.
use Rattle.std.proofs.Common.{◌≡◌, OnOk, ◌-◌, sym, ◌∙◌, ap, subst, length, take, drop}
use Rattle.spd_canonical.specs.Canonical.{expression_symbols, with_commas, behind_commas}
use Rattle.spd_canonical.specs.Layout.{PageView}
use Rattle.spd_canonical.proofs.Pages.{laid_pair, commas_cons}
use Rattle.spd_canonical.proofs.print_expressions.put_args.Goals as goal

pub returns-in_ok-put_expr-in-len1-up : goal.returns-in_ok-put_expr-in-len1-up
returns-in_ok-put_expr-in-len1-up c =
    let z = c.as_slice.result.now in
    subst (λ (page : PageView). OnOk c.put_more_args.result (c.put_more_args.new.page ≡ page))
    (laid_pair c.args.page.now c.put_expr.new.page (with_commas expression_symbols c.args.args.now) (expression_symbols c.first-item.result)
    (behind_commas expression_symbols (take (length z - 1) (drop 1 z)))
    (ap (with_commas expression_symbols) (sym c.as_slice.ensures.entries)
    ∙ commas_cons expression_symbols z c.first-item.result c.in-len1-up.len_at_least c.first-item.is)
    c.in_ok-put_expr-in-len1-up.ensures)
    c.put_more_args.ensures
