-- The first is laid before the others.
use Rattle.std.proofs.Common.{◌≡◌, OnOk, ◌-◌, sym, ◌∙◌, ap, subst, length, take, drop}
use Rattle.spd_canonical.specs.Canonical.{part_symbols, with_commas, behind_commas}
use Rattle.spd_canonical.specs.Layout.{PageView}
use Rattle.spd_canonical.proofs.Pages.{laid_pair, commas_cons}
use Rattle.spd_canonical.proofs.print_statements.put_parts.Goals as goal

pub returns-in_ok-put_part-in-len1-up : goal.returns-in_ok-put_part-in-len1-up
returns-in_ok-put_part-in-len1-up c =
    let z = c.as_slice.result.now in
    subst (λ (page : PageView). OnOk c.put_more_parts.result (c.put_more_parts.new.page ≡ page))
    (laid_pair c.args.page.now c.put_part.new.page (with_commas part_symbols c.args.parts.now) (part_symbols c.first-item.result)
    (behind_commas part_symbols (take (length z - 1) (drop 1 z)))
    (ap (with_commas part_symbols) (sym c.as_slice.ensures.entries) ∙ commas_cons part_symbols z c.first-item.result c.in-len1-up.len_at_least c.first-item.is)
    c.in_ok-put_part-in-len1-up.ensures)
    c.put_more_parts.ensures
