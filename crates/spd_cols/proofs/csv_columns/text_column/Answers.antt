use Rattle.std.proofs.Common.{◌≡◌, inr, ◌∙◌, sym, refl, ap, ◌+◌, Ok, Err, Some, arith}
use Rattle.spd_cols.specs.Columns.{refused_at, most_entries}
use Rattle.spd_cols.specs.declared.fault.DataKind.TheVariants as kind
use Rattle.spd_cols.proofs.Entries.{at_entry, at_too_many}
use Rattle.spd_cols.proofs.csv_columns.text_column.Goals as goal

pub loop-row-preserved : goal.loop-row-preserved
loop-row-preserved c =
    let after = c.in_ok-advance.ensures.more (ap Ok c.if-not-branch.false) in (
      after.at,
      rw c.in_ok-push.ensures.ok
          (at_entry Some _ _ _ _ _ _ c.cell.result.now c.loop-row.invariant.1 after (omega (arith, c.loop-row-test.true)) c.cell.ensures refl),
    )

pub returns-then-branch : goal.returns-then-branch
returns-then-branch c =
    let last : c.loop-row.row ≡ most_entries + 1 = omega (arith, c.loop-row-test.false, c.loop-row.auto.row) in
    inr (
    at_too_many Some _ _ _ _ _ c.loop-row.invariant.1 (c.in_ok-advance-2.ensures.more (ap Ok c.if-branch.true)) (omega (arith, last))
    ∙ ap (λ row. refused_at row kind.TooMany) last ∙ ap Err (sym c.too_many.ensures)
    )
