use Rattle.std.proofs.Common.{◌≡◌, inr, ◌∙◌, sym, ap, ◌+◌, Ok, Err, w64, FitsSigned, rules, arith}
use Rattle.std.proofs.lemmas.Int.{to_z-of_z}
use Rattle.spd_cols.specs.Columns.{refused_at, most_entries}
use Rattle.spd_cols.specs.Values.{int_of}
use Rattle.spd_cols.specs.declared.fault.DataKind.TheVariants as kind
use Rattle.spd_cols.proofs.Entries.{at_entry, at_refused, at_too_many}
use Rattle.spd_cols.proofs.csv_columns.int_column.Goals as goal

pub returns-in_default : goal.returns-in_default
returns-in_default c =
    inr (at_refused int_of _ _ _ _ _ _ c.loop-row.invariant.1 (c.in_ok-advance.ensures.more (ap Ok c.if-not-branch.false)) (omega (arith, c.loop-row-test.true))
    c.cell.ensures (sym c.int_of.ensures ∙ c.in_default.is))

pub loop-row-preserved : goal.loop-row-preserved
loop-row-preserved c =
    let after = c.in_ok-advance.ensures.more (ap Ok c.if-not-branch.false) in
    let fits : FitsSigned w64 c.in-Some.value = search rules in (
      after.at,
      rw (c.in_ok-push.ensures.ok, to_z-of_z w64 c.in-Some.value fits)
          (at_entry int_of _ _ _ _ _ _ c.in-Some.value c.loop-row.invariant.1 after (omega (arith, c.loop-row-test.true)) c.cell.ensures (sym c.int_of.ensures ∙ c.in-Some.is)),
    )

pub returns-then-branch : goal.returns-then-branch
returns-then-branch c =
    let last : c.loop-row.row ≡ most_entries + 1 = omega (arith, c.loop-row-test.false, c.loop-row.auto.row) in
    inr (
    at_too_many int_of _ _ _ _ _ c.loop-row.invariant.1 (c.in_ok-advance-2.ensures.more (ap Ok c.if-branch.true)) (omega (arith, last))
    ∙ ap (λ row. refused_at row kind.TooMany) last ∙ ap Err (sym c.too_many.ensures)
    )
