use Rattle.std.proofs.Common.{◌≢◌, ◌≤◌, inr, ◌∙◌, sym, ap, [], length, Err, rules, arith}
use Rattle.spd_cols.specs.Columns.{most_entries}
use Rattle.spd_cols.proofs.LinePieces.{too_many_lines}
use Rattle.spd_cols.proofs.line_pieces.lines.Goals as goal

pub returns-then-len-ge-MAX_ENTRIES : goal.returns-then-len-ge-MAX_ENTRIES
returns-then-len-ge-MAX_ENTRIES c =
    let some : c.loop-rest.rest.now ≢ [] = search rules in
    let many : most_entries ≤ length c.loop-rest.entries = omega (arith, c.if-len-ge-MAX_ENTRIES.true, c.len.ensures.length) in
    inr (too_many_lines c.args.file.now c.loop-rest.rest.now c.loop-rest.entries c.loop-rest.invariant.0 some many ∙ ap Err (sym c.too_many.ensures))
