use Rattle.std.proofs.Common.{arith}
use Rattle.spd_cols.proofs.LinePieces.{cr_dropped, cr_kept}
use Rattle.spd_cols.proofs.line_pieces.without_cr.Goals as goal

pub returns-in-len1-up : goal.returns-in-len1-up
returns-in-len1-up c = cr_dropped c.args.bytes.now _ (omega (arith, c.in-len1-up.len_at_least)) c.if-last-eq13.true

pub returns-in_default-2 : goal.returns-in_default-2
returns-in_default-2 c = cr_kept c.args.bytes.now _ (omega (arith, c.in-len1-up.len_at_least)) c.if-last-eq13.false
