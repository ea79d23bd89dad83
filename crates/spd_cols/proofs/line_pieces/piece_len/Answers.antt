use Rattle.std.proofs.Common.{◌∙◌}
use Rattle.std.proofs.lemmas.List.Sums.{prefix_len-le-length}
use Rattle.spd_cols.proofs.LinePieces.{first_lf}
use Rattle.spd_cols.proofs.line_pieces.piece_len.Goals as goal

pub returns-clause-place : goal.returns-clause-place
returns-clause-place c = c.unwrap_or.ensures ∙ first_lf c.args.bytes.now c.memchr.result c.memchr.ensures

pub returns-clause-bound : goal.returns-clause-bound
returns-clause-bound c = rw (returns-clause-place c) (prefix_len-le-length _ c.args.bytes.now)
