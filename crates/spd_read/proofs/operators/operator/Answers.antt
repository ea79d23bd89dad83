use Rattle.std.proofs.Common.{sym, ◌∙◌}
use Rattle.spd_read.proofs.OperatorRows.{reads_operator, no_operator}
use Rattle.spd_read.proofs.operators.operator.Goals as goal

pub returns-in-Some : goal.returns-in-Some
returns-in-Some c text depth = reads_operator text depth c.args.level c.in-Mark.mark c.in-Some.op c.args.tokens.now _ c.in-len1-up.len_at_least c.in-Mark.is
    (sym c.operator_of.ensures ∙ c.in-Some.is)

pub returns-in-None : goal.returns-in-None
returns-in-None c text depth = no_operator text depth c.args.level c.in-Mark.mark c.args.tokens.now _ c.in-len1-up.len_at_least c.in-Mark.is
    (sym c.operator_of.ensures ∙ c.in-None.is)
