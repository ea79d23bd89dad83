use Rattle.std.proofs.Common.{sym, ◌∙◌, ap, Some}
use Rattle.spd_syntax.specs.declared.token.TokenKind.{TokenKind}
use Rattle.spd_read.proofs.OperatorRows.{next_is}
use Rattle.spd_read.proofs.operators.next_is_operator.Goals as goal

pub returns-in-Some-Mark : goal.returns-in-Some-Mark
returns-in-Some-Mark c text =
    rw (c.is_some.ensures, c.operator_of.ensures) (sym (next_is text c.args.level c.in-Some-Mark.mark c.args.tokens.now
    (sym (c.next.ensures text) ∙ c.in-Some-Mark.is ∙ ap (λ (k : TokenKind). Some k) c.in-Some-Mark.field-0-is)))
