-- By the first of the operands that are left, and its value.
use Rattle.std.proofs.Common.{◌∙◌, ◌&&◌, sym, ap, arith, take, drop, length, ◌-◌}
use Rattle.spd_command.specs.Lines.{passed_by}
use Rattle.spd_command.specs.Values.{is_value}
use Rattle.spd_command.specs.Testing.{fits}
use Rattle.spd_command.proofs.Testing.{none_left, first_left}
use Rattle.spd_command.proofs.lawful.Next.behind_operand.Goals as goal

pub returns-in-empty : goal.returns-in-empty
returns-in-empty c options rest e = none_left c.args.self.operands.now options c.args.word.now rest (omega (arith, c.in-empty.len_below)) e

pub returns-then-takes : goal.returns-then-takes
returns-then-takes c options rest e =
    let z = c.args.self.operands.now in
    sym (first_left z options c.args.word.now rest _ c.in-len1-up.len_at_least e
    ∙ ap (λ t. t && fits (passed_by (take (length z - 1) (drop 1 z)) options rest)) (sym (c.if-takes.ensures ∙ ap (λ k. is_value k c.args.word.now) c.kind.ensures)))

pub returns-else-takes : goal.returns-else-takes
returns-else-takes c options rest e =
    let z = c.args.self.operands.now in
    sym (first_left z options c.args.word.now rest _ c.in-len1-up.len_at_least e
    ∙ ap (λ t. t && fits (passed_by (take (length z - 1) (drop 1 z)) options rest)) (sym (c.if-takes.ensures ∙ ap (λ k. is_value k c.args.word.now) c.kind.ensures)))
