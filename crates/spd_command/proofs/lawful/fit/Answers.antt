-- Behind the last word nothing may be missing.
use Rattle.std.proofs.Common.{◌∙◌, ap, map}
use Rattle.std.proofs.lemmas.List.{drop_all}
use Rattle.std.specs.String.{string_bytes}
use Rattle.spd_command.specs.Table.{options_of}
use Rattle.spd_command.proofs.Testing.{end_fits}
use Rattle.spd_command.proofs.lawful.fit.Goals as goal

pub returns-then-is_none : goal.returns-then-is_none
returns-then-is_none c =
    c.is_empty.ensures ∙ end_fits c.loop-word.next.waiting c.loop-word.next.operands.now (options_of c.args.command) _ c.if-is_none.ensures
    (ap (map string_bytes) (drop_all c.loop-word.word-index c.args.words.now c.loop-word-test.false)) ∙ c.loop-word.invariant
