-- Each word is UTF-8, so each can be taken as text.
use Rattle.std.proofs.Common.{sym, subst, ◌∙◌}
use Rattle.std.specs.Str.{IsUtf8}
use Rattle.spd_top.proofs.command.to_words.Goals as goal

pub unreachable-requires : goal.unreachable-requires
unreachable-requires c =
    c.in_default.ensures.cases.0 (subst IsUtf8 (sym (c.as_slice.ensures.entries ∙ c.text-item.is)) (c.requires c.loop-text.text-index c.text-item.result c.loop-text-test.true))
