-- The words behind the command aren't lawful.
use Rattle.std.proofs.Common.{◌∙◌, sym, ap}
use Rattle.std.specs.String.{string_bytes}
use Rattle.spd_command.specs.Table.{command_called}
use Rattle.spd_command.proofs.CommandLines.{no_line}
use Rattle.spd_command.proofs.command.line_of.Goals as goal

pub returns-else-are_lawful : goal.returns-else-are_lawful
returns-else-are_lawful c =
    no_line string_bytes c.args.words.now c.first-item.result c.in_ok-name-in-len1-up.name c.in-len1-up.len_at_least
    (ap command_called (ap string_bytes (sym c.first-item.is) ∙ sym c.as_bytes.ensures.value) ∙ sym c.in_ok-name-in-len1-up.ensures)
    (sym c.if-are_lawful.ensures)
