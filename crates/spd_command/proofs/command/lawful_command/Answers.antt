-- A line has its command's name.
use Rattle.std.proofs.Common.{sym}
use Rattle.spd_command.proofs.CommandLines.{line_name}
use Rattle.spd_command.proofs.command.lawful_command.Goals as goal

pub returns : goal.returns
returns c = sym (line_name _ _ _ c.in_ok-name.ensures)
