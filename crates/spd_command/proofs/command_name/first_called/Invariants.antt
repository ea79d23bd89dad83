-- The commands before were not named by the word.
use Rattle.std.proofs.Common.{◌≡◌, length}
use Rattle.spd_command.specs.Table.{first_called}
use Rattle.spd_command.proofs.command_name.first_called.Given as goal

abbrev pub invariant-loop-left : goal.invariant-loop-left
invariant-loop-left l = first_called l.left l.word ≡ first_called l.commands l.word

abbrev pub decreases-loop-left : goal.decreases-loop-left
decreases-loop-left l = length l.left
