-- The options before were not named by the word.
use Rattle.std.proofs.Common.{◌≡◌, length}
use Rattle.spd_command.specs.Table.{options_of, option_called}
use Rattle.spd_command.proofs.command_name.CommandName.option_called.Given as goal

abbrev pub invariant-loop-options : goal.invariant-loop-options
invariant-loop-options l = option_called l.options l.fn.word ≡ option_called (options_of l.fn.self) l.fn.word

abbrev pub decreases-loop-options : goal.decreases-loop-options
decreases-loop-options l = length l.options
