-- The `clap` command that is built for a command, as data.
use Rattle.std.specs.Prelude.{List, Some, true, fold, if◌then◌else◌}
use Rattle.clap.specs.Words.{App, Rule, new_app, new_rule, with_rule}
use Rattle.clap.specs.Simple.{on_top}
use Rattle.clap.specs.declared.builder.action.ArgAction.TheVariants.{Set, SetTrue}
use Rattle.spd_command.specs.declared.argument.Argument.{Argument}
use Rattle.spd_command.specs.declared.command_name.CommandName.{CommandName}
use Rattle.spd_command.specs.Table.{argument_name, is_flag, command_word, operands_of, options_of}

abbrev pub operand_rule : Argument → Rule
operand_rule operand = record (new_rule (argument_name operand)) { required = true; action = Some Set }

abbrev pub option_rule : Argument → Rule
option_rule option = record (new_rule (argument_name option)) {
  long = Some (argument_name option);
  action = Some (if is_flag option then SetTrue else Set);
}

-- a command without arguments, which knows no words for help
abbrev pub bare_app : CommandName → App
bare_app command = on_top (λ s. record s { no_binary_name = true; disable_help_flag = true; disable_version_flag = true }) (new_app (command_word command))

abbrev pub with_operands : List Argument → App → App
with_operands operands app = fold (λ made operand. with_rule made (operand_rule operand)) app operands

abbrev pub with_options : List Argument → App → App
with_options options app = fold (λ made option. with_rule made (option_rule option)) app options

abbrev pub app_for : CommandName → App
app_for command = with_options (options_of command) (with_operands (operands_of command) (bare_app command))
