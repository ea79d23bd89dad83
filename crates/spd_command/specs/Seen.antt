-- A command as what it asks for.
use Rattle.spd_command.specs.declared.command.Command.{Command}
use Rattle.spd_command.specs.declared.command.Command.TheVariants as command
use Rattle.spd_command.specs.Asked.{Asked, elide, check, make, run, job}

abbrev pub asked : Command → Asked
asked (command.Elide program) = elide program.now
asked (command.Check program) = check program.now
asked (command.Make rows seed) = make rows seed
asked (command.Run program settings) = run program.now settings
asked (command.Job rows seed settings) = job rows seed settings
