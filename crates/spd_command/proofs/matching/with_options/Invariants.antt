-- The options before the index are there.
use Rattle.std.proofs.Common.{◌≡◌, take}
use Rattle.clap.specs.Words.{app_of}
use Rattle.spd_command.specs.Matching.{with_options}
use Rattle.spd_command.proofs.matching.with_options.Given as goal

abbrev pub invariant-loop-each : goal.invariant-loop-each
invariant-loop-each l = app_of l.made ≡ with_options (take l.each-index l.options) (app_of l.fn.parser)
