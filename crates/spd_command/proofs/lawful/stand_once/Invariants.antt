-- The options before stand at most once.
use Rattle.std.proofs.Common.{◌≡◌, map, length}
use Rattle.std.specs.String.{string_bytes}
use Rattle.spd_command.specs.Testing.{stand_once}
use Rattle.spd_command.proofs.lawful.stand_once.Given as goal

abbrev pub invariant-loop-left : goal.invariant-loop-left
invariant-loop-left l = stand_once l.left (map string_bytes l.words) ≡ stand_once l.options (map string_bytes l.words)

abbrev pub decreases-loop-left : goal.decreases-loop-left
decreases-loop-left l = length l.left
