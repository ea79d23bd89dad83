use Rattle.std.proofs.Common.{◌≡◌, length}
use Rattle.spd_io.specs.Memory.{file_of}
use Rattle.spd_io.proofs.files.find_file.Given as goal

abbrev pub invariant-loop-files : goal.invariant-loop-files
invariant-loop-files l = file_of l.files l.name ≡ file_of l.initial.files l.name

abbrev pub decreases-loop-files : goal.decreases-loop-files
decreases-loop-files l = length l.files
