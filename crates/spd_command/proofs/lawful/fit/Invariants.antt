-- The words from the index on fit from where the walk stands, where all of them fit.
use Rattle.std.proofs.Common.{◌≡◌, map, drop}
use Rattle.std.specs.String.{string_bytes}
use Rattle.spd_command.specs.Table.{operands_of, options_of}
use Rattle.spd_command.specs.Lines.{passed_by}
use Rattle.spd_command.specs.Testing.{fits, fits_from}
use Rattle.spd_command.proofs.lawful.fit.Given as goal

abbrev pub invariant-loop-word : goal.invariant-loop-word
invariant-loop-word l = fits_from l.next.waiting l.next.operands.now (options_of l.command) (map string_bytes (drop l.word-index l.words))
    ≡ fits (passed_by (operands_of l.command) (options_of l.command) (map string_bytes l.words))
