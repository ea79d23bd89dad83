-- `parse` reads a number of 32 bits.
use Rattle.std.proofs.Common.{arith}
use Rattle.spd_command.proofs.Decimals.{numeral}
use Rattle.spd_command.proofs.value.number_of.Goals as goal

pub unreachable-requires : goal.unreachable-requires
unreachable-requires c = c.in-Err.ensures.value.0 (numeral 0 4294967295 c.args.word.now (omega arith) c.requires)
