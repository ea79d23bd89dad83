-- Each option that is read as a number takes numbers of 32 bits.
use Rattle.std.proofs.Common.{refl, arith}
use Rattle.spd_command.specs.declared.argument.Argument.TheVariants.{Workers, Moves, Nodes, Grow, Seed}
use Rattle.spd_command.proofs.Numbers.{may_be_number}
use Rattle.spd_command.proofs.command.settings.Goals as goal

pub number-requires : goal.number-requires
number-requires c = may_be_number c.args.found.now Workers 1 64 refl (omega arith) c.requires

pub number-requires-2 : goal.number-requires-2
number-requires-2 c = may_be_number c.args.found.now Moves 1 262144 refl (omega arith) c.requires

pub number-requires-3 : goal.number-requires-3
number-requires-3 c = may_be_number c.args.found.now Nodes 0 262144 refl (omega arith) c.requires

pub number-requires-4 : goal.number-requires-4
number-requires-4 c = may_be_number c.args.found.now Grow 0 65536 refl (omega arith) c.requires

pub number-requires-5 : goal.number-requires-5
number-requires-5 c = may_be_number c.args.found.now Seed 0 4294967295 refl (omega arith) c.requires
