-- What `parse` refuses is no number, or one above 32 bits.
use Rattle.std.proofs.Common.{arith}
use Rattle.spd_command.proofs.Decimals.{numeral, untrue}
use Rattle.spd_command.proofs.value.is_number.Goals as goal

pub returns-in-Err : goal.returns-in-Err
returns-in-Err c = untrue _ (λ e. c.in-Err.ensures.value.0 (numeral c.args.least c.args.most c.args.word.now (omega (arith, c.ranges.most.fits)) e))
