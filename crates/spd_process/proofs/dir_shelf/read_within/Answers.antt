-- Fewer bytes than were asked for are all that were left.
use Rattle.std.proofs.Common.{arith, rules}
use Rattle.spd_process.proofs.Taking.{taken-all}
use Rattle.spd_process.proofs.dir_shelf.read_within.Goals as goal

pub returns-clause-whole : goal.returns-clause-whole
returns-clause-whole g c = taken-all (g.R.Read.remaining c.args.reader.now) c.saturating_add-wanted.result _ (search rules) (omega arith)
