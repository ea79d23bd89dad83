-- A read that failed is counted for its name alone.
use Rattle.std.proofs.Common.{Err, arith}
use Rattle.spd_io.proofs.Counts.{times_of-failed, times_of-failed_other}
use Rattle.spd_process.proofs.dir_shelf.DirShelfShelf.read.Goals as goal

pub returns-in-Err-Failed-clause-failed : goal.returns-in-Err-Failed-clause-failed
returns-in-Err-Failed-clause-failed g c = λ e. rw c.failure.ensures.noted (omega (arith, times_of-failed (Err c.failure.result) c.args.self.now.failed c.args.name.now e))

pub returns-in-Err-Failed-clause-others : goal.returns-in-Err-Failed-clause-others
returns-in-Err-Failed-clause-others g c = λ other ne. rw c.failure.ensures.noted (times_of-failed_other (Err c.failure.result) c.args.self.now.failed c.args.name.now other ne)
