use Rattle.std.proofs.Common.{Err, arith}
use Rattle.spd_io.proofs.Counts.{times_of-failed, times_of-failed_other}
use Rattle.spd_io.proofs.mem_shelf.MemShelfShelf.read.Goals as goal

pub returns-then-count-clause-failed : goal.returns-then-count-clause-failed
returns-then-count-clause-failed c = λ e. rw (← c.self.view_is, c.failure.ensures.after) (omega (arith, times_of-failed (Err c.failure.result) c.self.inside.failed c.args.name.now e))

pub returns-then-count-clause-others : goal.returns-then-count-clause-others
returns-then-count-clause-others c = λ other ne. rw (← c.self.view_is, c.failure.ensures.after) (times_of-failed_other (Err c.failure.result) c.self.inside.failed c.args.name.now other ne)

pub returns-in_default-clause-failed : goal.returns-in_default-clause-failed
returns-in_default-clause-failed c = λ e. rw (← c.self.view_is, c.failure-in_default.ensures.after) (omega (arith, times_of-failed (Err c.failure-in_default.result) c.self.inside.failed c.args.name.now e))

pub returns-in_default-clause-others : goal.returns-in_default-clause-others
returns-in_default-clause-others c = λ other ne. rw (← c.self.view_is, c.failure-in_default.ensures.after) (times_of-failed_other (Err c.failure-in_default.result) c.self.inside.failed c.args.name.now other ne)
