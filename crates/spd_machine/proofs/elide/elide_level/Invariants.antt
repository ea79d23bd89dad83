use Rattle.std.proofs.Common.{◌≡◌}
use Rattle.spd_words.specs.Total.{nothing}
use Rattle.spd_meaning.specs.Eval.{collected, for_finish}
use Rattle.spd_level.specs.Columns.{context_of}
use Rattle.spd_level.specs.Left.{level_eval}
use Rattle.spd_machine.specs.Machine.{machine_measure}
use Rattle.spd_machine.specs.Elision.{will_collect}
use Rattle.spd_machine.proofs.elide.elide_level.Given as goal

abbrev pub invariant-loop-machine : goal.invariant-loop-machine
invariant-loop-machine l = will_collect (context_of l.fn.code l.fn.columns) l.tally l.machine
    ≡ collected l.fn.kind (nothing l.fn.kind) (for_finish (level_eval (context_of l.fn.code l.fn.columns) l.fn.level))

abbrev pub decreases-loop-machine : goal.decreases-loop-machine
decreases-loop-machine l = machine_measure (context_of l.fn.code l.fn.columns) l.machine
