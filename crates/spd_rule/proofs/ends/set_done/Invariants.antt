use Rattle.std.proofs.Common.{◌≡◌}
use Rattle.spd_rule.specs.Held.{StepUnderRule}
use Rattle.spd_rule.specs.Payments.{done_known}
use Rattle.spd_rule.proofs.ends.set_done.Given as goal

abbrev pub ghosts-store : goal.ghosts-store
ghosts-store g a = record { plan = a.field.now.plan; tells = λ m n m'. (m' ≡ done_known m) × StepUnderRule a.field.now.plan a.word 0 n m m' }
