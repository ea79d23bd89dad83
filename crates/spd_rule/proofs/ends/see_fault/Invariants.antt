use Rattle.std.proofs.Common.{◌≡◌}
use Rattle.spd_rule.specs.Payments.{collected_known, FindsAwaited}
use Rattle.spd_rule.proofs.ends.see_fault.Given as goal

abbrev pub ghosts-load : goal.ghosts-load
ghosts-load g a = record { plan = a.field.now.plan; tells = λ m n m'. (m' ≡ collected_known a.about.now n m) × FindsAwaited a.about.now n m.0 }
