use Rattle.std.proofs.Common.{◌≡◌}
use Rattle.spd_rule.specs.Payments.{lowered_known}
use Rattle.spd_rule.proofs.payments.lower_fault.Given as goal

abbrev pub ghosts-lower : goal.ghosts-lower
ghosts-lower g a = record { plan = a.field.now.plan; tells = λ m n m'. m' ≡ lowered_known a.about.now g.P.Told.told.promise.fault m }
