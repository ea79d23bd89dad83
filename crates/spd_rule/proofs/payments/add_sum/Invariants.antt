use Rattle.std.proofs.Common.{◌≡◌}
use Rattle.spd_rule.specs.Payments.{offered_known}
use Rattle.spd_rule.proofs.payments.add_sum.Given as goal

abbrev pub ghosts-add : goal.ghosts-add
ghosts-add g a = record { plan = a.field.now.plan; tells = λ m n m'. m' ≡ offered_known g.P.Told.told.promise.gift m }
