use Rattle.std.proofs.Common.{◌≡◌}
use Rattle.spd_rule.specs.Payments.{offered_known}
use Rattle.spd_rule.proofs.payments.raise_best.Given as goal

abbrev pub ghosts-raise : goal.ghosts-raise
ghosts-raise g a = record { plan = a.field.now.plan; tells = λ m n m'. m' ≡ offered_known g.P.Told.told.promise.gift m }
