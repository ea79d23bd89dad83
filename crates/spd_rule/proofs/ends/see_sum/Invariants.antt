use Rattle.std.proofs.Common.{◌≡◌}
use Rattle.spd_rule.specs.Payments.{shown_known}
use Rattle.spd_rule.proofs.ends.see_sum.Given as goal

abbrev pub ghosts-load : goal.ghosts-load
ghosts-load g a = record { plan = a.field.now.plan; tells = λ m n m'. m' ≡ shown_known a.about.now n m }
