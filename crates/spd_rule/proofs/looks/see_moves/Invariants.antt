use Rattle.std.proofs.Common.{◌≡◌, ◌<◌}
use Rattle.spd_rule.specs.Steps.{sees_known}
use Rattle.spd_rule.proofs.looks.see_moves.Given as goal

abbrev pub ghosts-load : goal.ghosts-load
ghosts-load g a = record { plan = a.field.now.plan; tells = λ m n m'. (m' ≡ sees_known m) × (a.field.now.plan.moves < n) }
