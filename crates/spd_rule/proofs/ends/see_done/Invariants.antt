use Rattle.std.proofs.Common.{◌≡◌}
use Rattle.spd_state.specs.Steps.{stepped}
use Rattle.spd_rule.proofs.ends.see_done.Given as goal

abbrev pub ghosts-load : goal.ghosts-load
ghosts-load g a = record { plan = a.field.now.plan; tells = λ m n m'. m' ≡ (stepped m.0, m.1) }
