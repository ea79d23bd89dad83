use Rattle.std.proofs.Common.{◌≡◌}
use Rattle.spd_state.specs.Steps.{add_view}
use Rattle.spd_rule.proofs.steps.add_root.Given as goal

abbrev pub ghosts-add : goal.ghosts-add
ghosts-add g a = record { plan = a.field.now.plan; tells = λ m n m'. m' ≡ (add_view a.about.now m.0, m.1) }
