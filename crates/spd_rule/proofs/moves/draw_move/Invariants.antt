use Rattle.spd_rule.specs.Steps.{DrawsMove}
use Rattle.spd_rule.proofs.moves.draw_move.Given as goal

abbrev pub ghosts-add : goal.ghosts-add
ghosts-add g a = record { plan = a.field.now.plan; tells = λ m n m'. DrawsMove a.field.now.plan a.about.now g.P.Told.told n m m' }
