use Rattle.std.proofs.Common.{◌≡◌}
use Rattle.spd_rule.specs.Held.{StepUnderRule}
use Rattle.spd_rule.specs.Moves.{pair_set}
use Rattle.spd_rule.proofs.moves.set_pair.Given as goal

abbrev pub ghosts-store : goal.ghosts-store
ghosts-store g a = record {
  plan = a.field.now.plan;
  tells = λ m n m'. (m' ≡ (pair_set m.0.flight a.about.now.1 g.P.Told.told g.Q.Told.told m.0, m.1)) × StepUnderRule a.field.now.plan a.word 0 n m m';
}
