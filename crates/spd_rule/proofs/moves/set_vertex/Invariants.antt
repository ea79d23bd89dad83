use Rattle.std.proofs.Common.{◌≡◌, ◌≤◌, ◌*◌}
use Rattle.spd_rule.specs.Rest.{at_rest}
use Rattle.spd_rule.specs.Held.{StepUnderRule}
use Rattle.spd_rule.specs.Moves.{vertex_set}
use Rattle.spd_rule.proofs.moves.set_vertex.Given as goal

abbrev pub ghosts-store : goal.ghosts-store
ghosts-store g a = record {
  plan = a.field.now.plan;
  tells = λ m n m'.
      ((m' ≡ at_rest (vertex_set m)) × (m'.0.ready ≤ 2 * a.field.now.plan.moves)) × StepUnderRule a.field.now.plan a.word 0 n m m';
}
