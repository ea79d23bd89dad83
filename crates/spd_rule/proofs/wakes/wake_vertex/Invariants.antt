use Rattle.std.proofs.Common.{◌≡◌, ◌≤◌, ◌*◌}
use Rattle.spd_words.specs.Words.{vertex_of}
use Rattle.spd_rule.specs.Steps.{wake_known}
use Rattle.spd_rule.proofs.wakes.wake_vertex.Given as goal

abbrev pub ghosts-add : goal.ghosts-add
ghosts-add g a = record {
  plan = a.field.now.plan;
  tells = λ m n m'. (m' ≡ wake_known a.about.now m) × ((vertex_of n).state ≡ 1) × (m'.0.ready ≤ 2 * a.field.now.plan.moves);
}
