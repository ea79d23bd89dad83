use Rattle.std.proofs.Common.{◌≡◌}
use Rattle.spd_words.specs.Words.{vertex_of}
use Rattle.spd_rule.specs.Steps.{HasSeen, see_known}
use Rattle.spd_rule.proofs.looks.see_vertex.Given as goal

abbrev pub ghosts-load : goal.ghosts-load
ghosts-load g a = record {
  plan = a.field.now.plan;
  tells = λ m n m'. (m' ≡ see_known a.about.now n m) × ((vertex_of n).state ≡ 2 → HasSeen a.about.now n m'.0);
}
