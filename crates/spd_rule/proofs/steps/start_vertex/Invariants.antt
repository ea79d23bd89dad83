use Rattle.std.proofs.Common.{◌≡◌, ◌≢◌}
use Rattle.spd_rule.specs.Steps.{StartsVertex, LateStart}
use Rattle.spd_rule.specs.Kept.{StartsFit}
use Rattle.spd_rule.proofs.steps.start_vertex.Given as goal

abbrev pub ghosts-exchange : goal.ghosts-exchange
ghosts-exchange g a = record {
  plan = a.field.now.plan;
  tells = λ m n m'.
      (n ≡ a.old → StartsVertex (λ b. (g.B.Body.view b).means) a.field.now.plan a.about.now a.old m m') × (n ≢ a.old → LateStart a.about.now a.old n m m')
      × (n ≡ a.old → StartsFit g.B.Body.view a.about.now m m');
}
