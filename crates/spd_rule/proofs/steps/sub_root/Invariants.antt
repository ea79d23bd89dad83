use Rattle.std.proofs.Common.{◌≡◌, ◌≤◌, length}
use Rattle.spd_words.specs.Words.{node_of}
use Rattle.spd_state.specs.Steps.{sub_after}
use Rattle.spd_rule.specs.Rest.{at_rest}
use Rattle.spd_rule.proofs.steps.sub_root.Given as goal

abbrev pub ghosts-sub : goal.ghosts-sub
ghosts-sub g a = record {
  plan = a.field.now.plan;
  tells = λ m n m'. (m' ≡ at_rest (sub_after a.about.now (node_of n) m.0, m.1))
      × (length m'.0.told ≤ a.field.now.plan.moves);
}
