use Rattle.std.proofs.Common.{◌≡◌}
use Rattle.spd_words.specs.Words.{pair_of}
use Rattle.spd_state.specs.Steps.{claim_after}
use Rattle.spd_rule.proofs.steps.claim.Given as goal

abbrev pub ghosts-add : goal.ghosts-add
ghosts-add g a = record { plan = a.field.now.plan; tells = λ m n m'. m' ≡ (claim_after (pair_of n) m.0, m.1) }
