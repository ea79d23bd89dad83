use Rattle.std.proofs.Common.{◌≡◌, ℕ, ◌∙◌, sym, true, false}
use Rattle.std.specs.Prelude.{◌==◌, if◌then◌else◌}
use Rattle.spd_words.specs.Meaning.{Spent, Going, Ended}
use Rattle.spd_words.specs.BodyCalls.{stage_at}
use Rattle.spd_task_tests.proofs.resumes.expect_resumed.Goals as goal

not_ended : (fault : ℕ) → stage_at fault ≡ Ended → ⊥
not_ended fault = elim (fault == 0) as (λ b. (if b then Spent else Going) ≡ Ended → ⊥) [ true ↦ λ e. cc | false ↦ λ e. cc ]

pub events_of-requires-clause-stage : goal.events_of-requires-clause-stage
events_of-requires-clause-stage g c e = not_ended c.args.row.now.fault (sym c.resume.ensures.stage ∙ e)
