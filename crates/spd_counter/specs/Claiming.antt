-- What a claim takes.
use Rattle.std.specs.Prelude.{◌≡◌, ℕ, cond, ◌==◌}
use Rattle.spd_words.specs.Words.{pair_of}
use Rattle.spd_state.specs.Dag.{next_handle}
use Rattle.spd_state.specs.Stages.{finish_in}
use Rattle.spd_rule.specs.Steps.{claim_known}
use Rattle.spd_rule.specs.Shares.{share_view, share_known, AddsUnderRule, claim_place}
use Rattle.spd_rule.specs.declared.field.Field.{Field}
use Rattle.spd_rule.specs.declared.field.Share.{Share}

-- the first of the word's two handles where nobody has claimed, else the second
abbrev pub pair_handle : ℕ → ℕ
pair_handle word = cond ((pair_of word).claims == 0) (pair_of word).first (pair_of word).second

-- The step found a word of the pair with a handle left, and with one claim more now. This is the first handle that was
-- left, and with flat counters it is the root of the running vertex's finish.
pub record ClaimsHandle {B : Type 0} (field : Field B) (handle : ℕ) (s t : Share B) : Type 0 where
  pub found : ℕ
  pub next : handle ≡ next_handle (pair_of found)
  pub finish : handle ≡ finish_in (share_view s).running
  pub known : share_known t ≡ claim_known (pair_of found) (share_known s)
  pub step : AddsUnderRule field (claim_place field s) 1 found s t
