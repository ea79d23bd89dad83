-- What a signal answers, of a share.
use Rattle.std.proofs.Common.{◌≡◌, ℕ, [], Option, None, Some}
use Rattle.spd_state.specs.declared.view.Running.{Running}
use Rattle.spd_rule.specs.Shares.{field_plan, share_view, share_bodies}
use Rattle.spd_rule.specs.declared.field.Field.{Field}
use Rattle.spd_rule.specs.declared.field.Share.{Share}
use Rattle.spd_dag.specs.Signals.{SignalEnds}
use Rattle.spd_work.specs.Turns.{HasSignalled}

pub has_signalled : {B : Type 0} (f : Field B) (r : Running) (s t : Share B) (woke : Option ℕ) →
    SignalEnds (field_plan f) r (share_view s) (share_view t) woke → share_bodies t ≡ [] → HasSignalled f s t woke
has_signalled f r s t None ends slots = record { over = ends; slots = slots }
has_signalled f r s t (Some w) ends slots = (ends.1, record { over = ends.2; slots = slots })
