use Rattle.std.proofs.Common.{◌≡◌, ◌+◌, length, All, Some}
use Rattle.spd_rule.specs.Shares.{IsOf, share_view}
use Rattle.spd_state.specs.declared.promise.Whole.{Whole}
use Rattle.spd_work.specs.Crew.{HasLeft, all_seats, seats_held}
use Rattle.spd_work.specs.Workers.{EndsWell}
use Rattle.spd_work.proofs.gathering.gather.Given as goal

abbrev pub invariant-loop-worker : goal.invariant-loop-worker
invariant-loop-worker g l =
    IsOf l.field l.share × EndsWell (share_view l.share) l.ended × (seats_held (share_view l.share) + all_seats l.workers.items ≡ 64)
    × ((w : Whole) → All (HasLeft l.field w) l.fn.workers.items → ((share_view l.share).whole ≡ Some w) × All (HasLeft l.field w) l.workers.items)

abbrev pub decreases-loop-worker : goal.decreases-loop-worker
decreases-loop-worker g l = length l.workers.items
