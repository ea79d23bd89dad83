use Rattle.std.proofs.Common.{◌≡◌, ◌+◌, ◌≤◌, length, All}
use Rattle.std.specs.Prelude.{vec_capacity}
use Rattle.spd_rule.specs.Shares.{field_plan, share_view}
use Rattle.spd_work.specs.Crew.{IsUnused, Placing}
use Rattle.spd_work.proofs.placing.place.Given as goal

abbrev pub invariant-loop-ready : goal.invariant-loop-ready
invariant-loop-ready g l =
    Placing g.Q.Ready.room g.Q.Ready.pushed l.field l.share l.workers.items
    × ((share_view l.share).whole ≡ (share_view l.fn.share).whole)
    × (length l.workers.items + length l.handles.items + 1 ≡ length l.fn.handles.items)
    × All (IsUnused g.Q.Ready.room g.Q.Ready.pushed (field_plan l.field)) l.handles.items
    × (length l.fn.handles.items ≤ vec_capacity l.workers)

abbrev pub decreases-loop-ready : goal.decreases-loop-ready
decreases-loop-ready g l = length l.handles.items
