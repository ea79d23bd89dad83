use Rattle.std.proofs.Common.{◌≡◌, length, All}
use Rattle.spd_ready.specs.Handles.{LockedReadyState}
use Rattle.spd_work.proofs.placing.handles_on.Given as goal

abbrev pub invariant-loop : goal.invariant-loop
invariant-loop l = (length l.handles.items ≡ l.counter) × All (λ (h : LockedReadyState). (h.room ≡ l.list) × (h.pushed ≡ 0)) l.handles.items
