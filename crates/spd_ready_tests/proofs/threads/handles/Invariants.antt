use Rattle.std.proofs.Common.{◌≡◌}
use Rattle.std.specs.Prelude.{All}
use Rattle.spd_ready_tests.proofs.threads.handles.Given as goal

abbrev pub invariant-loop : goal.invariant-loop
invariant-loop l = All (λ ready. ready ≡ record { room = l.fn.list; pushed = 0; looks = 0 }) l.all.items
