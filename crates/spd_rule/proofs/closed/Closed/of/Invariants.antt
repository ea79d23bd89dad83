use Rattle.std.proofs.Common.{◌≡◌, ℕ, ◌<◌, false, get_or}
use Rattle.std.specs.Mem.Slots.{slots_filled, slots_len}
use Rattle.std.specs.Mem.Slots.Ownership.{Filled}
use Rattle.spd_rule.proofs.closed.Closed.of.Given as goal

abbrev pub invariant-loop-slot : goal.invariant-loop-slot
invariant-loop-slot g l = (l.plan ≡ l.fn.plan) × (l.table.words ≡ l.fn.table.words) × (l.slot-end ≡ slots_len l.table.slots)
    × Filled (slots_filled l.table.slots) l.slot (slots_len l.table.slots) × ((k : ℕ) → k < l.slot → get_or (slots_filled l.table.slots) k false ≡ false)
