use Rattle.std.proofs.Common.{◌≡◌, length, take}
use Rattle.spd_state.specs.Sums.{count}
use Rattle.spd_rule.proofs.beside.take_unit.Given as goal

abbrev pub invariant-loop-at : goal.invariant-loop-at
invariant-loop-at l = (l.units ≡ l.fn.units) × (l.d ≡ l.fn.d) × (l.at-end ≡ length l.units.items) × (count l.d (take l.at l.units.items) ≡ 0)
