-- Those before the place have no fault.
use Rattle.std.proofs.Common.{◌≡◌, drop, flat_map}
use Rattle.spd_check.specs.Names.{name_texts}
use Rattle.spd_check.specs.Checks.{part_faults}
use Rattle.spd_check.proofs.expressions.check_parts.Given as goal

abbrev pub invariant-loop-part : goal.invariant-loop-part
invariant-loop-part l =
    flat_map (part_faults l.items (name_texts l.names) l.line) (drop l.part-index l.part-items)
    ≡ flat_map (part_faults l.items (name_texts l.names) l.line) l.parts
