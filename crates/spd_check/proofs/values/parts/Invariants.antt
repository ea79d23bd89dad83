-- The code so far, and that of the parts that are left, is all.
use Rattle.std.proofs.Common.{◌≡◌, ◌++◌, drop, map}
use Rattle.spd_code.specs.Resolved.{part_code}
use Rattle.spd_check.specs.Names.{name_texts}
use Rattle.spd_check.proofs.values.parts.Given as goal

abbrev pub invariant-loop-one : goal.invariant-loop-one
invariant-loop-one l =
    l.coded ++ map (part_code l.spaces (name_texts l.names)) (drop l.one-index l.one-items) ≡ map (part_code l.spaces (name_texts l.names)) l.parts
