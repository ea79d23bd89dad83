-- The name isn't among those before the place.
use Rattle.std.proofs.Common.{◌≡◌, drop}
use Rattle.spd_check.specs.Names.{is_visible, name_texts}
use Rattle.spd_check.proofs.names.is_visible.Given as goal

abbrev pub invariant-loop-other : goal.invariant-loop-other
invariant-loop-other l = is_visible (name_texts (drop l.other-index l.names)) l.name ≡ is_visible (name_texts l.names) l.name
