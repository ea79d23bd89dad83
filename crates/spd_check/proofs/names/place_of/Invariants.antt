-- The name isn't among those before the place.
use Rattle.std.proofs.Common.{◌≡◌, ◌+◌, drop}
use Rattle.spd_code.specs.Places.{place_of}
use Rattle.spd_check.specs.Names.{name_texts}
use Rattle.spd_check.proofs.names.place_of.Given as goal

abbrev pub invariant-loop-place : goal.invariant-loop-place
invariant-loop-place l = place_of (name_texts l.names) l.name ≡ l.place + place_of (name_texts (drop l.place l.names)) l.name
