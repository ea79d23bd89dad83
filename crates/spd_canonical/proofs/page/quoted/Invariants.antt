-- The bytes so far stand behind the quote.
use Rattle.std.proofs.Common.{◌≡◌, ◌∷◌, take, flat_map}
use Rattle.spd_canonical.specs.Canonical.{escaped}
use Rattle.spd_canonical.proofs.page.quoted.Given as goal

abbrev pub invariant-loop-b : goal.invariant-loop-b
invariant-loop-b l = l.text.items ≡ 34 ∷ flat_map escaped (take l.b-index l.lit)
