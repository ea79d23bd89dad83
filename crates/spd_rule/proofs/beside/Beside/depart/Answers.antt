use Rattle.std.proofs.Common.{◌≡◌, ◌<◌, ◌+◌, ℕ, Bool, true, false, refl, arith}
use Rattle.spd_state.specs.Sums.{count}
use Rattle.spd_state.proofs.Sums.{same_self}
use Rattle.spd_rule.specs.Idle.{TakesUnit}
use Rattle.spd_rule.proofs.beside.Beside.depart.Goals as goal

pub returns : goal.returns
returns c = let d : ℕ = c.args.d in let old = c.args.self.now.units in let new = c.take_unit-taken.new.units in record {
  held = λ h. taken c.take_unit-taken.result refl h;
  lone = λ h. none c.take_unit-taken.result refl h;
  told = c.with_told-self.ensures;
  running = c.settled-self.ensures;
  flight = refl;
  spare = refl;
  full = refl;
  starts = refl;
}
  where
    taken : (b : Bool) → c.take_unit-taken.result ≡ b → 0 < count c.args.d c.args.self.now.units.items
        → TakesUnit c.args.d c.args.self.now.units.items c.take_unit-taken.new.units.items × (c.without_unit-self.result ≡ c.args.self.now.claimed)
    taken true e h = (c.take_unit-taken.ensures.taken e, c.without_unit-self.ensures.taken e)
    taken false e h = let n = (c.take_unit-taken.ensures.none e).0 in absurd (omega arith)

    none : (b : Bool) → c.take_unit-taken.result ≡ b → count c.args.d c.args.self.now.units.items ≡ 0
        → (c.take_unit-taken.new.units.items ≡ c.args.self.now.units.items) × (c.without_unit-self.result + 1 ≡ c.args.self.now.claimed)
    none true e h = let t = c.take_unit-taken.ensures.taken e c.args.d in let s = same_self c.args.d c.args.d refl in absurd (omega arith)
    none false e h = ((λ j. ((c.take_unit-taken.ensures.none e).1 j).items), c.without_unit-self.ensures.none e)
