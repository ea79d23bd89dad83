use Rattle.std.proofs.Common.{◌≡◌, ◌<◌, ℕ, List, ap, sym, refl, ◌∙◌, arith, length, get_or, remove}
use Rattle.spd_state.specs.Sums.{count, same}
use Rattle.spd_state.proofs.Sums.{same_else}
use Rattle.spd_rule.proofs.Counts.{count_remove, count_take}
use Rattle.spd_rule.proofs.beside.take_unit.Goals as goal

pub returns-then-deref-at-clause-taken : goal.returns-then-deref-at-clause-taken
returns-then-deref-at-clause-taken c _ n = let xs : List ℕ = c.loop-at.units.items in let i : ℕ = c.loop-at.at in let d : ℕ = c.args.d in
    let inv = c.loop-at.invariant in
    let low : i < length xs = let l = c.loop-at-test.true in let e = inv.2 in omega arith in
    let is : get_or xs i 0 ≡ d = ap (λ (l : List ℕ). get_or l i 0) (sym c.deref.ensures.0) ∙ c.if-deref-at.true in
    let gone : count n c.remove.new.self.items ≡ count n (remove xs i) = ap (count n) c.remove.ensures.items in
    let s : same n (get_or xs i 0) ≡ same n d = ap (same n) is in
    let was : count n xs ≡ count n c.args.units.now.items = λ j. count n (inv.0 j).items in let r = count_remove n xs i 0 low in omega arith

pub loop-at-preserved : goal.loop-at-preserved
loop-at-preserved c = let xs : List ℕ = c.loop-at.units.items in let i : ℕ = c.loop-at.at in let d : ℕ = c.args.d in let inv = c.loop-at.invariant in
    let low : i < length xs = let l = c.loop-at-test.true in let e = inv.2 in omega arith in
    let s = same_else d (get_or xs i 0) (λ e. c.if-deref-at.false (ap (λ (l : List ℕ). get_or l i 0) c.deref.ensures.0 ∙ sym e)) in
    let t = count_take d xs i 0 low in let before = inv.3 in
    (inv.0, refl, inv.2, omega arith)
