-- By the first of the options that are left.
use Rattle.std.proofs.Common.{◌≡◌, ◌∙◌, ◌&&◌, ◌-◌, ◌<◌, ◌≤◌, ℕ, true, false, sym, ap, arith, take, drop, length, map, nat_le}
use Rattle.std.specs.String.{string_bytes}
use Rattle.std.proofs.lemmas.Bool.Decides.{nat_tests}
use Rattle.spd_command.specs.Testing.{stand_once}
use Rattle.spd_command.proofs.Testing.{once_first}
use Rattle.spd_command.proofs.lawful.stand_once.Goals as goal

many : (n : ℕ) → 1 < n → nat_le n 1 ≡ false
many n e = grind (arith, nat_tests, e)

few : (n : ℕ) → n ≤ 1 → nat_le n 1 ≡ true
few n e = grind (arith, nat_tests, e)

pub returns-then-count-gt1 : goal.returns-then-count-gt1
returns-then-count-gt1 c =
    let z = c.loop-left.left.now in
    let words = map string_bytes c.args.words.now in
    sym (sym c.loop-left.invariant ∙ once_first z words _ c.in-len1-up.len_at_least
    ∙ ap (λ t. t && stand_once (take (length z - 1) (drop 1 z)) words) (ap (λ n. nat_le n 1) (sym c.count.ensures) ∙ many _ c.if-count-gt1.true))

pub loop-left-preserved : goal.loop-left-preserved
loop-left-preserved c =
    let z = c.loop-left.left.now in
    let words = map string_bytes c.args.words.now in
    sym (once_first z words _ c.in-len1-up.len_at_least
    ∙ ap (λ t. t && stand_once (take (length z - 1) (drop 1 z)) words) (ap (λ n. nat_le n 1) (sym c.count.ensures) ∙ few _ c.if-count-gt1.false)) ∙ c.loop-left.invariant
