use Rattle.std.proofs.Common.{◌+◌, ◌-◌, ◌*◌, ◌<◌, get_or, arith}
use Rattle.spd_syntax.specs.Symbols.{greatest_literal}
use Rattle.spd_read.proofs.Numbers.{too_great}
use Rattle.spd_read.proofs.literals.value.Goals as goal

pub returns-in_err-checked_mul : goal.returns-in_err-checked_mul
returns-in_err-checked_mul c =
    let not_fits = c.in_err-checked_mul.ensures in
    let large : greatest_literal < c.loop-digit.value * 10 + (get_or c.args.digits.now c.loop-digit.digit-index 0 - 48) = omega (arith, not_fits) in
    rw c.from_residual.ensures (too_great c.loop-digit.value c.args.digits.now c.loop-digit.digit-index _ c.loop-digit-test.true large c.loop-digit.invariant)

pub returns-in_err-value : goal.returns-in_err-value
returns-in_err-value c =
    let not_fits = c.in_err-value.ensures in
    let product = c.in_ok-checked_mul.ensures in
    let large : greatest_literal < c.loop-digit.value * 10 + (get_or c.args.digits.now c.loop-digit.digit-index 0 - 48) =
    omega (arith, not_fits, product.1, c.saturating_sub.ensures, c.from-digit.ensures) in
    rw c.from_residual-in_err-value.ensures (too_great c.loop-digit.value c.args.digits.now c.loop-digit.digit-index _ c.loop-digit-test.true large
    c.loop-digit.invariant)
