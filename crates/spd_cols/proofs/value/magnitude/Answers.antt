use Rattle.std.proofs.Common.{◌+◌, ◌-◌, ◌*◌, ◌<◌, ◌∙◌, sym, get_or, arith}
use Rattle.spd_cols.proofs.Numbers.{too_great}
use Rattle.spd_cols.proofs.value.magnitude.Goals as goal

pub returns-in_err-checked_mul : goal.returns-in_err-checked_mul
returns-in_err-checked_mul c =
    let not_fits = c.in_err-checked_mul.ensures in
    let above : c.args.most < c.loop-digit.value * 10 + (get_or c.args.digits.now c.loop-digit.digit-index 0 - 48) =
    omega (arith, not_fits, c.ranges.most.fits) in
    c.from_residual.ensures ∙ sym (too_great _ _ _ _ c.loop-digit-test.true above c.loop-digit.invariant.0)

pub returns-in_err-value : goal.returns-in_err-value
returns-in_err-value c =
    let not_fits = c.in_err-value.ensures in
    let above : c.args.most < c.loop-digit.value * 10 + (get_or c.args.digits.now c.loop-digit.digit-index 0 - 48) =
    omega (arith, not_fits, c.in_ok-checked_mul.ensures.1, c.from-digit.ensures, c.ranges.most.fits) in
    c.from_residual-in_err-value.ensures ∙ sym (too_great _ _ _ _ c.loop-digit-test.true above c.loop-digit.invariant.0)
