use Rattle.std.proofs.Common.{◌≡◌, drop}
use Rattle.std.specs.List.{list_all}
use Rattle.std.specs.Char.{is_ascii_digit}
use Rattle.spd_syntax.specs.Symbols.{value_from}
use Rattle.spd_cols.proofs.value.magnitude.Given as goal

abbrev pub invariant-loop-digit : goal.invariant-loop-digit
invariant-loop-digit l =
    (value_from l.value (drop l.digit-index l.digits) ≡ value_from 0 l.digits)
    × (list_all is_ascii_digit (drop l.digit-index l.digits) ≡ list_all is_ascii_digit l.digits)
