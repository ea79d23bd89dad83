use Rattle.std.proofs.Common.{◌≡◌, drop}
use Rattle.std.specs.Prelude.{map}
use Rattle.spd_meaning.specs.Values.{all_values}
use Rattle.spd_code.specs.Coded.{code_value}
use Rattle.spd_level.specs.Columns.{around_columns}
use Rattle.spd_level.specs.Found.{onto}
use Rattle.spd_level.proofs.value.values_of.Given as goal

abbrev pub invariant-loop-arg : goal.invariant-loop-arg
invariant-loop-arg l =
    onto l.found.items (all_values (map (λ e. code_value (around_columns l.columns) e l.vars l.line) (drop l.arg-index l.args)))
    ≡ all_values (map (λ e. code_value (around_columns l.columns) e l.vars l.line) l.args)
