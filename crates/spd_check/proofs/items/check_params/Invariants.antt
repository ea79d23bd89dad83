-- The parameters before the place are visible, and none of them twice.
use Rattle.std.proofs.Common.{◌≡◌, drop, take, []}
use Rattle.spd_check.specs.Names.{name_texts}
use Rattle.spd_check.specs.Checks.{params_faults}
use Rattle.spd_check.proofs.items.check_params.Given as goal

abbrev pub invariant-loop-param : goal.invariant-loop-param
invariant-loop-param l = record {
  passed : params_faults (name_texts l.names.items) (drop l.param-index l.param-items) l.line ≡ params_faults [] l.params l.line;
  bound : name_texts l.names.items ≡ take l.param-index l.param-items;
}
