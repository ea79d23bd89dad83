use Rattle.std.proofs.Common.{refl}
use Rattle.spd_check.proofs.Lined.{none_lined}
use Rattle.spd_check.proofs.tree.code_items.Goals as goal

pub loop-item-init : goal.loop-item-init
loop-item-init c = record {
  functions = rw c.new.ensures refl;
  tasks = rw c.new-2.ensures refl;
  lined_functions = rw c.new.ensures none_lined;
  lined_tasks = rw c.new-2.ensures none_lined;
  main = refl;
}
