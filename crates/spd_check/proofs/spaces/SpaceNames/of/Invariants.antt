-- The names so far, and those of the items that are left, are all.
use Rattle.std.proofs.Common.{◌≡◌, ◌++◌, drop}
use Rattle.spd_code.specs.Resolved.{spaces_of}
use Rattle.spd_check.specs.Names.{name_texts}
use Rattle.spd_check.proofs.spaces.SpaceNames.of.Given as goal

abbrev pub invariant-loop-item : goal.invariant-loop-item
invariant-loop-item l = record {
  columns : name_texts l.column_names.items ++ (spaces_of (drop l.item-index l.items)).columns ≡ (spaces_of l.items).columns;
  functions : name_texts l.function_names.items ++ (spaces_of (drop l.item-index l.items)).functions ≡ (spaces_of l.items).functions;
  tasks : name_texts l.task_names.items ++ (spaces_of (drop l.item-index l.items)).tasks ≡ (spaces_of l.items).tasks;
}
