-- The code of the items before the place, and that of those that are left, is all.
use Rattle.std.proofs.Common.{◌≡◌, ◌++◌, drop, None}
use Rattle.std.specs.List.{last_or}
use Rattle.spd_code.specs.Resolved.{functions_code, tasks_code}
use Rattle.spd_check.specs.Coding.{mains_code}
use Rattle.spd_check.specs.Lines.{HaveLines}
use Rattle.spd_check.proofs.tree.code_items.Given as goal

abbrev pub invariant-loop-item : goal.invariant-loop-item
invariant-loop-item l = record {
  functions : l.coded.functions ++ functions_code l.spaces l.coded.next_block (drop l.item-index l.items) ≡ functions_code l.spaces 0 l.items;
  tasks : l.coded.tasks ++ tasks_code l.spaces l.coded.next_block (drop l.item-index l.items) ≡ tasks_code l.spaces 0 l.items;
  lined_functions : HaveLines l.coded.functions;
  lined_tasks : HaveLines l.coded.tasks;
  main : last_or l.coded.main (mains_code l.spaces l.coded.next_block (drop l.item-index l.items)) ≡ last_or None (mains_code l.spaces 0 l.items);
}
