-- The statements before the place have no fault, and bind the names behind those of the block's beginning.
use Rattle.std.proofs.Common.{◌≡◌, ◌≤◌, map, drop, take, length}
use Rattle.spd_check.specs.Names.{name_texts}
use Rattle.spd_check.specs.Checks.{stmt_checked, statements_faults}
use Rattle.spd_check.proofs.statements.+blocks.Given as goal

abbrev pub invariant-check_block-loop-stmt : goal.invariant-check_block-loop-stmt
invariant-check_block-loop-stmt l = record {
  passed : statements_faults (map (stmt_checked l.items) (drop l.stmt-index l.stmt-items)) (name_texts l.names.items) l.place
      ≡ statements_faults (map (stmt_checked l.items) l.block) (name_texts l.fn.names.items) l.place;
  visible : take l.visible (name_texts l.names.items) ≡ name_texts l.fn.names.items;
  count : l.visible ≤ length (name_texts l.names.items);
}
