-- The code of the statements before the place, and that of those that are left, is all.
use Rattle.std.proofs.Common.{◌≡◌, ◌+◌, ◌++◌, ◌≤◌, suc, map, drop, take, length}
use Rattle.spd_code.specs.Resolved.{statement_resolved, statements_code, blocks_within}
use Rattle.spd_check.specs.Names.{name_texts}
use Rattle.spd_check.proofs.coding.+coding.Given as goal

abbrev pub invariant-code_block-loop-stmt : goal.invariant-code_block-loop-stmt
invariant-code_block-loop-stmt l = record {
  coded : l.stmts.stmts ++ statements_code (map (statement_resolved l.spaces) (drop l.stmt-index l.stmt-items)) (name_texts l.scope.names.items) l.scope.next_block
      ≡ statements_code (map (statement_resolved l.spaces) l.block) (name_texts l.fn.scope.names.items) (suc l.number);
  counted : l.scope.next_block + blocks_within (map (statement_resolved l.spaces) (drop l.stmt-index l.stmt-items))
      ≡ suc l.number + blocks_within (map (statement_resolved l.spaces) l.block);
  visible : take l.visible (name_texts l.scope.names.items) ≡ name_texts l.fn.scope.names.items;
  count : l.visible ≤ length (name_texts l.scope.names.items);
}
