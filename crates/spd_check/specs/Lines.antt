-- Code whose lines are of 32 bits: so no code of a fault stands for none.
use Rattle.std.specs.Prelude.{◌≡◌, ℕ, List, map, true}
use Rattle.spd_code.specs.declared.stmt.CodeStmt.{CodeStmt}
use Rattle.spd_code.specs.declared.tree.CodeItem.{CodeItem}
use Rattle.spd_code.specs.declared.tree.CodeTree.{CodeTree}
use Rattle.spd_code.specs.Coded.{item_at}
use Rattle.spd_code.specs.Silent.{all_true}
use Rattle.spd_code.specs.Lined.{lined_block, lined_stmt}

-- the same of statements
abbrev pub AreLined : List CodeStmt → Type 0
AreLined stmts = all_true (map lined_stmt stmts) ≡ true

abbrev pub HaveLines : List CodeItem → Type 0
HaveLines items = (n : ℕ) → lined_block (item_at items n).body ≡ true

-- Each line of a statement of a function or a task is below 2^32.
pub record HasLines (tree : CodeTree) : Type 0 where
  pub functions : HaveLines tree.functions
  pub tasks : HaveLines tree.tasks
