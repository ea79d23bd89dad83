-- What the checks of a statement are, kind by kind.
use Rattle.std.proofs.Common.{◌≡◌, ◌∙◌, List, ap, map, sym}
use Rattle.spd_syntax.specs.declared.tree.Expr.{Expr}
use Rattle.spd_syntax.specs.declared.tree.PrintPart.{PrintPart}
use Rattle.spd_syntax.specs.declared.tree.Collect.{Collect}
use Rattle.spd_syntax.specs.declared.tree.Item.{Item}
use Rattle.spd_syntax.specs.declared.tree.Stmt.{Stmt}
use Rattle.spd_syntax.specs.declared.tree.StmtKind.{StmtKind, fold-roll-StmtKind, roll-StmtKind, map-StmtKind}
use Rattle.spd_syntax.specs.declared.tree.StmtKind.TheOpen as s
use Rattle.spd_syntax.specs.declared.tree.StmtKind.TheVariants as v
use Rattle.spd_meaning.specs.Names.{Name}
use Rattle.spd_check.specs.Checks.{Checked, CheckedKind, kind_check, line_check, stmt_checked, kind_checked}

module _ (items : List Item) where
  rolled : (z : s.StmtKind-F StmtKind Stmt) → kind_checked items (roll-StmtKind z)
      ≡ kind_check items (map-StmtKind StmtKind Stmt CheckedKind Checked (kind_checked items) (stmt_checked items) z)
  rolled z = fold-roll-StmtKind CheckedKind Checked (kind_check items) (line_check items) z

  pub checked_let : (name : Name) (value : Expr) → kind_checked items (v.Let name value) ≡ kind_check items (s.Let name value)
  checked_let name value = ap (kind_checked items) (sym (v.rolls-Let name value)) ∙ rolled (s.Let name value)

  pub checked_let_call : (name callee : Name) (args : List Expr) → kind_checked items (v.LetCall name callee args)
      ≡ kind_check items (s.LetCall name callee args)
  checked_let_call name callee args = ap (kind_checked items) (sym (v.rolls-LetCall name callee args)) ∙ rolled (s.LetCall name callee args)

  pub checked_let_finish : (name : Name) (kind : Collect) (body : List Stmt) → kind_checked items (v.LetFinish name kind body)
      ≡ kind_check items (s.LetFinish name kind (map (stmt_checked items) body))
  checked_let_finish name kind body = ap (kind_checked items) (sym (v.rolls-LetFinish name kind body)) ∙ rolled (s.LetFinish name kind body)

  pub checked_assign : (name : Name) (value : Expr) → kind_checked items (v.Assign name value) ≡ kind_check items (s.Assign name value)
  checked_assign name value = ap (kind_checked items) (sym (v.rolls-Assign name value)) ∙ rolled (s.Assign name value)

  pub checked_if : (cond : Expr) (first second : List Stmt) → kind_checked items (v.If cond first second)
      ≡ kind_check items (s.If cond (map (stmt_checked items) first) (map (stmt_checked items) second))
  checked_if cond first second = ap (kind_checked items) (sym (v.rolls-If cond first second)) ∙ rolled (s.If cond first second)

  pub checked_for : (name : Name) (from to : Expr) (body : List Stmt) → kind_checked items (v.For name from to body)
      ≡ kind_check items (s.For name from to (map (stmt_checked items) body))
  checked_for name from to body = ap (kind_checked items) (sym (v.rolls-For name from to body)) ∙ rolled (s.For name from to body)

  pub checked_async : (body : List Stmt) → kind_checked items (v.Async body) ≡ kind_check items (s.Async (map (stmt_checked items) body))
  checked_async body = ap (kind_checked items) (sym (v.rolls-Async body)) ∙ rolled (s.Async body)

  pub checked_finish : (body : List Stmt) → kind_checked items (v.Finish body) ≡ kind_check items (s.Finish (map (stmt_checked items) body))
  checked_finish body = ap (kind_checked items) (sym (v.rolls-Finish body)) ∙ rolled (s.Finish body)

  pub checked_offer : (value : Expr) → kind_checked items (v.Offer value) ≡ kind_check items (s.Offer value)
  checked_offer value = ap (kind_checked items) (sym (v.rolls-Offer value)) ∙ rolled (s.Offer value)

  pub checked_run : (callee : Name) (args : List Expr) → kind_checked items (v.Run callee args) ≡ kind_check items (s.Run callee args)
  checked_run callee args = ap (kind_checked items) (sym (v.rolls-Run callee args)) ∙ rolled (s.Run callee args)

  pub checked_return : (value : Expr) → kind_checked items (v.Return value) ≡ kind_check items (s.Return value)
  checked_return value = ap (kind_checked items) (sym (v.rolls-Return value)) ∙ rolled (s.Return value)

  pub checked_print : (parts : List PrintPart) → kind_checked items (v.Print parts) ≡ kind_check items (s.Print parts)
  checked_print parts = ap (kind_checked items) (sym (v.rolls-Print parts)) ∙ rolled (s.Print parts)
