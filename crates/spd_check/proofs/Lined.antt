-- What is coded of statements whose lines are of 32 bits has such lines.
use Rattle.std.proofs.Common.{◌≡◌, ◌∙◌, ℕ, zero, suc, ◌<◌, Bool, true, false, ◌&&◌, List, [], ◌∷◌, ◌++◌, map, sym, ap, refl, arith}
use Rattle.std.specs.Prelude.{Some}
use Rattle.std.proofs.lemmas.Bool.{lt-ltb}
use Rattle.spd_syntax.specs.declared.tree.Collect.{Collect}
use Rattle.spd_code.specs.declared.expr.CodeExpr.{CodeExpr}
use Rattle.spd_code.specs.declared.expr.CodePrintPart.{CodePrintPart}
use Rattle.spd_code.specs.declared.stmt.CodeStmtKind as CK
use Rattle.spd_code.specs.declared.stmt.CodeStmtKind.{CodeStmtKind}
use Rattle.spd_code.specs.declared.stmt.CodeStmtKind.TheOpen as c
use Rattle.spd_code.specs.declared.stmt.CodeStmtKind.TheVariants as w
use Rattle.spd_code.specs.declared.stmt.CodeStmt as CS
use Rattle.spd_code.specs.declared.stmt.CodeStmt.{CodeStmt}
use Rattle.spd_code.specs.declared.stmt.CodeBlock as CB
use Rattle.spd_code.specs.declared.stmt.CodeBlock.{CodeBlock}
use Rattle.spd_code.specs.declared.tree.CodeItem.{CodeItem}
use Rattle.spd_code.specs.Silent.{all_true}
use Rattle.spd_code.specs.Coded.{item_at, no_item}
use Rattle.spd_code.specs.Lined.{fits_line, lined_step, lined_line, lined_stmts, lined_block, lined_stmt, lined_kind}
use Rattle.spd_check.specs.Lines.{AreLined, HaveLines}

lined_rolled : (z : c.CodeStmtKind-F CodeStmtKind CodeBlock CodeStmt) → lined_kind (CK.roll-CodeStmtKind z)
    ≡ lined_step (CK.map-CodeStmtKind CodeStmtKind CodeBlock CodeStmt Bool Bool Bool lined_kind lined_block lined_stmt z)
unfolding lined_kind lined_block lined_stmt
lined_rolled z = CK.fold-roll-CodeStmtKind Bool Bool Bool lined_step lined_stmts lined_line z

lined_rolled_stmt : (z : c.CodeStmt-F CodeStmtKind CodeBlock CodeStmt) → lined_stmt (CS.roll-CodeStmt z) ≡ (fits_line z.line && lined_kind z.what)
unfolding lined_kind lined_block lined_stmt
lined_rolled_stmt z = CS.fold-roll-CodeStmt Bool Bool Bool lined_step lined_stmts lined_line z

lined_rolled_block : (z : c.CodeBlock-F CodeStmtKind CodeBlock CodeStmt) → lined_block (CB.roll-CodeBlock z) ≡ all_true (map lined_stmt z.stmts)
unfolding lined_kind lined_block lined_stmt
lined_rolled_block z = CB.fold-roll-CodeBlock Bool Bool Bool lined_step lined_stmts lined_line z

-- ---- kinds of statements

pub lined_let : (value : CodeExpr) → lined_kind (w.Let value) ≡ true
lined_let value = ap lined_kind (sym (w.rolls-Let value)) ∙ lined_rolled (c.Let value)

pub lined_let_call : (callee : ℕ) (args : List CodeExpr) → lined_kind (w.LetCall callee args) ≡ true
lined_let_call callee args = ap lined_kind (sym (w.rolls-LetCall callee args)) ∙ lined_rolled (c.LetCall callee args)

pub lined_let_finish : (kind : Collect) (body : CodeBlock) → lined_block body ≡ true → lined_kind (w.LetFinish kind body) ≡ true
lined_let_finish kind body h = ap lined_kind (sym (w.rolls-LetFinish kind body)) ∙ lined_rolled (c.LetFinish kind body) ∙ h

pub lined_assign : (place : ℕ) (value : CodeExpr) → lined_kind (w.Assign place value) ≡ true
lined_assign place value = ap lined_kind (sym (w.rolls-Assign place value)) ∙ lined_rolled (c.Assign place value)

pub lined_if : (cond : CodeExpr) (first second : CodeBlock) → lined_block first ≡ true → lined_block second ≡ true → lined_kind (w.If cond first second) ≡ true
lined_if cond first second h g = ap lined_kind (sym (w.rolls-If cond first second)) ∙ lined_rolled (c.If cond first second) ∙ rw (h, g) refl

pub lined_for : (from to : CodeExpr) (body : CodeBlock) → lined_block body ≡ true → lined_kind (w.For from to body) ≡ true
lined_for from to body h = ap lined_kind (sym (w.rolls-For from to body)) ∙ lined_rolled (c.For from to body) ∙ h

pub lined_async : (body : CodeBlock) → lined_block body ≡ true → lined_kind (w.Async body) ≡ true
lined_async body h = ap lined_kind (sym (w.rolls-Async body)) ∙ lined_rolled (c.Async body) ∙ h

pub lined_finish : (body : CodeBlock) → lined_block body ≡ true → lined_kind (w.Finish body) ≡ true
lined_finish body h = ap lined_kind (sym (w.rolls-Finish body)) ∙ lined_rolled (c.Finish body) ∙ h

pub lined_offer : (value : CodeExpr) → lined_kind (w.Offer value) ≡ true
lined_offer value = ap lined_kind (sym (w.rolls-Offer value)) ∙ lined_rolled (c.Offer value)

pub lined_run : (callee : ℕ) (args : List CodeExpr) → lined_kind (w.Run callee args) ≡ true
lined_run callee args = ap lined_kind (sym (w.rolls-Run callee args)) ∙ lined_rolled (c.Run callee args)

pub lined_return : (value : CodeExpr) → lined_kind (w.Return value) ≡ true
lined_return value = ap lined_kind (sym (w.rolls-Return value)) ∙ lined_rolled (c.Return value)

pub lined_print : (parts : List CodePrintPart) → lined_kind (w.Print parts) ≡ true
lined_print parts = ap lined_kind (sym (w.rolls-Print parts)) ∙ lined_rolled (c.Print parts)

-- ---- statements and items one after another

one_more_lined : (ss : List CodeStmt) (s : CodeStmt) → all_true (map lined_stmt ss) ≡ true → lined_stmt s ≡ true → all_true (map lined_stmt (ss ++ s ∷ [])) ≡ true
one_more_lined [] s h k = rw k refl
one_more_lined (t ∷ ss) s h k = by_first (lined_stmt t) h (λ g. one_more_lined ss s g k)
  where
    by_first : (b : Bool) → b && all_true (map lined_stmt ss) ≡ true → (all_true (map lined_stmt ss) ≡ true → all_true (map lined_stmt (ss ++ s ∷ [])) ≡ true)
        → b && all_true (map lined_stmt (ss ++ s ∷ [])) ≡ true
    by_first true h more = more h
    by_first false h more = absurd cc

pub line_fits : (line : ℕ) → line < 4294967296 → fits_line line ≡ true
line_fits line h = lt-ltb line 4294967296 h

pub stmt_lined : (z : c.CodeStmt-F CodeStmtKind CodeBlock CodeStmt) → z.line < 4294967296 → lined_kind z.what ≡ true → lined_stmt (CS.roll-CodeStmt z) ≡ true
stmt_lined z h k = lined_rolled_stmt z ∙ rw (line_fits z.line h, k) refl

pub no_stmts_lined : AreLined []
no_stmts_lined = refl

pub more_stmts_lined : (ss : List CodeStmt) (s : CodeStmt) → AreLined ss → lined_stmt s ≡ true → AreLined (ss ++ s ∷ [])
more_stmts_lined ss s h k = one_more_lined ss s h k

pub block_lined : (z : c.CodeBlock-F CodeStmtKind CodeBlock CodeStmt) → AreLined z.stmts → lined_block (CB.roll-CodeBlock z) ≡ true
block_lined z h = lined_rolled_block z ∙ h

no_item_lined : lined_block no_item.body ≡ true
no_item_lined = lined_rolled_block (record { number = Some 0; stmts = [] })

pub none_lined : HaveLines []
none_lined n = no_item_lined

pub more_have_lines : (is : List CodeItem) (i : CodeItem) → HaveLines is → lined_block i.body ≡ true → HaveLines (is ++ i ∷ [])
more_have_lines [] i h k zero = k
more_have_lines [] i h k (suc n) = no_item_lined
more_have_lines (j ∷ is) i h k zero = h zero
more_have_lines (j ∷ is) i h k (suc n) = more_have_lines is i (λ m. h (suc m)) k n
