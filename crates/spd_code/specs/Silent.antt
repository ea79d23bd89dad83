-- Code that says nothing to a finish around it: no offer, async, run or print stands outside a finish. The checks see to it in a function.
use Rattle.std.specs.Prelude.{Bool, true, false, ◌&&◌, List, [], ◌∷◌}
use Rattle.spd_code.specs.declared.stmt.CodeStmtKind.{CodeStmtKind, fold-CodeStmtKind}
use Rattle.spd_code.specs.declared.stmt.CodeStmtKind.TheOpen as code
use Rattle.spd_code.specs.declared.stmt.CodeStmt.{CodeStmt, fold-CodeStmt}
use Rattle.spd_code.specs.declared.stmt.CodeBlock.{CodeBlock, fold-CodeBlock}

abbrev pub all_true : List Bool → Bool
all_true [] = true
all_true (b ∷ bs) = b && all_true bs

abbrev pub silent_step : code.CodeStmtKind-F Bool Bool Bool → Bool
silent_step (code.If test first second) = first && second
silent_step (code.For from to body) = body
silent_step (code.Async body) = false
silent_step (code.Offer e) = false
silent_step (code.Run callee args) = false
silent_step (code.Print parts) = false
silent_step _ = true

abbrev pub silent_line : code.CodeStmt-F Bool Bool Bool → Bool
silent_line s = s.what

abbrev pub silent_stmts : code.CodeBlock-F Bool Bool Bool → Bool
silent_stmts b = all_true b.stmts

unfoldable pub silent_block : CodeBlock → Bool
silent_block b = fold-CodeBlock Bool Bool Bool silent_step silent_stmts silent_line b

unfoldable pub silent_stmt : CodeStmt → Bool
silent_stmt s = fold-CodeStmt Bool Bool Bool silent_step silent_stmts silent_line s

unfoldable pub silent_kind : CodeStmtKind → Bool
silent_kind k = fold-CodeStmtKind Bool Bool Bool silent_step silent_stmts silent_line k
