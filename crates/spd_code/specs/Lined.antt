-- Code whose lines are of 32 bits, as each line of a text is.
use Rattle.std.specs.Prelude.{ℕ, Bool, true, ◌&&◌, nat_lt}
use Rattle.spd_code.specs.declared.stmt.CodeStmtKind.{CodeStmtKind, fold-CodeStmtKind}
use Rattle.spd_code.specs.declared.stmt.CodeStmtKind.TheOpen as code
use Rattle.spd_code.specs.declared.stmt.CodeStmt.{CodeStmt, fold-CodeStmt}
use Rattle.spd_code.specs.declared.stmt.CodeBlock.{CodeBlock, fold-CodeBlock}
use Rattle.spd_code.specs.Silent.{all_true}

abbrev pub fits_line : ℕ → Bool
fits_line line = nat_lt line 4294967296

abbrev pub lined_step : code.CodeStmtKind-F Bool Bool Bool → Bool
lined_step (code.If test first second) = first && second
lined_step (code.For from to body) = body
lined_step (code.Async body) = body
lined_step (code.Finish body) = body
lined_step (code.LetFinish kind body) = body
lined_step _ = true

abbrev pub lined_line : code.CodeStmt-F Bool Bool Bool → Bool
lined_line s = fits_line s.line && s.what

abbrev pub lined_stmts : code.CodeBlock-F Bool Bool Bool → Bool
lined_stmts b = all_true b.stmts

unfoldable pub lined_block : CodeBlock → Bool
lined_block b = fold-CodeBlock Bool Bool Bool lined_step lined_stmts lined_line b

unfoldable pub lined_stmt : CodeStmt → Bool
lined_stmt s = fold-CodeStmt Bool Bool Bool lined_step lined_stmts lined_line s

unfoldable pub lined_kind : CodeStmtKind → Bool
lined_kind k = fold-CodeStmtKind Bool Bool Bool lined_step lined_stmts lined_line k
