-- A statement's turn is the turn of its row in the table of the language.
use Rattle.std.proofs.Common.{◌≡◌, ℕ, ap, length}
use Rattle.spd_code.specs.declared.stmt.CodeStmtKind.{CodeStmtKind, roll-CodeStmtKind}
use Rattle.spd_code.specs.declared.stmt.CodeStmtKind.TheOpen as code
use Rattle.spd_code.specs.declared.stmt.CodeStmt.{CodeStmt}
use Rattle.spd_code.specs.declared.stmt.CodeBlock.{CodeBlock}
use Rattle.spd_meaning.specs.Eval.{counted}
use Rattle.spd_code.specs.Coded.{Context, around_of, code_deed_step, eval_stmt}
use Rattle.spd_level.specs.Left.{level_left}
use Rattle.spd_level.specs.Turn.{LevelTurn}
use Rattle.spd_code.proofs.Layers.{stmt_is, evaluated}
use Rattle.spd_level.proofs.Stepping.{turned_at}
use Rattle.spd_level.specs.declared.level.Level.{Level}
use Rattle.spd_level.specs.declared.step.Step.{Step}

module _ (context : Context) (left : ℕ) where
  pub row_turned : (l new : Level) (s : CodeStmt) (by : Step) (z : code.CodeStmtKind-F CodeStmtKind CodeBlock CodeStmt) → s.what ≡ roll-CodeStmtKind z →
      LevelTurn context (level_left context l (counted
      (code_deed_step (around_of context left) (evaluated (around_of context left) z) s.line l.vars.items))) (length l.frames.items) new by →
      LevelTurn context (level_left context l (eval_stmt (around_of context left) s l.vars.items)) (length l.frames.items) new by
  row_turned l new s by z e h =
      turned_at context _ _ (length l.frames.items) new by (ap (level_left context l) (stmt_is (around_of context left) s z l.vars.items e)) h
