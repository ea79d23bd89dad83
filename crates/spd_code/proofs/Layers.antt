-- A block is the run of its statements, and each statement is a step of its kind.
use Rattle.std.proofs.Common.{◌≡◌, ℕ, List, ◌∙◌, ap, ℤ, pos, Ok, Some, []}
use Rattle.std.specs.Prelude.{map}
use Rattle.spd_code.specs.declared.stmt.CodeBlock.{CodeBlock, out-CodeBlock, fold_out-CodeBlock, roll-CodeBlock, fold-roll-CodeBlock}
use Rattle.spd_code.specs.declared.stmt.CodeStmt.{CodeStmt, fold_out-CodeStmt, roll-CodeStmt, fold-roll-CodeStmt}
use Rattle.spd_code.specs.declared.stmt.CodeStmtKind.{CodeStmtKind, roll-CodeStmtKind, fold-roll-CodeStmtKind, map-CodeStmtKind}
use Rattle.spd_code.specs.declared.stmt.CodeStmtKind.TheOpen as code
use Rattle.spd_meaning.specs.Eval.{counted, returned}
use Rattle.spd_meaning.specs.Values.{Around}
use Rattle.spd_code.specs.Coded.{CodeDeed, CodeRun, run_code, code_deed_step, code_block_step, code_run_step, eval_block, eval_stmt, eval_kind, item_returned, no_item}

module _ (around : Around ℕ) where
  -- a layer of a statement's kind, with what stands for its blocks
  abbrev pub evaluated : code.CodeStmtKind-F CodeStmtKind CodeBlock CodeStmt → code.CodeStmtKind-F CodeDeed CodeRun CodeRun
  evaluated z = map-CodeStmtKind CodeStmtKind CodeBlock CodeStmt CodeDeed CodeRun CodeRun (eval_kind around) (eval_block around) (eval_stmt around) z

  pub rolled_kind : (z : code.CodeStmtKind-F CodeStmtKind CodeBlock CodeStmt) → eval_kind around (roll-CodeStmtKind z) ≡ code_deed_step around (evaluated z)
  unfolding eval_kind eval_block eval_stmt
  rolled_kind z = fold-roll-CodeStmtKind CodeDeed CodeRun CodeRun (code_deed_step around) (code_block_step around) (code_run_step around) z

  pub rolled_line : (z : code.CodeStmt-F CodeStmtKind CodeBlock CodeStmt) → eval_stmt around (roll-CodeStmt z)
      ≡ (λ vars. counted (eval_kind around z.what z.line vars))
  unfolding eval_kind eval_block eval_stmt
  rolled_line z = fold-roll-CodeStmt CodeDeed CodeRun CodeRun (code_deed_step around) (code_block_step around) (code_run_step around) z

  pub rolled_block : (z : code.CodeBlock-F CodeStmtKind CodeBlock CodeStmt) → eval_block around (roll-CodeBlock z) ≡ run_code (map (eval_stmt around) z.stmts)
  unfolding eval_kind eval_block eval_stmt
  rolled_block z = fold-roll-CodeBlock CodeDeed CodeRun CodeRun (code_deed_step around) (code_block_step around) (code_run_step around) z

  -- a statement whose kind is this layer
  pub stmt_is : (s : CodeStmt) (z : code.CodeStmtKind-F CodeStmtKind CodeBlock CodeStmt) (vars : List ℤ) → s.what ≡ roll-CodeStmtKind z →
      eval_stmt around s vars ≡ counted (code_deed_step around (evaluated z) s.line vars)
  unfolding eval_stmt eval_kind eval_block
  stmt_is s z vars e =
      ap (λ (r : CodeRun). r vars) (fold_out-CodeStmt CodeDeed CodeRun CodeRun (code_deed_step around) (code_block_step around) (code_run_step around) s)
      ∙ ap (λ (k : CodeStmtKind). counted (eval_kind around k s.line vars)) e
      ∙ ap (λ (d : CodeDeed). counted (d s.line vars)) (rolled_kind z)

  pub block_is : (b : CodeBlock) → eval_block around b ≡ run_code (map (eval_stmt around) (out-CodeBlock b).stmts)
  unfolding eval_block eval_stmt
  block_is b = fold_out-CodeBlock CodeDeed CodeRun CodeRun (code_deed_step around) (code_block_step around) (code_run_step around) b

  -- What isn't there does nothing.
  pub nothing_called : (args : List ℤ) → item_returned around no_item args ≡ record { value = Ok (pos 0); given = [] }
  nothing_called args = ap (λ (r : CodeRun). returned (r [])) (rolled_block (record { number = Some 0; stmts = [] }))
