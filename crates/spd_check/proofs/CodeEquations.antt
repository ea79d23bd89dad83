-- What the code of a statement is, kind by kind, and the names that it binds.
use Rattle.std.proofs.Common.{◌≡◌, ◌∙◌, ℕ, ◌+◌, List, [], ◌∷◌, ◌++◌, ap, map, sym, refl}
use Rattle.spd_syntax.specs.declared.tree.Expr.{Expr}
use Rattle.spd_syntax.specs.declared.tree.PrintPart.{PrintPart}
use Rattle.spd_syntax.specs.declared.tree.Collect.{Collect}
use Rattle.spd_syntax.specs.declared.tree.Stmt.{Stmt, fold_out-Stmt}
use Rattle.spd_syntax.specs.declared.tree.StmtKind.{StmtKind, fold-roll-StmtKind, fold_out-StmtKind, out-StmtKind, roll-StmtKind, map-StmtKind}
use Rattle.spd_syntax.specs.declared.tree.StmtKind.TheOpen as s
use Rattle.spd_syntax.specs.declared.tree.StmtKind.TheVariants as v
use Rattle.spd_code.specs.declared.stmt.CodeStmtKind.{CodeStmtKind}
use Rattle.spd_code.specs.declared.stmt.CodeStmt.{CodeStmt}
use Rattle.spd_code.specs.declared.stmt.CodeBlock.{CodeBlock}
use Rattle.spd_code.specs.declared.expr.CodeExpr.{CodeExpr}
use Rattle.spd_code.specs.declared.stmt.CodeStmtKind.TheVariants as w
use Rattle.spd_meaning.specs.Names.{Name, Names, binds}
use Rattle.spd_code.specs.Places.{place_of}
use Rattle.spd_code.specs.Resolved.{Spaces, Resolved, expression_code, part_code, resolve_kind, resolve_line, statement_resolved, kind_resolved}
use Rattle.spd_check.specs.Coding.{bound_names, block_coded, block_count, else_coded, else_count}

-- What stands for the blocks plays no part in the names that are bound.
binds_mapped : {A B E F : Type 0} (f : E → A) (g : F → B) (kind : s.StmtKind-F E F) → binds (map-StmtKind E F A B f g kind) ≡ binds kind
binds_mapped f g (s.Let name value) = refl
binds_mapped f g (s.LetCall name callee args) = refl
binds_mapped f g (s.LetFinish name kind body) = refl
binds_mapped f g _ = refl

pub if_alike : (a d : CodeExpr) (b e c f : CodeBlock) → a ≡ d → b ≡ e → c ≡ f → w.If a b c ≡ w.If d e f
if_alike a d b e c f p q r = rw (p, q, r) refl

pub for_alike : (a d b e : CodeExpr) (c f : CodeBlock) → a ≡ d → b ≡ e → c ≡ f → w.For a b c ≡ w.For d e f
for_alike a d b e c f p q r = rw (p, q, r) refl

module _ (spaces : Spaces) where
  -- An `else` that isn't empty is a block like others.
  pub else_is : (stmts : List Stmt) (names : Names) (next : ℕ) → (stmts ≡ [] → ⊥) → else_coded spaces stmts names next ≡ block_coded spaces stmts names next
  unfolding block_coded else_coded
  else_is [] names next h = absurd (h refl)
  else_is (t ∷ stmts) names next h = refl

  pub else_counts : (stmts : List Stmt) → (stmts ≡ [] → ⊥) → else_count spaces stmts ≡ block_count spaces stmts
  unfolding block_count else_count
  else_counts [] h = absurd (h refl)
  else_counts (t ∷ stmts) h = refl

  pub stmt_binds : (t : Stmt) → (statement_resolved spaces t).binds ≡ bound_names t.what
  unfolding bound_names
  stmt_binds t =
      ap (λ (r : Resolved CodeStmt). r.binds) (fold_out-Stmt (Resolved CodeStmtKind) (Resolved CodeStmt) (resolve_kind spaces) (resolve_line spaces) t)
      ∙ (ap (λ (r : Resolved CodeStmtKind). r.binds) (fold_out-StmtKind (Resolved CodeStmtKind) (Resolved CodeStmt) (resolve_kind spaces)
      (resolve_line spaces) t.what)
      ∙ binds_mapped (kind_resolved spaces) (statement_resolved spaces) (out-StmtKind t.what))

  rolled : (z : s.StmtKind-F StmtKind Stmt) → kind_resolved spaces (roll-StmtKind z)
      ≡ resolve_kind spaces (map-StmtKind StmtKind Stmt (Resolved CodeStmtKind) (Resolved CodeStmt) (kind_resolved spaces) (statement_resolved spaces) z)
  rolled z = fold-roll-StmtKind (Resolved CodeStmtKind) (Resolved CodeStmt) (resolve_kind spaces) (resolve_line spaces) z

  pub resolved_let : (name : Name) (value : Expr) → kind_resolved spaces (v.Let name value) ≡ resolve_kind spaces (s.Let name value)
  resolved_let name value = ap (kind_resolved spaces) (sym (v.rolls-Let name value)) ∙ rolled (s.Let name value)

  pub resolved_let_call : (name : Name) (callee : Name) (args : List Expr) → kind_resolved spaces (v.LetCall name callee args)
      ≡ resolve_kind spaces (s.LetCall name callee args)
  resolved_let_call name callee args = ap (kind_resolved spaces) (sym (v.rolls-LetCall name callee args)) ∙ rolled (s.LetCall name callee args)

  pub resolved_let_finish : (name : Name) (kind : Collect) (body : List Stmt) → kind_resolved spaces (v.LetFinish name kind body)
      ≡ resolve_kind spaces (s.LetFinish name kind (map (statement_resolved spaces) body))
  resolved_let_finish name kind body = ap (kind_resolved spaces) (sym (v.rolls-LetFinish name kind body)) ∙ rolled (s.LetFinish name kind body)

  pub resolved_assign : (name : Name) (value : Expr) → kind_resolved spaces (v.Assign name value) ≡ resolve_kind spaces (s.Assign name value)
  resolved_assign name value = ap (kind_resolved spaces) (sym (v.rolls-Assign name value)) ∙ rolled (s.Assign name value)

  pub resolved_if : (cond : Expr) (first : List Stmt) (second : List Stmt) → kind_resolved spaces (v.If cond first second)
      ≡ resolve_kind spaces (s.If cond (map (statement_resolved spaces) first) (map (statement_resolved spaces) second))
  resolved_if cond first second = ap (kind_resolved spaces) (sym (v.rolls-If cond first second)) ∙ rolled (s.If cond first second)

  pub resolved_for : (name : Name) (from : Expr) (to : Expr) (body : List Stmt) → kind_resolved spaces (v.For name from to body)
      ≡ resolve_kind spaces (s.For name from to (map (statement_resolved spaces) body))
  resolved_for name from to body = ap (kind_resolved spaces) (sym (v.rolls-For name from to body)) ∙ rolled (s.For name from to body)

  pub resolved_async : (body : List Stmt) → kind_resolved spaces (v.Async body) ≡ resolve_kind spaces (s.Async (map (statement_resolved spaces) body))
  resolved_async body = ap (kind_resolved spaces) (sym (v.rolls-Async body)) ∙ rolled (s.Async body)

  pub resolved_finish : (body : List Stmt) → kind_resolved spaces (v.Finish body) ≡ resolve_kind spaces (s.Finish (map (statement_resolved spaces) body))
  resolved_finish body = ap (kind_resolved spaces) (sym (v.rolls-Finish body)) ∙ rolled (s.Finish body)

  pub resolved_offer : (value : Expr) → kind_resolved spaces (v.Offer value) ≡ resolve_kind spaces (s.Offer value)
  resolved_offer value = ap (kind_resolved spaces) (sym (v.rolls-Offer value)) ∙ rolled (s.Offer value)

  pub resolved_run : (callee : Name) (args : List Expr) → kind_resolved spaces (v.Run callee args) ≡ resolve_kind spaces (s.Run callee args)
  resolved_run callee args = ap (kind_resolved spaces) (sym (v.rolls-Run callee args)) ∙ rolled (s.Run callee args)

  pub resolved_return : (value : Expr) → kind_resolved spaces (v.Return value) ≡ resolve_kind spaces (s.Return value)
  resolved_return value = ap (kind_resolved spaces) (sym (v.rolls-Return value)) ∙ rolled (s.Return value)

  pub resolved_print : (parts : List PrintPart) → kind_resolved spaces (v.Print parts) ≡ resolve_kind spaces (s.Print parts)
  resolved_print parts = ap (kind_resolved spaces) (sym (v.rolls-Print parts)) ∙ rolled (s.Print parts)

  pub coded_let : (name : Name) (value : Expr) (names : Names) (next : ℕ) → (kind_resolved spaces (v.Let name value)).code names next
      ≡ w.Let (expression_code spaces names value)
  unfolding block_coded else_coded block_count else_count
  coded_let name value names next = ap (λ (r : Resolved CodeStmtKind). r.code names next) (resolved_let name value)
      ∙ w.rolls-Let (expression_code spaces names value)

  pub coded_let_call : (name : Name) (callee : Name) (args : List Expr) (names : Names) (next : ℕ)
      → (kind_resolved spaces (v.LetCall name callee args)).code names next
      ≡ w.LetCall (place_of spaces.functions callee) (map (expression_code spaces names) args)
  unfolding block_coded else_coded block_count else_count
  coded_let_call name callee args names next = ap (λ (r : Resolved CodeStmtKind). r.code names next) (resolved_let_call name callee args)
      ∙ w.rolls-LetCall (place_of spaces.functions callee) (map (expression_code spaces names) args)

  pub coded_let_finish : (name : Name) (kind : Collect) (body : List Stmt) (names : Names) (next : ℕ)
      → (kind_resolved spaces (v.LetFinish name kind body)).code names next
      ≡ w.LetFinish kind (block_coded spaces body names next)
  unfolding block_coded else_coded block_count else_count
  coded_let_finish name kind body names next = ap (λ (r : Resolved CodeStmtKind). r.code names next) (resolved_let_finish name kind body)
      ∙ w.rolls-LetFinish kind (block_coded spaces body names next)

  pub counted_let_finish : (name : Name) (kind : Collect) (body : List Stmt) → (kind_resolved spaces (v.LetFinish name kind body)).blocks
      ≡ block_count spaces body
  unfolding block_count else_count
  counted_let_finish name kind body = ap (λ (r : Resolved CodeStmtKind). r.blocks) (resolved_let_finish name kind body)

  pub coded_assign : (name : Name) (value : Expr) (names : Names) (next : ℕ) → (kind_resolved spaces (v.Assign name value)).code names next
      ≡ w.Assign (place_of names name) (expression_code spaces names value)
  unfolding block_coded else_coded block_count else_count
  coded_assign name value names next = ap (λ (r : Resolved CodeStmtKind). r.code names next) (resolved_assign name value)
      ∙ w.rolls-Assign (place_of names name) (expression_code spaces names value)

  pub coded_if : (cond : Expr) (first : List Stmt) (second : List Stmt) (names : Names) (next : ℕ)
      → (kind_resolved spaces (v.If cond first second)).code names next
      ≡ w.If (expression_code spaces names cond) (block_coded spaces first names next) (else_coded spaces second names (next + block_count spaces first))
  unfolding block_coded else_coded block_count else_count
  coded_if cond first second names next = ap (λ (r : Resolved CodeStmtKind). r.code names next) (resolved_if cond first second)
      ∙ w.rolls-If (expression_code spaces names cond) (block_coded spaces first names next) (else_coded spaces second names
      (next + block_count spaces first))

  pub counted_if : (cond : Expr) (first : List Stmt) (second : List Stmt) → (kind_resolved spaces (v.If cond first second)).blocks
      ≡ block_count spaces first + else_count spaces second
  unfolding block_count else_count
  counted_if cond first second = ap (λ (r : Resolved CodeStmtKind). r.blocks) (resolved_if cond first second)

  pub coded_for : (name : Name) (from : Expr) (to : Expr) (body : List Stmt) (names : Names) (next : ℕ)
      → (kind_resolved spaces (v.For name from to body)).code names next
      ≡ w.For (expression_code spaces names from) (expression_code spaces names to) (block_coded spaces body (names ++ name ∷ []) next)
  unfolding block_coded else_coded block_count else_count
  coded_for name from to body names next = ap (λ (r : Resolved CodeStmtKind). r.code names next) (resolved_for name from to body)
      ∙ w.rolls-For (expression_code spaces names from) (expression_code spaces names to) (block_coded spaces body (names ++ name ∷ []) next)

  pub counted_for : (name : Name) (from : Expr) (to : Expr) (body : List Stmt) → (kind_resolved spaces (v.For name from to body)).blocks
      ≡ block_count spaces body
  unfolding block_count else_count
  counted_for name from to body = ap (λ (r : Resolved CodeStmtKind). r.blocks) (resolved_for name from to body)

  pub coded_async : (body : List Stmt) (names : Names) (next : ℕ) → (kind_resolved spaces (v.Async body)).code names next
      ≡ w.Async (block_coded spaces body names next)
  unfolding block_coded else_coded block_count else_count
  coded_async body names next = ap (λ (r : Resolved CodeStmtKind). r.code names next) (resolved_async body)
      ∙ w.rolls-Async (block_coded spaces body names next)

  pub counted_async : (body : List Stmt) → (kind_resolved spaces (v.Async body)).blocks ≡ block_count spaces body
  unfolding block_count else_count
  counted_async body = ap (λ (r : Resolved CodeStmtKind). r.blocks) (resolved_async body)

  pub coded_finish : (body : List Stmt) (names : Names) (next : ℕ) → (kind_resolved spaces (v.Finish body)).code names next
      ≡ w.Finish (block_coded spaces body names next)
  unfolding block_coded else_coded block_count else_count
  coded_finish body names next = ap (λ (r : Resolved CodeStmtKind). r.code names next) (resolved_finish body)
      ∙ w.rolls-Finish (block_coded spaces body names next)

  pub counted_finish : (body : List Stmt) → (kind_resolved spaces (v.Finish body)).blocks ≡ block_count spaces body
  unfolding block_count else_count
  counted_finish body = ap (λ (r : Resolved CodeStmtKind). r.blocks) (resolved_finish body)

  pub coded_offer : (value : Expr) (names : Names) (next : ℕ) → (kind_resolved spaces (v.Offer value)).code names next
      ≡ w.Offer (expression_code spaces names value)
  unfolding block_coded else_coded block_count else_count
  coded_offer value names next = ap (λ (r : Resolved CodeStmtKind). r.code names next) (resolved_offer value)
      ∙ w.rolls-Offer (expression_code spaces names value)

  pub coded_run : (callee : Name) (args : List Expr) (names : Names) (next : ℕ) → (kind_resolved spaces (v.Run callee args)).code names next
      ≡ w.Run (place_of spaces.tasks callee) (map (expression_code spaces names) args)
  unfolding block_coded else_coded block_count else_count
  coded_run callee args names next = ap (λ (r : Resolved CodeStmtKind). r.code names next) (resolved_run callee args)
      ∙ w.rolls-Run (place_of spaces.tasks callee) (map (expression_code spaces names) args)

  pub coded_return : (value : Expr) (names : Names) (next : ℕ) → (kind_resolved spaces (v.Return value)).code names next
      ≡ w.Return (expression_code spaces names value)
  unfolding block_coded else_coded block_count else_count
  coded_return value names next = ap (λ (r : Resolved CodeStmtKind). r.code names next) (resolved_return value)
      ∙ w.rolls-Return (expression_code spaces names value)

  pub coded_print : (parts : List PrintPart) (names : Names) (next : ℕ) → (kind_resolved spaces (v.Print parts)).code names next
      ≡ w.Print (map (part_code spaces names) parts)
  unfolding block_coded else_coded block_count else_count
  coded_print parts names next = ap (λ (r : Resolved CodeStmtKind). r.code names next) (resolved_print parts)
      ∙ w.rolls-Print (map (part_code spaces names) parts)
