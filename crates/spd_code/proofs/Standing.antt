-- Where the statements of a function stand where they may, its code is silent.
use Rattle.std.proofs.Common.{◌≡◌, ℕ, zero, suc, ◌+◌, List, [], ◌∷◌, ◌++◌, refl, sym, ◌∙◌, ap, subst, true, false}
use Rattle.std.specs.Prelude.{map, Bool, Some, None}
use Rattle.spd_syntax.specs.declared.tree.StmtKind.{StmtKind}
use Rattle.spd_syntax.specs.declared.tree.StmtKind as K
use Rattle.spd_syntax.specs.declared.tree.StmtKind.TheOpen as s
use Rattle.spd_syntax.specs.declared.tree.Stmt.{Stmt}
use Rattle.spd_syntax.specs.declared.tree.Stmt as S
use Rattle.spd_code.specs.declared.stmt.CodeStmtKind.{CodeStmtKind}
use Rattle.spd_code.specs.declared.stmt.CodeStmtKind as CK
use Rattle.spd_code.specs.declared.stmt.CodeStmtKind.TheOpen as c
use Rattle.spd_code.specs.declared.stmt.CodeStmt.{CodeStmt}
use Rattle.spd_code.specs.declared.stmt.CodeStmt as CS
use Rattle.spd_code.specs.declared.stmt.CodeBlock.{CodeBlock}
use Rattle.spd_code.specs.declared.stmt.CodeBlock as CB
use Rattle.spd_code.specs.declared.tree.CodeItem.{CodeItem}
use Rattle.spd_meaning.specs.Names.{Names}
use Rattle.spd_meaning.specs.Programs.{Callable}
use Rattle.spd_meaning.specs.Standing.{Stands, all_stand, stands_step, stands_line, stmt_stands, kind_stands, body_stands, StandWell}
use Rattle.spd_code.specs.Resolved.{Spaces, Resolved, resolve_kind, resolve_line, kind_code, block_code, else_code, statements_code, blocks_within, statement_resolved, kind_resolved, code_of}
use Rattle.spd_code.specs.Coded.{item_at, no_item}
use Rattle.spd_code.specs.Alike.{AreItems}
use Rattle.spd_code.specs.Silent.{all_true, silent_step, silent_line, silent_stmts, silent_block, silent_stmt, silent_kind}
use Rattle.spd_code.proofs.Lists.{both_true, true_both}

module _ (spaces : Spaces) where
  abbrev R : Type 0
  R = Resolved CodeStmt

  abbrev RK : Type 0
  RK = Resolved CodeStmtKind

  abbrev KindHolds : StmtKind → Type 0
  KindHolds k = kind_stands k false ≡ true → (names : Names) (next : ℕ) → silent_kind ((kind_resolved spaces k).code names next) ≡ true

  abbrev StmtHolds : Stmt → Type 0
  StmtHolds t = stmt_stands t false ≡ true → (names : Names) (next : ℕ) → silent_stmt ((statement_resolved spaces t).code names next) ≡ true

  abbrev KindWith : Type 0
  KindWith = (k : StmtKind) × KindHolds k

  abbrev StmtWith : Type 0
  StmtWith = (t : Stmt) × StmtHolds t

  abbrev bare : List StmtWith → List Stmt
  bare ts = map (λ (t : StmtWith). t.0) ts

  silent_rolled : (z : c.CodeStmtKind-F CodeStmtKind CodeBlock CodeStmt) → silent_kind (CK.roll-CodeStmtKind z)
      ≡ silent_step (CK.map-CodeStmtKind CodeStmtKind CodeBlock CodeStmt Bool Bool Bool silent_kind silent_block silent_stmt z)
  unfolding silent_kind silent_block silent_stmt
  silent_rolled z = CK.fold-roll-CodeStmtKind Bool Bool Bool silent_step silent_stmts silent_line z

  silent_rolled_line : (z : c.CodeStmt-F CodeStmtKind CodeBlock CodeStmt) → silent_stmt (CS.roll-CodeStmt z) ≡ silent_kind z.what
  unfolding silent_kind silent_block silent_stmt
  silent_rolled_line z = CS.fold-roll-CodeStmt Bool Bool Bool silent_step silent_stmts silent_line z

  silent_rolled_block : (z : c.CodeBlock-F CodeStmtKind CodeBlock CodeStmt) → silent_block (CB.roll-CodeBlock z) ≡ all_true (map silent_stmt z.stmts)
  unfolding silent_kind silent_block silent_stmt
  silent_rolled_block z = CB.fold-roll-CodeBlock Bool Bool Bool silent_step silent_stmts silent_line z

  abbrev layer : s.StmtKind-F StmtKind Stmt → s.StmtKind-F RK R
  layer z = K.map-StmtKind StmtKind Stmt RK R (kind_resolved spaces) (statement_resolved spaces) z

  rolled : (z : s.StmtKind-F StmtKind Stmt) → (stands_step (K.map-StmtKind StmtKind Stmt Stands Stands kind_stands stmt_stands z) false ≡ true →
      (names : Names) (next : ℕ) →
      silent_step (CK.map-CodeStmtKind CodeStmtKind CodeBlock CodeStmt Bool Bool Bool silent_kind silent_block silent_stmt
      (kind_code spaces (layer z) names next)) ≡ true) → KindHolds (K.roll-StmtKind z)
  unfolding kind_stands stmt_stands
  rolled z q e names next =
      ap (λ (r : RK). silent_kind (r.code names next)) (K.fold-roll-StmtKind RK R (resolve_kind spaces) (resolve_line spaces) z)
      ∙ silent_rolled (kind_code spaces (layer z) names next)
      ∙ q (ap (λ (p : Stands). p false) (sym (K.fold-roll-StmtKind Stands Stands stands_step stands_line z)) ∙ e) names next

  -- the statements of a block
  all_silent : (ts : List StmtWith) → all_stand (map stmt_stands (bare ts)) false ≡ true → (names : Names) (next : ℕ) →
      all_true (map silent_stmt (statements_code (map (statement_resolved spaces) (bare ts)) names next)) ≡ true
  all_silent [] e names next = refl
  all_silent (t ∷ ts) e names next =
      let n = true_both (stmt_stands t.0 false) (all_stand (map stmt_stands (bare ts)) false) e in
      both_true _ _ (t.1 n.0 names next) (all_silent ts n.1 (names ++ (statement_resolved spaces t.0).binds) (next + (statement_resolved spaces t.0).blocks))

  block_quiet : (ts : List StmtWith) → all_stand (map stmt_stands (bare ts)) false ≡ true → (names : Names) (next : ℕ) →
      silent_block (block_code (map (statement_resolved spaces) (bare ts)) names next) ≡ true
  block_quiet ts e names next =
      silent_rolled_block (record { number = Some next; stmts = statements_code (map (statement_resolved spaces) (bare ts)) names (suc next) })
      ∙ all_silent ts e names (suc next)

  else_quiet : (ts : List StmtWith) → all_stand (map stmt_stands (bare ts)) false ≡ true → (names : Names) (next : ℕ) →
      silent_block (else_code (map (statement_resolved spaces) (bare ts)) names next) ≡ true
  else_quiet [] e names next = silent_rolled_block (record { number = None; stmts = [] })
  else_quiet (t ∷ ts) e names next = block_quiet (t ∷ ts) e names next

  at_layer : (y : s.StmtKind-F KindWith StmtWith) → KindHolds (K.roll-StmtKind (K.map-StmtKind KindWith StmtWith StmtKind Stmt (λ k. k.0) (λ t. t.0) y))
  at_layer (s.Let name e) = rolled (s.Let name e) (λ q names next. refl)
  at_layer (s.Assign name e) = rolled (s.Assign name e) (λ q names next. refl)
  at_layer (s.If e first second) = rolled (s.If e (bare first) (bare second)) (λ q names next.
      let n = true_both (all_stand (map stmt_stands (bare first)) false) (all_stand (map stmt_stands (bare second)) false) q in
      both_true _ _ (block_quiet first n.0 names next)
      (else_quiet second n.1 names (next + suc (blocks_within (map (statement_resolved spaces) (bare first))))))
  at_layer (s.For name from to body) = rolled (s.For name from to (bare body)) (λ q names next. block_quiet body q (names ++ name ∷ []) next)
  at_layer (s.LetCall name callee args) = rolled (s.LetCall name callee args) (λ q names next. refl)
  at_layer (s.Run callee args) = rolled (s.Run callee args) (λ q names next. absurd (cc))
  at_layer (s.Async body) = rolled (s.Async (bare body)) (λ q names next. absurd (cc))
  at_layer (s.Finish body) = rolled (s.Finish (bare body)) (λ q names next. refl)
  at_layer (s.LetFinish name k body) = rolled (s.LetFinish name k (bare body)) (λ q names next. refl)
  at_layer (s.Offer e) = rolled (s.Offer e) (λ q names next. absurd (cc))
  at_layer (s.Return e) = rolled (s.Return e) (λ q names next. refl)
  at_layer (s.Print ps) = rolled (s.Print ps) (λ q names next. absurd (cc))

  at_kinds : (x : s.StmtKind-F StmtKind Stmt) (y : s.StmtKind-F KindWith StmtWith) → K.map-StmtKind KindWith StmtWith StmtKind Stmt (λ k. k.0) (λ t. t.0) y
      ≡ x → KindHolds (K.roll-StmtKind x)
  at_kinds x y e = subst (λ (z : s.StmtKind-F StmtKind Stmt). KindHolds (K.roll-StmtKind z)) e (at_layer y)

  at_line : (z : s.Stmt-F StmtKind Stmt) → KindHolds z.what → StmtHolds (S.roll-Stmt z)
  unfolding kind_stands stmt_stands
  at_line z k e names next =
      ap (λ (r : R). silent_stmt (r.code names next)) (S.fold-roll-Stmt RK R (resolve_kind spaces) (resolve_line spaces) z)
      ∙ silent_rolled_line (record { line = z.line; next_block = next; what = (kind_resolved spaces z.what).code names next })
      ∙ k (ap (λ (p : Stands). p false) (sym (S.fold-roll-Stmt Stands Stands stands_step stands_line z)) ∙ e) names next

  at_stmts : (x : s.Stmt-F StmtKind Stmt) (y : s.Stmt-F KindWith StmtWith) → S.map-Stmt KindWith StmtWith StmtKind Stmt (λ k. k.0) (λ t. t.0) y ≡ x →
      StmtHolds (S.roll-Stmt x)
  at_stmts x y e = subst (λ (z : s.Stmt-F StmtKind Stmt). StmtHolds (S.roll-Stmt z)) e (at_line (record { line = y.line; what = y.what.0 }) y.what.1)

  stmt_quiet : (t : Stmt) → StmtHolds t
  stmt_quiet = S.ind-Stmt KindHolds StmtHolds at_kinds at_stmts

  with_all : (ts : List Stmt) → bare (map (λ t. (t, stmt_quiet t)) ts) ≡ ts
  with_all [] = refl
  with_all (t ∷ ts) = ap (λ (r : List Stmt). t ∷ r) (with_all ts)

  -- a body, whose code is then silent whatever the names and numbers
  pub body_quiet : (ts : List Stmt) → body_stands ts ≡ true → (names : Names) (next : ℕ) → silent_block (code_of spaces names next ts) ≡ true
  body_quiet ts e names next =
      ap (λ (zs : List Stmt). silent_block (code_of spaces names next zs)) (sym (with_all ts))
      ∙ block_quiet (map (λ t. (t, stmt_quiet t)) ts) (ap (λ (zs : List Stmt). all_stand (map stmt_stands zs) false) (with_all ts) ∙ e) names next

  nothing_silent : silent_block no_item.body ≡ true
  nothing_silent = silent_rolled_block (record { number = Some 0; stmts = [] })

  -- Each function of a code is silent, whose statements stand well.
  pub functions_quiet : (cs : List Callable) (items : List CodeItem) → AreItems spaces cs items → StandWell cs → (f : ℕ) → silent_block (item_at items f).body
      ≡ true
  functions_quiet [] [] a w f = nothing_silent
  functions_quiet [] (i ∷ is) a w f = absurd a
  functions_quiet (d ∷ ds) [] a w f = absurd a
  functions_quiet (d ∷ ds) (i ∷ is) a w zero = ap silent_block a.0.body ∙ body_quiet d.body w.0 d.params a.0.next
  functions_quiet (d ∷ ds) (i ∷ is) a w (suc f) = functions_quiet ds is a.1 w.1 f
