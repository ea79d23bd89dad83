-- Statements, blocks and programs evaluate alike by names and by places.
use Rattle.std.proofs.Common.{◌≡◌, ℕ, suc, ◌+◌, List, [], ◌∷◌, ◌++◌, length, refl, sym, ap, subst, append_assoc, append-nil, ℤ, ◌-ℤ◌, true, false, if◌then◌else◌}
use Rattle.std.specs.Prelude.{map, Some, None}
use Rattle.spd_words.specs.declared.finish_kind.FinishKind.TheVariants as kind
use Rattle.spd_syntax.specs.declared.tree.Expr.{Expr}
use Rattle.spd_syntax.specs.declared.tree.StmtKind.{StmtKind}
use Rattle.spd_syntax.specs.declared.tree.StmtKind as K
use Rattle.spd_syntax.specs.declared.tree.StmtKind.TheOpen as s
use Rattle.spd_syntax.specs.declared.tree.Stmt.{Stmt}
use Rattle.spd_syntax.specs.declared.tree.Stmt as S
use Rattle.spd_code.specs.declared.stmt.CodeStmtKind.{CodeStmtKind}
use Rattle.spd_code.specs.declared.stmt.CodeStmtKind as CK
use Rattle.spd_code.specs.declared.stmt.CodeStmt.{CodeStmt}
use Rattle.spd_code.specs.declared.stmt.CodeStmt as CS
use Rattle.spd_code.specs.declared.stmt.CodeBlock.{CodeBlock}
use Rattle.spd_meaning.specs.Names.{Name, Names, binds, Entry, Env, bind, assign}
use Rattle.spd_code.specs.Places.{place_of, put_at, bind_if}
use Rattle.spd_code.specs.Resolved.{Spaces, Resolved, expression_code, statements_code, block_code, else_code, kind_code, statement_resolved, kind_resolved, code_of, resolve_kind, resolve_line}
use Rattle.spd_meaning.specs.Acts.{Acts, Offer, Line, Tick}
use Rattle.spd_meaning.specs.Eval.{Fell, Eval, quiet, before, counted, cut, turns_to}
use Rattle.spd_meaning.specs.Values.{Around, ValueOrFault, all_values, all_texts, is_true}
use Rattle.spd_meaning.specs.Meaning.{chosen, collecting, value, run, Run, Deed, deed_step, run_step, part_value, stmt_meaning, kind_meaning, block_meaning}
use Rattle.spd_code.specs.Coded.{eval_block, eval_stmt, eval_kind, code_value, CodeRun, CodeDeed, run_code, code_deed_step}
use Rattle.spd_code.specs.Alike.{names_of, values_of, Alike, AroundAlike}
use Rattle.spd_code.proofs.Places.{bound, bound_names, assigned, assigned_names}
use Rattle.spd_code.proofs.Alike.{alike_then, alike_before, alike_cut, alike_turns, alike_async, alike_finish, alike_call, alike_value, alike_values, alike_text}
use Rattle.spd_code.proofs.Layers.{evaluated, rolled_kind, rolled_line, rolled_block}
use Rattle.spd_code.proofs.AlikeValues.{same_value, same_values, same_parts}

-- a code that falls through with values that are those of an environment
fell_as : (names : Names) (env : Env) (vars : List ℤ) (p : Acts) → names_of env ≡ names → values_of env ≡ vars →
    Alike names (before p (quiet (Fell env))) (before p (quiet (Fell vars)))
fell_as names env vars p n v = record { same = ap (λ (vs : List ℤ). before p (quiet (Fell vs))) (sym v); behind = n }

module _ (spaces : Spaces) (around : Around Name) (numbered : Around ℕ) (h : AroundAlike spaces around numbered) where
  abbrev R : Type 0
  R = Resolved CodeStmt

  abbrev RK : Type 0
  RK = Resolved CodeStmtKind

  -- ---- what is to be shown

  abbrev KindHolds : StmtKind → Type 0
  KindHolds k = (next line : ℕ) (env : Env) →
      Alike (names_of env ++ (kind_resolved spaces k).binds) (kind_meaning around k line env)
      (eval_kind numbered ((kind_resolved spaces k).code (names_of env) next) line (values_of env))

  abbrev StmtHolds : Stmt → Type 0
  StmtHolds t = (next : ℕ) (env : Env) →
      Alike (names_of env ++ (statement_resolved spaces t).binds) (stmt_meaning around t env)
      (eval_stmt numbered ((statement_resolved spaces t).code (names_of env) next) (values_of env))

  abbrev KindWith : Type 0
  KindWith = (k : StmtKind) × KindHolds k

  abbrev StmtWith : Type 0
  StmtWith = (t : Stmt) × StmtHolds t

  abbrev bare : List StmtWith → List Stmt
  bare ts = map (λ t. t.0) ts

  -- ---- blocks

  abbrev all_binds : List Stmt → Names
  all_binds [] = []
  all_binds (t ∷ ts) = (statement_resolved spaces t).binds ++ all_binds ts

  alike_run : (ts : List StmtWith) (next : ℕ) (env : Env) →
      Alike (names_of env ++ all_binds (bare ts)) (run (map (stmt_meaning around) (bare ts)) env)
      (run_code (map (eval_stmt numbered) (statements_code (map (statement_resolved spaces) (bare ts)) (names_of env) next)) (values_of env))
  alike_run [] next env = fell_as (names_of env ++ []) env (values_of env) [] (sym (append-nil (names_of env))) refl
  alike_run (t ∷ ts) next env =
      let r = statement_resolved spaces t.0 in
      let ss = map (statement_resolved spaces) (bare ts) in
      alike_then (names_of env ++ r.binds) (names_of env ++ (r.binds ++ all_binds (bare ts))) (stmt_meaning around t.0 env)
      (eval_stmt numbered (r.code (names_of env) next) (values_of env))
      (run (map (stmt_meaning around) (bare ts)))
      (run_code (map (eval_stmt numbered) (statements_code ss (names_of env ++ r.binds) (next + r.blocks))))
      (t.1 next env)
      (λ behind q.
      subst (λ (ns : Names). Alike ns (run (map (stmt_meaning around) (bare ts)) behind)
      (run_code (map (eval_stmt numbered) (statements_code ss (names_of env ++ r.binds) (next + r.blocks))) (values_of behind)))
      (append_assoc (names_of env) r.binds (all_binds (bare ts)))
      (subst (λ (ns : Names). Alike (ns ++ all_binds (bare ts)) (run (map (stmt_meaning around) (bare ts)) behind)
      (run_code (map (eval_stmt numbered) (statements_code ss ns (next + r.blocks))) (values_of behind)))
      q (alike_run ts (next + r.blocks) behind)))

  alike_block : (ts : List StmtWith) (next : ℕ) (env : Env) →
      Alike (names_of env ++ all_binds (bare ts)) (run (map (stmt_meaning around) (bare ts)) env)
      (eval_block numbered (block_code (map (statement_resolved spaces) (bare ts)) (names_of env) next) (values_of env))
  alike_block ts next env =
      let code = statements_code (map (statement_resolved spaces) (bare ts)) (names_of env) (suc next) in
      subst (λ (r : CodeRun). Alike (names_of env ++ all_binds (bare ts)) (run (map (stmt_meaning around) (bare ts)) env) (r (values_of env)))
      (sym (rolled_block numbered (record { number = Some next; stmts = code }))) (alike_run ts (suc next) env)

  -- the block of a loop, in a turn
  alike_body : (ts : List StmtWith) (name : Name) (next : ℕ) (names : Names) (at : ℤ) (env : Env) → names_of env ≡ names →
      Alike (names_of env ++ (name ∷ [] ++ all_binds (bare ts))) (run (map (stmt_meaning around) (bare ts)) (bind env name at))
      (eval_block numbered (block_code (map (statement_resolved spaces) (bare ts)) (names ++ name ∷ []) next) (values_of env ++ at ∷ []))
  alike_body ts name next names at env e =
      let inner = bind env name at in
      let a = run (map (stmt_meaning around) (bare ts)) inner in
      let body : Names → CodeBlock = λ ns. block_code (map (statement_resolved spaces) (bare ts)) ns next in
      let n : names_of inner ≡ names_of env ++ name ∷ [] = bound_names env name at in
      subst (λ (ns : Names). Alike (names_of env ++ (name ∷ [] ++ all_binds (bare ts))) a
      (eval_block numbered (body (ns ++ name ∷ [])) (values_of env ++ at ∷ []))) e
      (subst (λ (vs : List ℤ). Alike (names_of env ++ (name ∷ [] ++ all_binds (bare ts))) a (eval_block numbered (body (names_of env ++ name ∷ [])) vs))
      (bound env name at)
      (subst (λ (ns : Names). Alike ns a (eval_block numbered (body (names_of env ++ name ∷ [])) (values_of inner)))
      (append_assoc (names_of env) (name ∷ []) (all_binds (bare ts)))
      (subst (λ (ns : Names). Alike (ns ++ all_binds (bare ts)) a (eval_block numbered (body ns) (values_of inner))) n (alike_block ts next inner))))

  alike_else : (ts : List StmtWith) (next : ℕ) (env : Env) →
      Alike (names_of env ++ all_binds (bare ts)) (run (map (stmt_meaning around) (bare ts)) env)
      (eval_block numbered (else_code (map (statement_resolved spaces) (bare ts)) (names_of env) next) (values_of env))
  alike_else [] next env =
      subst (λ (r : CodeRun). Alike (names_of env ++ []) (quiet (Fell env)) (r (values_of env)))
      (sym (rolled_block numbered (record { number = None; stmts = [] }))) (alike_run [] next env)
  alike_else (t ∷ ts) next env = alike_block (t ∷ ts) next env

  -- one of two blocks
  alike_chosen : (v : ℤ) (first second : List StmtWith) (one two : ℕ) (env : Env) →
      Alike (names_of env) (cut (length env) (run (chosen v (map (stmt_meaning around) (bare first)) (map (stmt_meaning around) (bare second))) env))
      (cut (length (values_of env)) (chosen v (eval_block numbered (block_code (map (statement_resolved spaces) (bare first)) (names_of env) one))
      (eval_block numbered (else_code (map (statement_resolved spaces) (bare second)) (names_of env) two)) (values_of env)))
  alike_chosen v first second one two env =
      let a = map (stmt_meaning around) (bare first) in
      let b = map (stmt_meaning around) (bare second) in
      let d = eval_block numbered (block_code (map (statement_resolved spaces) (bare first)) (names_of env) one) in
      let e = eval_block numbered (else_code (map (statement_resolved spaces) (bare second)) (names_of env) two) in
      elim (is_true v) as (λ t. Alike (names_of env) (cut (length env) (run (if t then a else b) env))
      (cut (length (values_of env)) ((if t then d else e) (values_of env)))) [
        | true ↦ alike_cut env (all_binds (bare first)) _ _ (alike_block first one env)
        | false ↦
            alike_cut env (all_binds (bare second)) _ _ (alike_else second two env)
      ]

  -- ---- statements

  -- the resolved layer of a statement
  abbrev layer : s.StmtKind-F StmtKind Stmt → s.StmtKind-F RK R
  layer z = K.map-StmtKind StmtKind Stmt RK R (kind_resolved spaces) (statement_resolved spaces) z

  rolled : (z : s.StmtKind-F StmtKind Stmt) → ((next line : ℕ) (env : Env) →
      Alike (names_of env ++ binds (layer z)) (deed_step around (K.map-StmtKind StmtKind Stmt Deed Run (kind_meaning around) (stmt_meaning around) z) line env)
      (code_deed_step numbered (evaluated numbered (kind_code spaces (layer z) (names_of env) next)) line (values_of env))) →
      KindHolds (K.roll-StmtKind z)
  rolled z q next line env =
      subst (λ (r : RK). Alike (names_of env ++ r.binds) (kind_meaning around (K.roll-StmtKind z) line env)
      (eval_kind numbered (r.code (names_of env) next) line (values_of env)))
      (sym (K.fold-roll-StmtKind RK R (resolve_kind spaces) (resolve_line spaces) z))
      (subst (λ (d : Deed). Alike (names_of env ++ binds (layer z)) (d line env)
      (eval_kind numbered (CK.roll-CodeStmtKind (kind_code spaces (layer z) (names_of env) next)) line (values_of env)))
      (sym (K.fold-roll-StmtKind Deed Run (deed_step around) (run_step around) z))
      (subst (λ (d : CodeDeed). Alike (names_of env ++ binds (layer z))
      (deed_step around (K.map-StmtKind StmtKind Stmt Deed Run (kind_meaning around) (stmt_meaning around) z) line env) (d line (values_of env)))
      (sym (rolled_kind numbered (kind_code spaces (layer z) (names_of env) next))) (q next line env)))

  -- nothing is bound
  none : (env : Env) (a : Eval Entry) (b : Eval ℤ) → Alike (names_of env) a b → Alike (names_of env ++ []) a b
  none env a b k = subst (λ (ns : Names). Alike ns a b) (sym (append-nil (names_of env))) k

  abbrev valued_by : Env → ℕ → Expr → ValueOrFault
  valued_by env line e = code_value numbered (expression_code spaces (names_of env) e) (values_of env) line

  at_layer : (y : s.StmtKind-F KindWith StmtWith) → KindHolds (K.roll-StmtKind (K.map-StmtKind KindWith StmtWith StmtKind Stmt (λ k. k.0) (λ t. t.0) y))
  at_layer (s.Let name e) = rolled (s.Let name e) (λ next line env. rw (same_value spaces around numbered h e env line)
      (alike_value (names_of env ++ name ∷ []) (value around e env line) _ _ (λ v. fell_as _ (bind env name v) (values_of env ++ v ∷ []) []
      (bound_names env name v) (bound env name v))))
  at_layer (s.Assign name e) = rolled (s.Assign name e) (λ next line env. rw (same_value spaces around numbered h e env line) (none env _ _
      (alike_value (names_of env) (value around e env line) _ _ (λ v. fell_as _ (assign env name v) (put_at (values_of env) (place_of (names_of env) name) v)
      [] (assigned_names env name v) (assigned env name v)))))
  at_layer (s.If e first second) =
      rolled (s.If e (bare first) (bare second)) (λ next line env. rw (same_value spaces around numbered h e env line) (none env _ _
      (alike_value (names_of env) (value around e env line) _ _ (λ v. alike_chosen v first second _ _ env))))
  at_layer (s.For name from to body) =
      rolled (s.For name from to (bare body))
      (λ next line env. rw (same_value spaces around numbered h from env line, same_value spaces around numbered h to env line) (none env _ _
      (alike_value (names_of env) (value around from env line) _ _ (λ a. alike_value (names_of env) (value around to env line) _ _
      (λ b. alike_turns (names_of env) (name ∷ [] ++ all_binds (bare body)) (turns_to (b -ℤ a)) a _ _
      (λ at inner e. alike_body body name next (names_of env) at inner e) env refl)))))
  at_layer (s.LetCall name callee args) = rolled (s.LetCall name callee args) (λ next line env. rw (same_values spaces around numbered h args env line)
      (alike_values (names_of env ++ name ∷ []) (all_values (map (λ e. value around e env line) args)) _ _ (λ vs. rw (h.function callee vs line)
      (alike_call (names_of env ++ name ∷ []) (bind env name) (bind_if true (values_of env)) (around.calls.function callee vs line)
      (λ v. bound_names env name v) (λ v. bound env name v)))))
  at_layer (s.Run callee args) = rolled (s.Run callee args) (λ next line env. rw (same_values spaces around numbered h args env line) (none env _ _
      (alike_values (names_of env) (all_values (map (λ e. value around e env line) args)) _ _ (λ vs. rw (h.task callee vs line)
      (alike_call (names_of env) (λ v. env) (bind_if false (values_of env)) (around.calls.task callee vs line) (λ v. refl) (λ v. refl))))))
  at_layer (s.Async body) =
      rolled (s.Async (bare body)) (λ next line env. none env _ _ (alike_async (names_of env ++ all_binds (bare body)) env _ _ (alike_block body next env)))
  at_layer (s.Finish body) =
      rolled (s.Finish (bare body)) (λ next line env. none env _ _ (alike_finish (names_of env) kind.Plain line (λ v. env) (bind_if false (values_of env)) _ _
      (λ v. refl) (λ v. refl) (alike_block body next env).same))
  at_layer (s.LetFinish name k body) = rolled (s.LetFinish name k (bare body)) (λ next line env.
      alike_finish (names_of env ++ name ∷ []) (collecting k) line (bind env name) (bind_if true (values_of env)) _ _ (λ v. bound_names env name v)
      (λ v. bound env name v) (alike_block body next env).same)
  at_layer (s.Offer e) = rolled (s.Offer e) (λ next line env. rw (same_value spaces around numbered h e env line) (none env _ _
      (alike_value (names_of env) (value around e env line) _ _ (λ v. fell_as _ env (values_of env) (Offer v ∷ []) refl refl))))
  at_layer (s.Return e) = rolled (s.Return e) (λ next line env. rw (same_value spaces around numbered h e env line) (none env _ _
      (alike_value (names_of env) (value around e env line) _ _ (λ v. record { same = refl; behind = tt }))))
  at_layer (s.Print ps) = rolled (s.Print ps) (λ next line env. rw (same_parts spaces around numbered h ps env line) (none env _ _
      (alike_text (names_of env) (all_texts (map (λ p. part_value around p env line) ps)) _ _
      (λ text. fell_as _ env (values_of env) (Line text ∷ []) refl refl))))

  at_kinds : (x : s.StmtKind-F StmtKind Stmt) (y : s.StmtKind-F KindWith StmtWith) → K.map-StmtKind KindWith StmtWith StmtKind Stmt (λ k. k.0) (λ t. t.0) y
      ≡ x → KindHolds (K.roll-StmtKind x)
  at_kinds x y e = subst (λ (z : s.StmtKind-F StmtKind Stmt). KindHolds (K.roll-StmtKind z)) e (at_layer y)

  at_line : (z : s.Stmt-F StmtKind Stmt) → KindHolds z.what → StmtHolds (S.roll-Stmt z)
  at_line z k next env =
      let r = kind_resolved spaces z.what in
      let code : CodeStmt = CS.roll-CodeStmt (record { line = z.line; next_block = next; what = r.code (names_of env) next }) in
      subst (λ (w : R). Alike (names_of env ++ w.binds) (stmt_meaning around (S.roll-Stmt z) env)
      (eval_stmt numbered (w.code (names_of env) next) (values_of env)))
      (sym (S.fold-roll-Stmt RK R (resolve_kind spaces) (resolve_line spaces) z))
      (subst (λ (d : Run). Alike (names_of env ++ r.binds) (d env) (eval_stmt numbered code (values_of env)))
      (sym (S.fold-roll-Stmt Deed Run (deed_step around) (run_step around) z))
      (subst (λ (d : CodeRun). Alike (names_of env ++ r.binds) (counted (kind_meaning around z.what z.line env)) (d (values_of env)))
      (sym (rolled_line numbered (record { line = z.line; next_block = next; what = r.code (names_of env) next })))
      (alike_before (names_of env ++ r.binds) (Tick ∷ []) _ _ (k next z.line env))))

  at_stmts : (x : s.Stmt-F StmtKind Stmt) (y : s.Stmt-F KindWith StmtWith) → S.map-Stmt KindWith StmtWith StmtKind Stmt (λ k. k.0) (λ t. t.0) y ≡ x →
      StmtHolds (S.roll-Stmt x)
  at_stmts x y e = subst (λ (z : s.Stmt-F StmtKind Stmt). StmtHolds (S.roll-Stmt z)) e (at_line (record { line = y.line; what = y.what.0 }) y.what.1)

  alike_stmt : (t : Stmt) → StmtHolds t
  alike_stmt = S.ind-Stmt KindHolds StmtHolds at_kinds at_stmts

  with_all : (ts : List Stmt) → bare (map (λ t. (t, alike_stmt t)) ts) ≡ ts
  with_all [] = refl
  with_all (t ∷ ts) = ap (λ (r : List Stmt). t ∷ r) (with_all ts)

  -- Statements mean what their code means, over the same values.
  pub alike_code : (ts : List Stmt) (next : ℕ) (env : Env) →
      Alike (names_of env ++ all_binds ts) (block_meaning around ts env) (eval_block numbered (code_of spaces (names_of env) next ts) (values_of env))
  alike_code ts next env =
      subst (λ (ss : List Stmt). Alike (names_of env ++ all_binds ss) (block_meaning around ss env)
      (eval_block numbered (code_of spaces (names_of env) next ss) (values_of env)))
      (with_all ts) (alike_block (map (λ t. (t, alike_stmt t)) ts) next env)
