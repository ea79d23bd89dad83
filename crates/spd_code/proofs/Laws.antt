-- A law of what code gives: what each row of the table keeps holds of every block, at every depth.
use Rattle.std.proofs.Common.{◌≡◌, ℕ, zero, suc, List, [], ◌∷◌, ◌++◌, length, refl, sym, ◌∙◌, ap, subst, ℤ, ◌-ℤ◌, Result, Ok, Err, true, false, if◌then◌else◌}
use Rattle.std.specs.Prelude.{map, Bool, ◌&&◌}
use Rattle.spd_syntax.specs.declared.tree.Collect.{Collect}
use Rattle.spd_words.specs.declared.finish_kind.FinishKind.TheVariants as kind
use Rattle.spd_code.specs.declared.expr.CodeExpr.{CodeExpr}
use Rattle.spd_code.specs.declared.expr.CodePrintPart.{CodePrintPart}
use Rattle.spd_code.specs.declared.stmt.CodeStmtKind.{CodeStmtKind}
use Rattle.spd_code.specs.declared.stmt.CodeStmtKind as K
use Rattle.spd_code.specs.declared.stmt.CodeStmtKind.TheOpen as c
use Rattle.spd_code.specs.declared.stmt.CodeStmt.{CodeStmt}
use Rattle.spd_code.specs.declared.stmt.CodeStmt as S
use Rattle.spd_code.specs.declared.stmt.CodeBlock.{CodeBlock}
use Rattle.spd_code.specs.declared.stmt.CodeBlock as B
use Rattle.spd_meaning.specs.Acts.{Offer, Line}
use Rattle.spd_meaning.specs.Eval.{Fell, Back, Fault, Eval, Returned, quiet, before, then_do, counted, with_value, with_values, with_line, cut, turns, turns_to, async_of, finish_of, returned, call_of}
use Rattle.spd_meaning.specs.Values.{Around, Callees, division_by_zero, out_of_range, too_deep, all_values, all_texts, is_true}
use Rattle.spd_meaning.specs.Meaning.{collecting}
use Rattle.spd_code.specs.Places.{fitted, bind_if}
use Rattle.spd_code.specs.Coded.{Context, CodeRun, CodeDeed, run_code, code_value, code_part_value, code_deed_step, eval_block, eval_stmt, eval_kind, around_of, calls_of, item_at}
use Rattle.spd_code.specs.Silent.{all_true}
use Rattle.spd_code.proofs.Lists.{map_map, true_both, both_true}
use Rattle.spd_code.proofs.Layers.{evaluated, rolled_kind, rolled_line, rolled_block}
use Rattle.spd_code.proofs.Faulting.{OnFault, value_faults, values_faults, parts_faults}

-- which statements a code may have, where its blocks may stand for true
abbrev pub Guard : Type 0
Guard = c.CodeStmtKind-F Bool Bool Bool → Bool

module _ (guard : Guard) (lines : ℕ → Bool) where
  abbrev guard_line : c.CodeStmt-F Bool Bool Bool → Bool
  guard_line s = lines s.line && s.what

  abbrev guard_stmts : c.CodeBlock-F Bool Bool Bool → Bool
  guard_stmts b = all_true b.stmts

  -- all statements of a block, and those in it, are let through
  unfoldable pub guarded_block : CodeBlock → Bool
  guarded_block b = B.fold-CodeBlock Bool Bool Bool guard guard_stmts guard_line b

  unfoldable pub guarded_stmt : CodeStmt → Bool
  guarded_stmt s = S.fold-CodeStmt Bool Bool Bool guard guard_stmts guard_line s

  unfoldable pub guarded_kind : CodeStmtKind → Bool
  guarded_kind k = K.fold-CodeStmtKind Bool Bool Bool guard guard_stmts guard_line k

  guarded_rolled_kind : (z : c.CodeStmtKind-F CodeStmtKind CodeBlock CodeStmt) →
      guarded_kind (K.roll-CodeStmtKind z) ≡ guard (K.map-CodeStmtKind CodeStmtKind CodeBlock CodeStmt Bool Bool Bool guarded_kind guarded_block guarded_stmt z)
  unfolding guarded_kind guarded_block guarded_stmt
  guarded_rolled_kind z = K.fold-roll-CodeStmtKind Bool Bool Bool guard guard_stmts guard_line z

  guarded_rolled_line : (z : c.CodeStmt-F CodeStmtKind CodeBlock CodeStmt) → guarded_stmt (S.roll-CodeStmt z) ≡ (lines z.line && guarded_kind z.what)
  unfolding guarded_kind guarded_block guarded_stmt
  guarded_rolled_line z = S.fold-roll-CodeStmt Bool Bool Bool guard guard_stmts guard_line z

  guarded_rolled_block : (z : c.CodeBlock-F CodeStmtKind CodeBlock CodeStmt) → guarded_block (B.roll-CodeBlock z) ≡ all_true (map guarded_stmt z.stmts)
  unfolding guarded_kind guarded_block guarded_stmt
  guarded_rolled_block z = B.fold-roll-CodeBlock Bool Bool Bool guard guard_stmts guard_line z

-- Each row keeps P, where its fault is an F and its statement is one that the guard lets through. Q is what calls give.
pub record Law (guard : Guard) (lines : ℕ → Bool) (F : ℕ → Type 0) (P : Eval ℤ → Type 0) (Q : Returned → Type 0) : Type 0 where
  pub fell : (vars : List ℤ) → P (quiet (Fell vars))
  pub back : (value : ℤ) → P (quiet (Back value))
  pub fault : (code : ℕ) → F code → P (quiet (Fault code))
  pub counts : (a : Eval ℤ) → P a → P (counted a)
  pub goes_on : (a : Eval ℤ) (next : CodeRun) → P a → ((vars : List ℤ) → P (next vars)) → P (then_do a next)
  pub cuts : (n : ℕ) (a : Eval ℤ) → P a → P (cut n a)
  pub branches : (test : CodeExpr) (x y : CodeBlock) → guard (c.If test (guarded_block guard lines x) (guarded_block guard lines y)) ≡ true
      → (guarded_block guard lines x ≡ true) × (guarded_block guard lines y ≡ true)
  pub loops : (from to : CodeExpr) (b : CodeBlock) → guard (c.For from to (guarded_block guard lines b)) ≡ true → guarded_block guard lines b ≡ true
  pub async : (b : CodeBlock) (vars : List ℤ) (a : Eval ℤ) → guard (c.Async (guarded_block guard lines b)) ≡ true → (guarded_block guard lines b ≡ true → P a)
      → P (async_of vars a)
  pub finish : (b : CodeBlock) (line : ℕ) (h : ℤ → List ℤ) (a : Eval ℤ) → guard (c.Finish (guarded_block guard lines b)) ≡ true
      → (guarded_block guard lines b ≡ true → P a) → P (finish_of kind.Plain line h a)
  pub let_finish : (of : Collect) (b : CodeBlock) (line : ℕ) (h : ℤ → List ℤ) (a : Eval ℤ) → guard (c.LetFinish of (guarded_block guard lines b)) ≡ true
      → (guarded_block guard lines b ≡ true → P a) → P (finish_of (collecting of) line h a)
  pub call : (h : ℤ → List ℤ) (r : Returned) → Q r → P (call_of h r)
  pub returns : (a : Eval ℤ) → P a → Q (returned a)
  pub offer : (e : CodeExpr) (value : ℤ) (vars : List ℤ) → guard (c.Offer e) ≡ true → P (before (Offer value ∷ []) (quiet (Fell vars)))
  pub print : (parts : List CodePrintPart) (text : List ℕ) (vars : List ℤ) → guard (c.Print parts) ≡ true → P (before (Line text ∷ []) (quiet (Fell vars)))

-- Faults at such lines are an F.
pub record FaultsLaw (lines : ℕ → Bool) (F : ℕ → Type 0) : Type 0 where
  pub by_zero : (line : ℕ) → lines line ≡ true → F (division_by_zero line)
  pub beyond : (line : ℕ) → lines line ≡ true → F (out_of_range line)
  pub deep : (line : ℕ) → lines line ≡ true → F (too_deep line)

-- What calls give is a Q.
pub record CallsLaw (guard : Guard) (lines : ℕ → Bool) (Q : Returned → Type 0) (calls : Callees ℕ) : Type 0 where
  pub function : (f : ℕ) (args : List ℤ) (line : ℕ) → lines line ≡ true → Q (calls.function f args line)
  pub task : (t : ℕ) (es : List CodeExpr) (args : List ℤ) (line : ℕ) → guard (c.Run t es) ≡ true → lines line ≡ true → Q (calls.task t args line)

module _ (guard : Guard) (lines : ℕ → Bool) (F : ℕ → Type 0) (P : Eval ℤ → Type 0) (Q : Returned → Type 0) (law : Law guard lines F P Q) where
  value_law : (r : Result ℤ ℕ) (f : ℤ → Eval ℤ) → OnFault F r → ((v : ℤ) → P (f v)) → P (with_value r f)
  value_law (Ok v) f h k = k v
  value_law (Err c) f h k = law.fault c h

  values_law : (r : Result (List ℤ) ℕ) (f : List ℤ → Eval ℤ) → OnFault F r → ((vs : List ℤ) → P (f vs)) → P (with_values r f)
  values_law (Ok vs) f h k = k vs
  values_law (Err c) f h k = law.fault c h

  line_law : (r : Result (List ℕ) ℕ) (f : List ℕ → Eval ℤ) → OnFault F r → ((t : List ℕ) → P (f t)) → P (with_line r f)
  line_law (Ok t) f h k = k t
  line_law (Err c) f h k = law.fault c h

  turns_law : (n : ℕ) (at : ℤ) (body : ℤ → CodeRun) → ((at : ℤ) (vars : List ℤ) → P (body at vars)) → (vars : List ℤ) → P (turns n at body vars)
  turns_law zero at body h vars = law.fell vars
  turns_law (suc n) at body h vars =
      law.goes_on (counted (cut (length vars) (body at vars))) (turns n _ body) (law.counts _ (law.cuts (length vars) (body at vars) (h at vars)))
      (turns_law n _ body h)

  run_law : {A : Type 0} (q : A → Bool) (f : A → CodeRun) → ((a : A) → q a ≡ true → (vars : List ℤ) → P (f a vars)) → (xs : List A) →
      all_true (map q xs) ≡ true →
      (vars : List ℤ) → P (run_code (map f xs) vars)
  run_law q f h [] e vars = law.fell vars
  run_law q f h (x ∷ xs) e vars =
      let t = true_both (q x) (all_true (map q xs)) e in
      law.goes_on (f x vars) (run_code (map f xs)) (h x t.0 vars) (run_law q f h xs t.1)

module _ (guard : Guard) (lines : ℕ → Bool) (F : ℕ → Type 0) (P : Eval ℤ → Type 0) (Q : Returned → Type 0) (law : Law guard lines F P Q)
    (faults : FaultsLaw lines F)
    (around : Around ℕ) (calls : CallsLaw guard lines Q around.calls) where
  abbrev KindHolds : CodeStmtKind → Type 0
  KindHolds k = guarded_kind guard lines k ≡ true → (line : ℕ) → lines line ≡ true → (vars : List ℤ) → P (eval_kind around k line vars)

  abbrev BlockHolds : CodeBlock → Type 0
  BlockHolds b = guarded_block guard lines b ≡ true → (vars : List ℤ) → P (eval_block around b vars)

  abbrev StmtHolds : CodeStmt → Type 0
  StmtHolds s = guarded_stmt guard lines s ≡ true → (vars : List ℤ) → P (eval_stmt around s vars)

  abbrev KindWith : Type 0
  KindWith = (k : CodeStmtKind) × KindHolds k

  abbrev BlockWith : Type 0
  BlockWith = (b : CodeBlock) × BlockHolds b

  abbrev StmtWith : Type 0
  StmtWith = (s : CodeStmt) × StmtHolds s

  rolled : (z : c.CodeStmtKind-F CodeStmtKind CodeBlock CodeStmt) →
      (guard (K.map-CodeStmtKind CodeStmtKind CodeBlock CodeStmt Bool Bool Bool (guarded_kind guard lines) (guarded_block guard lines)
      (guarded_stmt guard lines) z) ≡ true → (line : ℕ) → lines line ≡ true →
      (vars : List ℤ) → P (code_deed_step around (evaluated around z) line vars)) → KindHolds (K.roll-CodeStmtKind z)
  rolled z n e line l vars =
      subst (λ (d : CodeDeed). P (d line vars)) (sym (rolled_kind around z)) (n (sym (guarded_rolled_kind guard lines z) ∙ e) line l vars)

  -- a statement that begins with a value
  with_expr : (e : CodeExpr) (line : ℕ) → lines line ≡ true → (vars : List ℤ) (f : ℤ → Eval ℤ) → ((v : ℤ) → P (f v)) →
      P (with_value (code_value around e vars line) f)
  with_expr e line l vars f h = value_law guard lines F P Q law (code_value around e vars line) f
      (value_faults F line (faults.by_zero line l) (faults.beyond line l) around e vars) h

  with_args : (es : List CodeExpr) (line : ℕ) → lines line ≡ true → (vars : List ℤ) (f : List ℤ → Eval ℤ) → ((vs : List ℤ) → P (f vs)) →
      P (with_values (all_values (map (λ e. code_value around e vars line) es)) f)
  with_args es line l vars f h = values_law guard lines F P Q law _ f (values_faults F line (faults.by_zero line l) (faults.beyond line l) around es vars) h

  at_layer : (y : c.CodeStmtKind-F KindWith BlockWith StmtWith) →
      KindHolds (K.roll-CodeStmtKind (K.map-CodeStmtKind KindWith BlockWith StmtWith CodeStmtKind CodeBlock CodeStmt (λ k. k.0) (λ b. b.0) (λ s. s.0) y))
  at_layer (c.Let e) = rolled (c.Let e) (λ q line l vars. with_expr e line l vars _ (λ v. law.fell _))
  at_layer (c.Assign p e) = rolled (c.Assign p e) (λ q line l vars. with_expr e line l vars _ (λ v. law.fell _))
  at_layer (c.If e x y) = rolled (c.If e x.0 y.0) (λ q line l vars.
      let t = law.branches e x.0 y.0 q in
      with_expr e line l vars _ (λ v. elim (is_true v) as (λ z. P (cut (length vars) ((if z then eval_block around x.0 else eval_block around y.0) vars))) [
        | true ↦ law.cuts (length vars) (eval_block around x.0 vars) (x.1 t.0 vars)
        | false ↦
            law.cuts (length vars) (eval_block around y.0 vars) (y.1 t.1 vars)
      ]))
  at_layer (c.For e g b) = rolled (c.For e g b.0) (λ q line l vars. with_expr e line l vars _ (λ x. with_expr g line l vars _ (λ y.
      turns_law guard lines F P Q law (turns_to (y -ℤ x)) x _ (λ at vs. b.1 (law.loops e g b.0 q) (vs ++ at ∷ [])) vars)))
  at_layer (c.LetCall f es) = rolled (c.LetCall f es) (λ q line l vars. with_args es line l vars _ (λ vs.
      law.call (bind_if true vars) (around.calls.function f vs line) (calls.function f vs line l)))
  at_layer (c.Run t es) = rolled (c.Run t es) (λ q line l vars. with_args es line l vars _ (λ vs.
      law.call (bind_if false vars) (around.calls.task t vs line) (calls.task t es vs line q l)))
  at_layer (c.Async b) = rolled (c.Async b.0) (λ q line l vars. law.async b.0 vars (eval_block around b.0 vars) q (λ z. b.1 z vars))
  at_layer (c.Finish b) = rolled (c.Finish b.0) (λ q line l vars.
      law.finish b.0 line (bind_if false vars) (eval_block around b.0 vars) q (λ z. b.1 z vars))
  at_layer (c.LetFinish k b) = rolled (c.LetFinish k b.0) (λ q line l vars.
      law.let_finish k b.0 line (bind_if true vars) (eval_block around b.0 vars) q (λ z. b.1 z vars))
  at_layer (c.Offer e) = rolled (c.Offer e) (λ q line l vars. with_expr e line l vars _ (λ v. law.offer e v vars q))
  at_layer (c.Return e) = rolled (c.Return e) (λ q line l vars. with_expr e line l vars _ (λ v. law.back v))
  at_layer (c.Print ps) = rolled (c.Print ps) (λ q line l vars.
      line_law guard lines F P Q law (all_texts (map (λ p. code_part_value around p vars line) ps)) _
      (parts_faults F line (faults.by_zero line l) (faults.beyond line l) around ps vars)
      (λ t. law.print ps t vars q))

  at_kinds : (x : c.CodeStmtKind-F CodeStmtKind CodeBlock CodeStmt) (y : c.CodeStmtKind-F KindWith BlockWith StmtWith) →
      K.map-CodeStmtKind KindWith BlockWith StmtWith CodeStmtKind CodeBlock CodeStmt (λ k. k.0) (λ b. b.0) (λ s. s.0) y ≡ x → KindHolds (K.roll-CodeStmtKind x)
  at_kinds x y e = subst (λ (z : c.CodeStmtKind-F CodeStmtKind CodeBlock CodeStmt). KindHolds (K.roll-CodeStmtKind z)) e (at_layer y)

  of_block : (ss : List StmtWith) (x : c.CodeBlock-F CodeStmtKind CodeBlock CodeStmt) → map (λ (s : StmtWith). s.0) ss ≡ x.stmts →
      BlockHolds (B.roll-CodeBlock x)
  of_block ss x e q vars =
      let t : all_true (map (λ (s : StmtWith). guarded_stmt guard lines s.0) ss) ≡ true =
      ap all_true (sym (map_map {A = StmtWith} (λ s. s.0) (guarded_stmt guard lines) ss))
      ∙ ap (λ (zs : List CodeStmt). all_true (map (guarded_stmt guard lines) zs)) e ∙ sym (guarded_rolled_block guard lines x) ∙ q in
      let n = run_law guard lines F P Q law {A = StmtWith} (λ s. guarded_stmt guard lines s.0) (λ s. eval_stmt around s.0) (λ s z vs. s.1 z vs) ss t vars in
      subst (λ (a : CodeRun). P (a vars))
      (ap run_code (sym (map_map {A = StmtWith} (λ s. s.0) (eval_stmt around) ss)) ∙ ap (λ (zs : List CodeStmt). run_code (map (eval_stmt around) zs)) e
      ∙ sym (rolled_block around x)) n

  at_blocks : (x : c.CodeBlock-F CodeStmtKind CodeBlock CodeStmt) (y : c.CodeBlock-F KindWith BlockWith StmtWith) →
      B.map-CodeBlock KindWith BlockWith StmtWith CodeStmtKind CodeBlock CodeStmt (λ k. k.0) (λ b. b.0) (λ s. s.0) y ≡ x → BlockHolds (B.roll-CodeBlock x)
  at_blocks x y e = of_block y.stmts x (ap (λ z. z.stmts) e)

  of_line : (z : c.CodeStmt-F CodeStmtKind CodeBlock CodeStmt) → KindHolds z.what → StmtHolds (S.roll-CodeStmt z)
  of_line z k q vars =
      let t = true_both (lines z.line) (guarded_kind guard lines z.what) (sym (guarded_rolled_line guard lines z) ∙ q) in
      subst (λ (a : CodeRun). P (a vars)) (sym (rolled_line around z)) (law.counts (eval_kind around z.what z.line vars) (k t.1 z.line t.0 vars))

  at_stmts : (x : c.CodeStmt-F CodeStmtKind CodeBlock CodeStmt) (y : c.CodeStmt-F KindWith BlockWith StmtWith) →
      S.map-CodeStmt KindWith BlockWith StmtWith CodeStmtKind CodeBlock CodeStmt (λ k. k.0) (λ b. b.0) (λ s. s.0) y ≡ x → StmtHolds (S.roll-CodeStmt x)
  at_stmts x y e = subst (λ (z : c.CodeStmt-F CodeStmtKind CodeBlock CodeStmt). StmtHolds (S.roll-CodeStmt z)) e
      (of_line (record { line = y.line; next_block = y.next_block; what = y.what.0 }) y.what.1)

  pub block_law : (b : CodeBlock) → BlockHolds b
  block_law = B.ind-CodeBlock KindHolds BlockHolds StmtHolds at_kinds at_blocks at_stmts

-- at every depth, where the items are let through
pub calls_law : (guard : Guard) (lines : ℕ → Bool) (F : ℕ → Type 0) (P : Eval ℤ → Type 0) (Q : Returned → Type 0) (law : Law guard lines F P Q)
    (faults : FaultsLaw lines F)
    (context : Context) → ((f : ℕ) → guarded_block guard lines (item_at context.code.functions f).body ≡ true) →
    ((t : ℕ) (es : List CodeExpr) → guard (c.Run t es) ≡ true → guarded_block guard lines (item_at context.code.tasks t).body ≡ true) → (left : ℕ) →
    CallsLaw guard lines Q (calls_of context left)
unfolding calls_of
calls_law guard lines F P Q law faults context fs ts zero = record {
  function = λ f args line l. law.returns (quiet (Fault (too_deep line))) (law.fault (too_deep line) (faults.deep line l));
  task = λ t es args line q l. law.returns (quiet (Fault (too_deep line))) (law.fault (too_deep line) (faults.deep line l));
}
calls_law guard lines F P Q law faults context fs ts (suc left) =
    let h = calls_law guard lines F P Q law faults context fs ts left in
    record {
      function = λ f args line l. law.returns _ (block_law guard lines F P Q law faults (around_of context left) h (item_at context.code.functions f).body
          (fs f) (fitted (item_at context.code.functions f).params args));
      task = λ t es args line q l. law.returns _ (block_law guard lines F P Q law faults (around_of context left) h (item_at context.code.tasks t).body
          (ts t es q) (fitted (item_at context.code.tasks t).params args));
    }

-- ---- laws that hold of all code

abbrev pub anything : Guard
anything z = true

abbrev pub any_line : ℕ → Bool
any_line line = true

-- any code of a fault
abbrev pub AnyCode : ℕ → Type 0
AnyCode code = Unit {0}

pub any_faults : FaultsLaw any_line AnyCode
any_faults = record { by_zero = λ line l. tt; beyond = λ line l. tt; deep = λ line l. tt }

kind_any : (k : CodeStmtKind) → guarded_kind anything any_line k ≡ true
unfolding guarded_block guarded_stmt guarded_kind
kind_any k = K.fold_out-CodeStmtKind Bool Bool Bool anything (guard_stmts anything any_line) (guard_line anything any_line) k

stmt_any : (s : CodeStmt) → guarded_stmt anything any_line s ≡ true
unfolding guarded_block guarded_stmt guarded_kind
stmt_any s = S.fold_out-CodeStmt Bool Bool Bool anything (guard_stmts anything any_line) (guard_line anything any_line) s ∙ kind_any s.what

all_any : (ss : List CodeStmt) → all_true (map (guarded_stmt anything any_line) ss) ≡ true
all_any [] = refl
all_any (s ∷ ss) = both_true _ _ (stmt_any s) (all_any ss)

pub any_block : (b : CodeBlock) → guarded_block anything any_line b ≡ true
unfolding guarded_block guarded_stmt guarded_kind
any_block b = B.fold_out-CodeBlock Bool Bool Bool anything (guard_stmts anything any_line) (guard_line anything any_line) b ∙ all_any (B.out-CodeBlock b).stmts
