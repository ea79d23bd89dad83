-- What expressions, statements and blocks mean, by names: the table of the language.
use Rattle.std.specs.Prelude.{Result, ℕ, ◌-ℤ◌, List, [], ◌∷◌, length, map, if◌then◌else◌, ℤ, Ok}
use Rattle.spd_words.specs.declared.finish_kind.FinishKind.{FinishKind}
use Rattle.spd_words.specs.declared.finish_kind.FinishKind.TheVariants as kind
use Rattle.spd_syntax.specs.declared.tree.Collect.{Collect}
use Rattle.spd_syntax.specs.declared.tree.Collect.TheVariants as collect
use Rattle.spd_syntax.specs.declared.tree.Expr.{Expr, fold-Expr}
use Rattle.spd_syntax.specs.declared.tree.Expr.TheOpen.{Expr-F}
use Rattle.spd_syntax.specs.declared.tree.PrintPart.{PrintPart}
use Rattle.spd_syntax.specs.declared.tree.PrintPart.TheVariants as part
use Rattle.spd_syntax.specs.declared.tree.StmtKind.{StmtKind, fold-StmtKind}
use Rattle.spd_syntax.specs.declared.tree.StmtKind.TheOpen as s
use Rattle.spd_syntax.specs.declared.tree.Stmt.{Stmt, fold-Stmt}
use Rattle.spd_meaning.specs.Acts.{Offer, Line}
use Rattle.spd_meaning.specs.Eval.{Fell, Back, Eval, quiet, before, then_do, counted, with_value, with_values, with_line, cut, turns, turns_to, async_of, finish_of, call_of}
use Rattle.spd_meaning.specs.Values.{ValueOrFault, Around, with_operand, apply_unary, operated, entry_number, entry_size, entry_byte, entry_same, entry_begins, is_true, all_values, decimal, all_texts}
use Rattle.spd_meaning.specs.Names.{Name, Entry, Env, bind, look_up, assign}

abbrev pub collecting : Collect → FinishKind
collecting collect.Sum = kind.Sum
collecting collect.Least = kind.Least
collecting collect.Greatest = kind.Greatest

abbrev pub chosen : {A : Type 0} → ℤ → A → A → A
chosen test first second = if is_true test then first else second

-- over what is visible, at the line of its statement
abbrev pub Value : Type 0
Value = Env → ℕ → ValueOrFault

-- a statement, over what is visible before it
abbrev pub Run : Type 0
Run = Env → Eval Entry

-- what a statement does, at its line
abbrev pub Deed : Type 0
Deed = ℕ → Env → Eval Entry

-- the statements of a block, up to the first that doesn't fall through
abbrev pub run : List Run → Run
run [] env = quiet (Fell env)
run (s ∷ ss) env = then_do (s env) (run ss)

module _ (around : Around Name) where
  abbrev pub value_step : Expr-F Value → Value
  value_step (Expr-F.Number n) env line = Ok n
  value_step (Expr-F.Var name) env line = Ok (look_up env name)
  value_step (Expr-F.Unary op inner) env line = with_operand (inner env line) (λ a. apply_unary op a line)
  value_step (Expr-F.Binary op left right) env line = operated op (left env line) (right env line) line
  value_step (Expr-F.Len column) env line = Ok (around.column column).length
  value_step (Expr-F.Index column at) env line = entry_number (around.column column) (at env line) line
  value_step (Expr-F.Size column at) env line = entry_size (around.column column) (at env line) line
  value_step (Expr-F.At column at byte) env line = entry_byte (around.column column) (at env line) (byte env line) line
  value_step (Expr-F.Same column at literal) env line = entry_same (around.column column) (at env line) literal line
  value_step (Expr-F.Begins column at literal) env line = entry_begins (around.column column) (at env line) literal line

  abbrev pub value : Expr → Value
  value e = fold-Expr Value value_step e

  abbrev pub part_value : PrintPart → Env → ℕ → Result (List ℕ) ℕ
  part_value (part.Lit text) env line = Ok text
  part_value (part.Value e) env line = decimal (value e env line)

  -- A row for each statement. A block's statements stand for it.
  abbrev pub deed_step : s.StmtKind-F Deed Run → Deed
  deed_step (s.Let name e) line env = with_value (value e env line) (λ v. quiet (Fell (bind env name v)))
  deed_step (s.Assign name e) line env = with_value (value e env line) (λ v. quiet (Fell (assign env name v)))
  deed_step (s.If test first second) line env =
      with_value (value test env line) (λ v. cut (length env) (run (chosen v first second) env))
  deed_step (s.For name from to body) line env =
      with_value (value from env line) (λ a. with_value (value to env line) (λ b.
      turns (turns_to (b -ℤ a)) a (λ at vars. run body (bind vars name at)) env))
  deed_step (s.LetCall name callee args) line env =
      with_values (all_values (map (λ e. value e env line) args)) (λ vs. call_of (bind env name) (around.calls.function callee vs line))
  deed_step (s.Run callee args) line env =
      with_values (all_values (map (λ e. value e env line) args)) (λ vs. call_of (λ v. env) (around.calls.task callee vs line))
  deed_step (s.Async body) line env = async_of env (run body env)
  deed_step (s.Finish body) line env = finish_of kind.Plain line (λ v. env) (run body env)
  deed_step (s.LetFinish name kind body) line env = finish_of (collecting kind) line (bind env name) (run body env)
  deed_step (s.Offer e) line env = with_value (value e env line) (λ v. before (Offer v ∷ []) (quiet (Fell env)))
  deed_step (s.Return e) line env = with_value (value e env line) (λ v. quiet (Back v))
  deed_step (s.Print parts) line env =
      with_line (all_texts (map (λ p. part_value p env line) parts)) (λ text. before (Line text ∷ []) (quiet (Fell env)))

  abbrev pub run_step : s.Stmt-F Deed Run → Run
  run_step s env = counted (s.what s.line env)

  abbrev pub stmt_meaning : Stmt → Run
  stmt_meaning = fold-Stmt Deed Run deed_step run_step

  abbrev pub kind_meaning : StmtKind → Deed
  kind_meaning = fold-StmtKind Deed Run deed_step run_step

  abbrev pub block_meaning : List Stmt → Run
  block_meaning stmts = run (map stmt_meaning stmts)
