-- The evaluation of a code, by places: what a machine that runs it is held to.
use Rattle.std.specs.Prelude.{Result, ℕ, zero, suc, ◌-ℤ◌, List, [], ◌∷◌, ◌++◌, length, map, slice_get, ℤ, Ok, true, false, Some, unwrap_or}
use Rattle.spd_words.specs.declared.finish_kind.FinishKind.TheVariants as kind
use Rattle.spd_code.specs.declared.expr.CodeExpr.{CodeExpr, fold-CodeExpr}
use Rattle.spd_code.specs.declared.expr.CodeExpr.TheOpen as expr
use Rattle.spd_code.specs.declared.expr.CodePrintPart.{CodePrintPart}
use Rattle.spd_code.specs.declared.expr.CodePrintPart.TheVariants as part
use Rattle.spd_code.specs.declared.stmt.CodeStmtKind.{CodeStmtKind, fold-CodeStmtKind}
use Rattle.spd_code.specs.declared.stmt.CodeStmtKind.TheOpen as code
use Rattle.spd_code.specs.declared.stmt.CodeStmt.{CodeStmt, fold-CodeStmt}
use Rattle.spd_code.specs.declared.stmt.CodeBlock.{CodeBlock, fold-CodeBlock, roll-CodeBlock}
use Rattle.spd_code.specs.declared.tree.CodeItem.{CodeItem}
use Rattle.spd_code.specs.declared.tree.CodeTree.{CodeTree}
use Rattle.spd_meaning.specs.Acts.{Offer, Line}
use Rattle.spd_meaning.specs.Eval.{Fell, Back, Eval, Returned, quiet, before, then_do, counted, with_value, with_values, with_line, cut, turns, turns_to, async_of, finish_of, returned, call_of}
use Rattle.spd_meaning.specs.Values.{ValueOrFault, ColumnView, Callees, Around, no_more, with_operand, apply_unary, operated, entry_number, entry_size, entry_byte, entry_same, entry_begins, all_values, decimal, all_texts}
use Rattle.spd_meaning.specs.Meaning.{collecting, chosen}
use Rattle.spd_code.specs.Places.{value_at, put_at, fitted, bind_if}

-- over the values of the names that are visible, at the line of its statement
abbrev pub CodeValue : Type 0
CodeValue = List ℤ → ℕ → ValueOrFault

-- a statement or a block, over the values before it
abbrev pub CodeRun : Type 0
CodeRun = List ℤ → Eval ℤ

-- what a statement does, at its line
abbrev pub CodeDeed : Type 0
CodeDeed = ℕ → List ℤ → Eval ℤ

-- the statements of a block, up to the first that doesn't fall through
abbrev pub run_code : List CodeRun → CodeRun
run_code [] vars = quiet (Fell vars)
run_code (s ∷ ss) vars = then_do (s vars) (run_code ss)

module _ (around : Around ℕ) where
  abbrev pub code_value_step : expr.CodeExpr-F CodeValue → CodeValue
  code_value_step (expr.Number n) vars line = Ok n
  code_value_step (expr.Var place) vars line = Ok (value_at vars place)
  code_value_step (expr.Unary op inner) vars line = with_operand (inner vars line) (λ a. apply_unary op a line)
  code_value_step (expr.Binary op left right) vars line = operated op (left vars line) (right vars line) line
  code_value_step (expr.Len column) vars line = Ok (around.column column).length
  code_value_step (expr.Index column at) vars line = entry_number (around.column column) (at vars line) line
  code_value_step (expr.Size column at) vars line = entry_size (around.column column) (at vars line) line
  code_value_step (expr.At column at byte) vars line = entry_byte (around.column column) (at vars line) (byte vars line) line
  code_value_step (expr.Same column at literal) vars line = entry_same (around.column column) (at vars line) literal line
  code_value_step (expr.Begins column at literal) vars line = entry_begins (around.column column) (at vars line) literal line

  abbrev pub code_value : CodeExpr → CodeValue
  code_value e = fold-CodeExpr CodeValue code_value_step e

  abbrev pub code_part_value : CodePrintPart → List ℤ → ℕ → Result (List ℕ) ℕ
  code_part_value (part.Lit text) vars line = Ok text
  code_part_value (part.Value e) vars line = decimal (code_value e vars line)

  -- a row for each statement, those of the table of the language
  abbrev pub code_deed_step : code.CodeStmtKind-F CodeDeed CodeRun CodeRun → CodeDeed
  code_deed_step (code.Let e) line vars = with_value (code_value e vars line) (λ v. quiet (Fell (bind_if true vars v)))
  code_deed_step (code.Assign place e) line vars = with_value (code_value e vars line) (λ v. quiet (Fell (put_at vars place v)))
  code_deed_step (code.If test first second) line vars =
      with_value (code_value test vars line) (λ v. cut (length vars) (chosen v first second vars))
  code_deed_step (code.For from to body) line vars =
      with_value (code_value from vars line) (λ a. with_value (code_value to vars line) (λ b.
      turns (turns_to (b -ℤ a)) a (λ at vs. body (vs ++ at ∷ [])) vars))
  code_deed_step (code.LetCall callee args) line vars =
      with_values (all_values (map (λ e. code_value e vars line) args)) (λ vs. call_of (bind_if true vars) (around.calls.function callee vs line))
  code_deed_step (code.Run callee args) line vars =
      with_values (all_values (map (λ e. code_value e vars line) args)) (λ vs. call_of (bind_if false vars) (around.calls.task callee vs line))
  code_deed_step (code.Async body) line vars = async_of vars (body vars)
  code_deed_step (code.Finish body) line vars = finish_of kind.Plain line (bind_if false vars) (body vars)
  code_deed_step (code.LetFinish kind body) line vars = finish_of (collecting kind) line (bind_if true vars) (body vars)
  code_deed_step (code.Offer e) line vars = with_value (code_value e vars line) (λ v. before (Offer v ∷ []) (quiet (Fell vars)))
  code_deed_step (code.Return e) line vars = with_value (code_value e vars line) (λ v. quiet (Back v))
  code_deed_step (code.Print parts) line vars =
      with_line (all_texts (map (λ p. code_part_value p vars line) parts)) (λ text. before (Line text ∷ []) (quiet (Fell vars)))

  abbrev pub code_run_step : code.CodeStmt-F CodeDeed CodeRun CodeRun → CodeRun
  code_run_step s vars = counted (s.what s.line vars)

  abbrev pub code_block_step : code.CodeBlock-F CodeDeed CodeRun CodeRun → CodeRun
  code_block_step b = run_code b.stmts

  unfoldable pub eval_block : CodeBlock → CodeRun
  eval_block b = fold-CodeBlock CodeDeed CodeRun CodeRun code_deed_step code_block_step code_run_step b

  unfoldable pub eval_stmt : CodeStmt → CodeRun
  eval_stmt s = fold-CodeStmt CodeDeed CodeRun CodeRun code_deed_step code_block_step code_run_step s

  unfoldable pub eval_kind : CodeStmtKind → CodeDeed
  eval_kind k = fold-CodeStmtKind CodeDeed CodeRun CodeRun code_deed_step code_block_step code_run_step k

-- ---- calls

abbrev pub no_item : CodeItem
no_item = record { params = 0; body = roll-CodeBlock (record { number = Some 0; stmts = [] }) }

-- the one of a number, or one that does nothing
abbrev pub item_at : List CodeItem → ℕ → CodeItem
item_at items number = unwrap_or (slice_get items number) no_item

abbrev pub item_returned : Around ℕ → CodeItem → List ℤ → Returned
item_returned inner item args = returned (eval_block inner item.body (fitted item.params args))

-- a code, and the columns by their numbers
pub record Context : Type 0 where
  pub code : CodeTree
  pub column : ℕ → ColumnView

-- what calls give where so many more may be opened
unfoldable pub calls_of : Context → ℕ → Callees ℕ
calls_of context zero = no_more
calls_of context (suc left) =
    let inner : Around ℕ = record { column = context.column; calls = calls_of context left } in
    record {
      function = λ number args line. item_returned inner (item_at context.code.functions number) args;
      task = λ number args line. item_returned inner (item_at context.code.tasks number) args;
    }

-- what stands around statements where so many more calls may be opened
abbrev pub around_of : Context → ℕ → Around ℕ
around_of context left = record { column = context.column; calls = calls_of context left }
