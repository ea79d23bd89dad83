-- The code of a program: its tree with each name as a number.
use Rattle.std.specs.Prelude.{ℕ, suc, ◌+◌, if◌then◌else◌, List, [], ◌∷◌, ◌++◌, length, map, Some, None}
use Rattle.spd_syntax.specs.declared.tree.Expr.{Expr, fold-Expr}
use Rattle.spd_syntax.specs.declared.tree.Expr.TheOpen.{Expr-F}
use Rattle.spd_syntax.specs.declared.tree.PrintPart.{PrintPart}
use Rattle.spd_syntax.specs.declared.tree.PrintPart.TheVariants as p
use Rattle.spd_syntax.specs.declared.tree.StmtKind.{StmtKind, fold-StmtKind}
use Rattle.spd_syntax.specs.declared.tree.StmtKind.TheOpen as s
use Rattle.spd_syntax.specs.declared.tree.Stmt.{Stmt, fold-Stmt}
use Rattle.spd_syntax.specs.declared.tree.ItemKind.TheVariants as i
use Rattle.spd_syntax.specs.declared.tree.Item.{Item}
use Rattle.spd_code.specs.declared.expr.CodeExpr.{CodeExpr, roll-CodeExpr}
use Rattle.spd_code.specs.declared.expr.CodeExpr.TheOpen as e
use Rattle.spd_code.specs.declared.expr.CodePrintPart.{CodePrintPart}
use Rattle.spd_code.specs.declared.expr.CodePrintPart.TheVariants as q
use Rattle.spd_code.specs.declared.stmt.CodeStmtKind.{CodeStmtKind, roll-CodeStmtKind}
use Rattle.spd_code.specs.declared.stmt.CodeStmtKind.TheOpen as c
use Rattle.spd_code.specs.declared.stmt.CodeStmt.{CodeStmt, roll-CodeStmt}
use Rattle.spd_code.specs.declared.stmt.CodeBlock.{CodeBlock, roll-CodeBlock}
use Rattle.spd_code.specs.declared.tree.CodeItem.{CodeItem}
use Rattle.spd_code.specs.declared.tree.CodeTree.{CodeTree}
use Rattle.spd_meaning.specs.Names.{Names, binds}
use Rattle.spd_meaning.specs.Programs.{Callable, callables_of, columns_of, main_of, is_main}
use Rattle.spd_code.specs.Places.{place_of}

-- ---- statements

-- the names that a statement binds, how many blocks it has, and its code where these names are visible and the next block has this number
pub record Resolved (Code : Type 0) : Type 0 where
  pub binds : Names
  pub blocks : ℕ
  pub code : Names → ℕ → Code

abbrev pub blocks_within : List (Resolved CodeStmt) → ℕ
blocks_within [] = 0
blocks_within (s ∷ ss) = s.blocks + blocks_within ss

abbrev pub statements_code : List (Resolved CodeStmt) → Names → ℕ → List CodeStmt
statements_code [] names next = []
statements_code (s ∷ ss) names next = s.code names next ∷ statements_code ss (names ++ s.binds) (next + s.blocks)

-- A block takes a number before the blocks in it.
abbrev pub block_code : List (Resolved CodeStmt) → Names → ℕ → CodeBlock
block_code body names next = roll-CodeBlock (record { number = Some next; stmts = statements_code body names (suc next) })

-- An `else` without statements takes none.
abbrev pub else_code : List (Resolved CodeStmt) → Names → ℕ → CodeBlock
else_code [] names next = roll-CodeBlock (record { number = None; stmts = [] })
else_code (s ∷ ss) names next = block_code (s ∷ ss) names next

abbrev pub else_blocks : List (Resolved CodeStmt) → ℕ
else_blocks [] = 0
else_blocks (s ∷ ss) = suc (blocks_within (s ∷ ss))

abbrev pub kind_blocks : {A : Type 0} → s.StmtKind-F A (Resolved CodeStmt) → ℕ
kind_blocks (s.LetFinish name kind body) = suc (blocks_within body)
kind_blocks (s.If cond first second) = suc (blocks_within first) + else_blocks second
kind_blocks (s.For name from to body) = suc (blocks_within body)
kind_blocks (s.Async body) = suc (blocks_within body)
kind_blocks (s.Finish body) = suc (blocks_within body)
kind_blocks _ = 0

-- ---- names as numbers

-- the names of a program's columns, functions and tasks, each in the order of its text
pub record Spaces : Type 0 where
  pub columns : Names
  pub functions : Names
  pub tasks : Names

module _ (spaces : Spaces) where
  -- ---- expressions

  abbrev pub expression_step : Names → Expr-F CodeExpr → e.CodeExpr-F CodeExpr
  expression_step names (Expr-F.Number n) = e.Number n
  expression_step names (Expr-F.Var name) = e.Var (place_of names name)
  expression_step names (Expr-F.Unary op inner) = e.Unary op inner
  expression_step names (Expr-F.Binary op left right) = e.Binary op left right
  expression_step names (Expr-F.Len column) = e.Len (place_of spaces.columns column)
  expression_step names (Expr-F.Index column at) = e.Index (place_of spaces.columns column) at
  expression_step names (Expr-F.Size column at) = e.Size (place_of spaces.columns column) at
  expression_step names (Expr-F.At column at byte) = e.At (place_of spaces.columns column) at byte
  expression_step names (Expr-F.Same column at literal) = e.Same (place_of spaces.columns column) at literal
  expression_step names (Expr-F.Begins column at literal) = e.Begins (place_of spaces.columns column) at literal

  abbrev pub expression_code : Names → Expr → CodeExpr
  expression_code names = fold-Expr CodeExpr (λ layer. roll-CodeExpr (expression_step names layer))

  abbrev pub part_code : Names → PrintPart → CodePrintPart
  part_code names (p.Lit text) = q.Lit text
  part_code names (p.Value value) = q.Value (expression_code names value)

  -- ---- statements

  -- A name that is bound takes the place behind those that are visible.
  abbrev pub kind_code : {A : Type 0} → s.StmtKind-F A (Resolved CodeStmt) → Names → ℕ → c.CodeStmtKind-F CodeStmtKind CodeBlock CodeStmt
  kind_code (s.Let name value) names next = c.Let (expression_code names value)
  kind_code (s.LetCall name callee args) names next = c.LetCall (place_of spaces.functions callee) (map (expression_code names) args)
  kind_code (s.LetFinish name kind body) names next = c.LetFinish kind (block_code body names next)
  kind_code (s.Assign name value) names next = c.Assign (place_of names name) (expression_code names value)
  kind_code (s.If cond first second) names next =
      c.If (expression_code names cond) (block_code first names next) (else_code second names (next + suc (blocks_within first)))
  kind_code (s.For name from to body) names next =
      c.For (expression_code names from) (expression_code names to) (block_code body (names ++ name ∷ []) next)
  kind_code (s.Async body) names next = c.Async (block_code body names next)
  kind_code (s.Finish body) names next = c.Finish (block_code body names next)
  kind_code (s.Offer value) names next = c.Offer (expression_code names value)
  kind_code (s.Run callee args) names next = c.Run (place_of spaces.tasks callee) (map (expression_code names) args)
  kind_code (s.Return value) names next = c.Return (expression_code names value)
  kind_code (s.Print parts) names next = c.Print (map (part_code names) parts)

  abbrev pub resolve_kind : s.StmtKind-F (Resolved CodeStmtKind) (Resolved CodeStmt) → Resolved CodeStmtKind
  resolve_kind kind = record {
    binds = binds kind;
    blocks = kind_blocks kind;
    code = λ names next. roll-CodeStmtKind (kind_code kind names next);
  }

  abbrev pub resolve_line : s.Stmt-F (Resolved CodeStmtKind) (Resolved CodeStmt) → Resolved CodeStmt
  resolve_line s = record {
    binds = s.what.binds;
    blocks = s.what.blocks;
    code = λ names next. roll-CodeStmt (record { line = s.line; next_block = next; what = s.what.code names next });
  }

  abbrev pub statement_resolved : Stmt → Resolved CodeStmt
  statement_resolved = fold-Stmt (Resolved CodeStmtKind) (Resolved CodeStmt) resolve_kind resolve_line

  abbrev pub kind_resolved : StmtKind → Resolved CodeStmtKind
  kind_resolved = fold-StmtKind (Resolved CodeStmtKind) (Resolved CodeStmt) resolve_kind resolve_line

  -- the code of statements that stand in a block where these names are visible, which has this number
  abbrev pub code_of : Names → ℕ → List Stmt → CodeBlock
  code_of names next stmts = block_code (map statement_resolved stmts) names next

  -- how many blocks they are, with their own
  abbrev pub blocks_of_body : List Stmt → ℕ
  blocks_of_body stmts = suc (blocks_within (map statement_resolved stmts))

  -- ---- items, whose blocks are numbered over all of them in their order

  abbrev pub item_blocks : i.the_data → ℕ
  item_blocks (i.Function name params body) = blocks_of_body body
  item_blocks (i.Task name params body) = blocks_of_body body
  item_blocks (i.Main body) = blocks_of_body body
  item_blocks _ = 0

  abbrev pub function_code : ℕ → i.the_data → List CodeItem
  function_code next (i.Function name params body) = record { params = length params; body = code_of params next body } ∷ []
  function_code next _ = []

  abbrev pub task_code : ℕ → i.the_data → List CodeItem
  task_code next (i.Task name params body) = record { params = length params; body = code_of params next body } ∷ []
  task_code next _ = []

  abbrev pub functions_code : ℕ → List Item → List CodeItem
  functions_code next [] = []
  functions_code next (item ∷ items) = function_code next item.what ++ functions_code (next + item_blocks item.what) items

  abbrev pub tasks_code : ℕ → List Item → List CodeItem
  tasks_code next [] = []
  tasks_code next (item ∷ items) = task_code next item.what ++ tasks_code (next + item_blocks item.what) items

  -- how many blocks stand before the first main
  abbrev pub before_main : ℕ → List Item → ℕ
  before_main next [] = next
  before_main next (item ∷ items) = if is_main item.what then next else before_main (next + item_blocks item.what) items

-- ---- programs

abbrev pub names_of_callables : List Callable → Names
names_of_callables cs = map (λ (c : Callable). c.name) cs

abbrev pub spaces_of : List Item → Spaces
spaces_of items = record {
  columns = columns_of items;
  functions = names_of_callables (callables_of items).functions;
  tasks = names_of_callables (callables_of items).tasks;
}

abbrev pub program_code : List Item → CodeTree
program_code items = record {
  functions = functions_code (spaces_of items) 0 items;
  tasks = tasks_code (spaces_of items) 0 items;
  main = code_of (spaces_of items) [] (before_main (spaces_of items) 0 items) (main_of items);
}
