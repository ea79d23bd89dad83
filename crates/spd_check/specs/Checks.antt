-- The checks of a program: all its faults in the order of its text.
use Rattle.std.specs.Prelude.{ℕ, nat_lt, Bool, true, false, ◌==◌, ◌&&◌, if◌then◌else◌, List, [], ◌∷◌, ◌++◌, length, map, flat_map, Option, None, Some}
use Rattle.spd_syntax.specs.declared.tree.Expr.{Expr, fold-Expr}
use Rattle.spd_syntax.specs.declared.tree.Expr.TheOpen.{Expr-F}
use Rattle.spd_syntax.specs.declared.tree.PrintPart.{PrintPart}
use Rattle.spd_syntax.specs.declared.tree.PrintPart.TheVariants as p
use Rattle.spd_syntax.specs.declared.tree.StmtKind.{StmtKind, fold-StmtKind}
use Rattle.spd_syntax.specs.declared.tree.StmtKind.TheOpen as s
use Rattle.spd_syntax.specs.declared.tree.Stmt.{Stmt, fold-Stmt}
use Rattle.spd_syntax.specs.declared.tree.ItemKind.TheVariants as i
use Rattle.spd_syntax.specs.declared.tree.Item.{Item}
use Rattle.spd_syntax.specs.declared.tree.Program.{Program}
use Rattle.spd_check.specs.declared.faults.CheckKind.TheVariants.{Unknown, Twice, Arity, AsyncOutside, OfferOutside, PrintPlace, ReturnPlace, AssignOuter, ColumnKind, NoMain, NoReturn}
use Rattle.spd_check.specs.declared.declared.Entries.{Entries}
use Rattle.spd_check.specs.declared.declared.Entries.TheVariants.{Ints, Texts}
use Rattle.spd_check.specs.declared.expressions.ColumnUse.{ColumnUse}
use Rattle.spd_check.specs.declared.expressions.ColumnUse.TheVariants as use_of
use Rattle.spd_check.specs.declared.place.Home.{Home}
use Rattle.spd_check.specs.declared.place.Home.TheVariants as home
use Rattle.spd_check.specs.declared.place.Place.{Place}
use Rattle.spd_meaning.specs.Names.{Name, Names, binds}
use Rattle.spd_code.specs.Places.{place_of}
use Rattle.spd_check.specs.Names.{is_visible}
use Rattle.spd_check.specs.Items.{entries_of, function_arity, task_arity, is_declared, has_main}
use Rattle.spd_check.specs.Places.{place_in, place_inside, may_collect, may_print, may_return}
use Rattle.spd_check.specs.Faults.{Faults, fault_at, fault_where, fault_unless}

-- ---- what is used: it is there, and fits

abbrev pub fits_use : ColumnUse → Entries → Bool
fits_use use_of.Length entries = true
fits_use use_of.Number Ints = true
fits_use use_of.Number Texts = false
fits_use use_of.Text Ints = false
fits_use use_of.Text Texts = true

-- a column or lines item, of which these are the entries
abbrev pub used_faults : Option Entries → ColumnUse → ℕ → Faults
used_faults None used line = fault_at line Unknown
used_faults (Some entries) used line = fault_unless (fits_use used entries) line ColumnKind

-- a function or a task, which takes so many arguments
unfoldable pub called_faults : Option ℕ → ℕ → ℕ → Faults
called_faults None given line = fault_at line Unknown
called_faults (Some params) given line = fault_unless (params == given) line Arity

abbrev pub twice : Names → Name → ℕ → Faults
twice names name line = fault_where (is_visible names name) line Twice

-- an assigned name: it is visible, and stood in the innermost finish or async block already
abbrev pub assigned_faults : Names → ℕ → Name → ℕ → Faults
assigned_faults names outer name line =
    if is_visible names name then fault_where (nat_lt (place_of names name) outer) line AssignOuter else fault_at line Unknown

-- ---- blocks that return: the last statement is a return, or an `if` of two blocks that do

abbrev pub last_returns : List Bool → Bool
last_returns [] = false
last_returns (b ∷ []) = b
last_returns (b ∷ c ∷ bs) = last_returns (c ∷ bs)

abbrev pub returns_step : s.StmtKind-F Bool Bool → Bool
returns_step (s.Return value) = true
returns_step (s.If cond first second) = last_returns first && last_returns second
returns_step _ = false

abbrev pub returns_line : s.Stmt-F Bool Bool → Bool
returns_line s = s.what

abbrev pub stmt_returns : Stmt → Bool
stmt_returns = fold-Stmt Bool Bool returns_step returns_line

abbrev pub kind_returns : StmtKind → Bool
kind_returns = fold-StmtKind Bool Bool returns_step returns_line

abbrev pub block_returns : List Stmt → Bool
block_returns stmts = last_returns (map stmt_returns stmts)

-- parameters, behind these names
abbrev pub params_faults : Names → Names → ℕ → Faults
params_faults names [] line = []
params_faults names (param ∷ params) line = twice names param line ++ params_faults (names ++ param ∷ []) params line

-- ---- expressions and statements, among the items of a program

-- the names that a statement binds, and its faults where these names are visible, at a place
abbrev pub Checked : Type 0
Checked = Names × (Names → Place → Faults)

-- the same of what a statement at a line does
abbrev pub CheckedKind : Type 0
CheckedKind = Names × (ℕ → Names → Place → Faults)

abbrev pub statements_faults : List Checked → Names → Place → Faults
statements_faults [] names place = []
statements_faults (s ∷ ss) names place = s.1 names place ++ statements_faults ss (names ++ s.0) place

-- a finish or an async block
abbrev pub inside_faults : List Checked → Names → Place → Faults
inside_faults body names place = statements_faults body names (place_inside place (length names))

module _ (items : List Item) where
  unfoldable pub column_faults : Name → ColumnUse → ℕ → Faults
  column_faults column used line = used_faults (entries_of items column) used line

  -- A column's name is checked before the operands.
  abbrev pub expression_check : Names → ℕ → Expr-F Faults → Faults
  expression_check names line (Expr-F.Number n) = []
  expression_check names line (Expr-F.Var name) = fault_unless (is_visible names name) line Unknown
  expression_check names line (Expr-F.Unary op inner) = inner
  expression_check names line (Expr-F.Binary op left right) = left ++ right
  expression_check names line (Expr-F.Len column) = column_faults column use_of.Length line
  expression_check names line (Expr-F.Index column at) = column_faults column use_of.Number line ++ at
  expression_check names line (Expr-F.Size column at) = column_faults column use_of.Text line ++ at
  expression_check names line (Expr-F.At column at byte) = column_faults column use_of.Text line ++ (at ++ byte)
  expression_check names line (Expr-F.Same column at text) = column_faults column use_of.Text line ++ at
  expression_check names line (Expr-F.Begins column at text) = column_faults column use_of.Text line ++ at

  abbrev pub expression_faults : Names → ℕ → Expr → Faults
  expression_faults names line = fold-Expr Faults (expression_check names line)

  abbrev pub expressions_faults : Names → ℕ → List Expr → Faults
  expressions_faults names line es = flat_map (expression_faults names line) es

  -- a call: the called name and its arity, and then the arguments
  abbrev pub call_faults : Option ℕ → Names → ℕ → List Expr → Faults
  call_faults arity names line args = called_faults arity (length args) line ++ expressions_faults names line args

  abbrev pub part_faults : Names → ℕ → PrintPart → Faults
  part_faults names line (p.Lit text) = []
  part_faults names line (p.Value value) = expression_faults names line value

  -- the place, the called name and its arity, the expressions, the blocks, and the name; but that of a `for` before its block
  abbrev pub kind_faults : s.StmtKind-F CheckedKind Checked → ℕ → Names → Place → Faults
  kind_faults (s.Let name value) line names place = expression_faults names line value ++ twice names name line
  kind_faults (s.LetCall name callee args) line names place =
      call_faults (function_arity items callee) names line args ++ twice names name line
  kind_faults (s.LetFinish name kind body) line names place = inside_faults body names place ++ twice names name line
  kind_faults (s.Assign name value) line names place = expression_faults names line value ++ assigned_faults names place.outer name line
  kind_faults (s.If cond first second) line names place =
      expression_faults names line cond ++ (statements_faults first names place ++ statements_faults second names place)
  kind_faults (s.For name from to body) line names place =
      expression_faults names line from ++ (expression_faults names line to ++ (twice names name line ++ statements_faults body (names ++ name ∷ []) place))
  kind_faults (s.Async body) line names place = fault_unless (may_collect place) line AsyncOutside ++ inside_faults body names place
  kind_faults (s.Finish body) line names place = inside_faults body names place
  kind_faults (s.Offer value) line names place = fault_unless (may_collect place) line OfferOutside ++ expression_faults names line value
  kind_faults (s.Run callee args) line names place =
      fault_unless (may_collect place) line AsyncOutside ++ call_faults (task_arity items callee) names line args
  kind_faults (s.Return value) line names place = fault_unless (may_return place) line ReturnPlace ++ expression_faults names line value
  kind_faults (s.Print parts) line names place = fault_unless (may_print place) line PrintPlace ++ flat_map (part_faults names line) parts

  abbrev pub kind_check : s.StmtKind-F CheckedKind Checked → CheckedKind
  kind_check kind = (binds kind, kind_faults kind)

  abbrev pub line_check : s.Stmt-F CheckedKind Checked → Checked
  line_check s = (s.what.0, s.what.1 s.line)

  abbrev pub stmt_checked : Stmt → Checked
  stmt_checked = fold-Stmt CheckedKind Checked kind_check line_check

  abbrev pub kind_checked : StmtKind → CheckedKind
  kind_checked = fold-StmtKind CheckedKind Checked kind_check line_check

  -- the faults of the statements of a block
  unfoldable pub block_faults : List Stmt → Names → Place → Faults
  block_faults stmts names place = statements_faults (map stmt_checked stmts) names place

  -- the faults of the statements of a finish or async block that stands at a place
  unfoldable pub inside_block : List Stmt → Names → Place → Faults
  inside_block stmts names place = block_faults stmts names (place_inside place (length names))

  -- ---- items

  -- the parameters of a function or a task, and then its block
  abbrev pub callable_faults : Home → ℕ → Names → List Stmt → Faults
  callable_faults home line params body = params_faults [] params line ++ block_faults body params (place_in home)

  abbrev pub declared_faults : ℕ → i.the_data → Faults
  declared_faults line (i.Function name params body) = callable_faults home.Function line params body ++ fault_unless (block_returns body) line NoReturn
  declared_faults line (i.Task name params body) = callable_faults home.Task line params body
  declared_faults line (i.Main body) = block_faults body [] (place_in home.Main)
  declared_faults line _ = []

  abbrev pub item_faults : Item → Faults
  item_faults item = declared_faults item.line item.what

-- ---- programs

-- what is declared again, behind these items
abbrev pub again_faults : List Item → List Item → Faults
again_faults before [] = []
again_faults before (item ∷ items) =
    fault_where (is_declared before item) item.line Twice ++ again_faults (before ++ item ∷ []) items

abbrev pub main_faults : List Item → ℕ → Faults
main_faults items last_line = fault_unless (has_main items) last_line NoMain

-- the faults of a program: what is declared twice, or isn't, and then those in its items
abbrev pub faults_of : Program → Faults
faults_of program =
    again_faults [] program.items ++ (main_faults program.items program.last_line ++ flat_map (item_faults program.items) program.items)
