-- What the canonical symbols of a tree, and the tree but for its lines, are at each construct.
use Rattle.std.proofs.Common.{◌≡◌, ℕ, ℤ, List, map, sym, ◌∙◌, ap}
use Rattle.spd_syntax.specs.declared.tree.UnOp.{UnOp}
use Rattle.spd_syntax.specs.declared.tree.BinOp.{BinOp}
use Rattle.spd_syntax.specs.declared.tree.Expr.{Expr, fold-roll-Expr}
use Rattle.spd_syntax.specs.declared.tree.Expr.TheVariants as e
use Rattle.spd_syntax.specs.declared.tree.Expr.TheOpen.{Expr-F}
use Rattle.spd_syntax.specs.declared.tree.Collect.{Collect}
use Rattle.spd_syntax.specs.declared.tree.PrintPart.{PrintPart}
use Rattle.spd_syntax.specs.declared.tree.StmtKind.{StmtKind, roll-StmtKind, fold-roll-StmtKind}
use Rattle.spd_syntax.specs.declared.tree.StmtKind.TheVariants as v
use Rattle.spd_syntax.specs.declared.tree.StmtKind.TheOpen as s
use Rattle.spd_syntax.specs.declared.tree.Stmt.{Stmt, fold-roll-Stmt}
use Rattle.spd_syntax.specs.Tokens.{Symbol}
use Rattle.spd_syntax.specs.Grammar.{stmt}
use Rattle.spd_canonical.specs.Canonical.{Printed, printed_of, expression_printed, kind_printed, line_printed, kind_symbols, statement_symbols}
use Rattle.spd_canonical.specs.Lines.{at_no_line, kind_but_lines, statement_but_lines}

-- ---- expressions

pub printed_number : (n : ℤ) → printed_of (e.Number n) ≡ expression_printed (Expr-F.Number n)
unfolding printed_of
printed_number n = ap printed_of (sym (e.rolls-Number n)) ∙ fold-roll-Expr Printed expression_printed (Expr-F.Number n)

pub printed_var : (n : List ℕ) → printed_of (e.Var n) ≡ expression_printed (Expr-F.Var n)
unfolding printed_of
printed_var n = ap printed_of (sym (e.rolls-Var n)) ∙ fold-roll-Expr Printed expression_printed (Expr-F.Var n)

pub printed_unary : (op : UnOp) (x : Expr) → printed_of (e.Unary op x) ≡ expression_printed (Expr-F.Unary op (printed_of x))
unfolding printed_of
printed_unary op x = ap printed_of (sym (e.rolls-Unary op x)) ∙ fold-roll-Expr Printed expression_printed (Expr-F.Unary op x)

pub printed_binary : (op : BinOp) (x y : Expr) → printed_of (e.Binary op x y) ≡ expression_printed (Expr-F.Binary op (printed_of x) (printed_of y))
unfolding printed_of
printed_binary op x y = ap printed_of (sym (e.rolls-Binary op x y)) ∙ fold-roll-Expr Printed expression_printed (Expr-F.Binary op x y)

pub printed_len : (n : List ℕ) → printed_of (e.Len n) ≡ expression_printed (Expr-F.Len n)
unfolding printed_of
printed_len n = ap printed_of (sym (e.rolls-Len n)) ∙ fold-roll-Expr Printed expression_printed (Expr-F.Len n)

pub printed_index : (n : List ℕ) (x : Expr) → printed_of (e.Index n x) ≡ expression_printed (Expr-F.Index n (printed_of x))
unfolding printed_of
printed_index n x = ap printed_of (sym (e.rolls-Index n x)) ∙ fold-roll-Expr Printed expression_printed (Expr-F.Index n x)

pub printed_size : (n : List ℕ) (x : Expr) → printed_of (e.Size n x) ≡ expression_printed (Expr-F.Size n (printed_of x))
unfolding printed_of
printed_size n x = ap printed_of (sym (e.rolls-Size n x)) ∙ fold-roll-Expr Printed expression_printed (Expr-F.Size n x)

pub printed_at : (n : List ℕ) (x y : Expr) → printed_of (e.At n x y) ≡ expression_printed (Expr-F.At n (printed_of x) (printed_of y))
unfolding printed_of
printed_at n x y = ap printed_of (sym (e.rolls-At n x y)) ∙ fold-roll-Expr Printed expression_printed (Expr-F.At n x y)

pub printed_same : (n : List ℕ) (x : Expr) (z : List ℕ) → printed_of (e.Same n x z) ≡ expression_printed (Expr-F.Same n (printed_of x) z)
unfolding printed_of
printed_same n x z = ap printed_of (sym (e.rolls-Same n x z)) ∙ fold-roll-Expr Printed expression_printed (Expr-F.Same n x z)

pub printed_begins : (n : List ℕ) (x : Expr) (z : List ℕ) → printed_of (e.Begins n x z) ≡ expression_printed (Expr-F.Begins n (printed_of x) z)
unfolding printed_of
printed_begins n x z = ap printed_of (sym (e.rolls-Begins n x z)) ∙ fold-roll-Expr Printed expression_printed (Expr-F.Begins n x z)

-- ---- statements

pub statement_is : (l : ℕ) (k : StmtKind) → statement_symbols (stmt l k) ≡ kind_symbols k
unfolding statement_symbols kind_symbols
statement_is l k = fold-roll-Stmt (List Symbol) (List Symbol) kind_printed line_printed (record { line = l; what = k })

pub statement_bare : (l : ℕ) (k : StmtKind) → statement_but_lines (stmt l k) ≡ stmt 0 (kind_but_lines k)
unfolding statement_but_lines kind_but_lines
statement_bare l k = fold-roll-Stmt StmtKind Stmt roll-StmtKind at_no_line (record { line = l; what = k })

pub symbols_let : (n : List ℕ) (x : Expr) → kind_symbols (v.Let n x) ≡ kind_printed {A = List Symbol} (s.Let n x)
unfolding kind_symbols statement_symbols
symbols_let n x = ap kind_symbols (sym (v.rolls-Let n x)) ∙ fold-roll-StmtKind (List Symbol) (List Symbol) kind_printed line_printed (s.Let n x)

pub symbols_let_call : (n callee : List ℕ) (args : List Expr) → kind_symbols (v.LetCall n callee args)
    ≡ kind_printed {A = List Symbol} (s.LetCall n callee args)
unfolding kind_symbols statement_symbols
symbols_let_call n callee args = ap kind_symbols (sym (v.rolls-LetCall n callee args))
    ∙ fold-roll-StmtKind (List Symbol) (List Symbol) kind_printed line_printed (s.LetCall n callee args)

pub symbols_let_finish : (n : List ℕ) (kind : Collect) (body : List Stmt)
    → kind_symbols (v.LetFinish n kind body) ≡ kind_printed {A = List Symbol} (s.LetFinish n kind (map statement_symbols body))
unfolding kind_symbols statement_symbols
symbols_let_finish n kind body = ap kind_symbols (sym (v.rolls-LetFinish n kind body))
    ∙ fold-roll-StmtKind (List Symbol) (List Symbol) kind_printed line_printed (s.LetFinish n kind body)

pub symbols_assign : (n : List ℕ) (x : Expr) → kind_symbols (v.Assign n x) ≡ kind_printed {A = List Symbol} (s.Assign n x)
unfolding kind_symbols statement_symbols
symbols_assign n x = ap kind_symbols (sym (v.rolls-Assign n x)) ∙ fold-roll-StmtKind (List Symbol) (List Symbol) kind_printed line_printed (s.Assign n x)

pub symbols_if : (x : Expr) (first second : List Stmt) → kind_symbols (v.If x first second)
    ≡ kind_printed {A = List Symbol} (s.If x (map statement_symbols first) (map statement_symbols second))
unfolding kind_symbols statement_symbols
symbols_if x first second = ap kind_symbols (sym (v.rolls-If x first second))
    ∙ fold-roll-StmtKind (List Symbol) (List Symbol) kind_printed line_printed (s.If x first second)

pub symbols_for : (n : List ℕ) (x y : Expr) (body : List Stmt) → kind_symbols (v.For n x y body)
    ≡ kind_printed {A = List Symbol} (s.For n x y (map statement_symbols body))
unfolding kind_symbols statement_symbols
symbols_for n x y body = ap kind_symbols (sym (v.rolls-For n x y body))
    ∙ fold-roll-StmtKind (List Symbol) (List Symbol) kind_printed line_printed (s.For n x y body)

pub symbols_async : (body : List Stmt) → kind_symbols (v.Async body) ≡ kind_printed {A = List Symbol} (s.Async (map statement_symbols body))
unfolding kind_symbols statement_symbols
symbols_async body = ap kind_symbols (sym (v.rolls-Async body)) ∙ fold-roll-StmtKind (List Symbol) (List Symbol) kind_printed line_printed (s.Async body)

pub symbols_finish : (body : List Stmt) → kind_symbols (v.Finish body) ≡ kind_printed {A = List Symbol} (s.Finish (map statement_symbols body))
unfolding kind_symbols statement_symbols
symbols_finish body = ap kind_symbols (sym (v.rolls-Finish body)) ∙ fold-roll-StmtKind (List Symbol) (List Symbol) kind_printed line_printed (s.Finish body)

pub symbols_offer : (x : Expr) → kind_symbols (v.Offer x) ≡ kind_printed {A = List Symbol} (s.Offer x)
unfolding kind_symbols statement_symbols
symbols_offer x = ap kind_symbols (sym (v.rolls-Offer x)) ∙ fold-roll-StmtKind (List Symbol) (List Symbol) kind_printed line_printed (s.Offer x)

pub symbols_run : (callee : List ℕ) (args : List Expr) → kind_symbols (v.Run callee args) ≡ kind_printed {A = List Symbol} (s.Run callee args)
unfolding kind_symbols statement_symbols
symbols_run callee args = ap kind_symbols (sym (v.rolls-Run callee args))
    ∙ fold-roll-StmtKind (List Symbol) (List Symbol) kind_printed line_printed (s.Run callee args)

pub symbols_return : (x : Expr) → kind_symbols (v.Return x) ≡ kind_printed {A = List Symbol} (s.Return x)
unfolding kind_symbols statement_symbols
symbols_return x = ap kind_symbols (sym (v.rolls-Return x)) ∙ fold-roll-StmtKind (List Symbol) (List Symbol) kind_printed line_printed (s.Return x)

pub symbols_print : (parts : List PrintPart) → kind_symbols (v.Print parts) ≡ kind_printed {A = List Symbol} (s.Print parts)
unfolding kind_symbols statement_symbols
symbols_print parts = ap kind_symbols (sym (v.rolls-Print parts)) ∙ fold-roll-StmtKind (List Symbol) (List Symbol) kind_printed line_printed (s.Print parts)

pub bare_let : (n : List ℕ) (x : Expr) → kind_but_lines (v.Let n x) ≡ v.Let n x
unfolding kind_but_lines statement_but_lines
bare_let n x = ap kind_but_lines (sym (v.rolls-Let n x)) ∙ fold-roll-StmtKind StmtKind Stmt roll-StmtKind at_no_line (s.Let n x) ∙ v.rolls-Let n x

pub bare_let_call : (n callee : List ℕ) (args : List Expr) → kind_but_lines (v.LetCall n callee args) ≡ v.LetCall n callee args
unfolding kind_but_lines statement_but_lines
bare_let_call n callee args = ap kind_but_lines (sym (v.rolls-LetCall n callee args))
    ∙ fold-roll-StmtKind StmtKind Stmt roll-StmtKind at_no_line (s.LetCall n callee args) ∙ v.rolls-LetCall n callee args

pub bare_let_finish : (n : List ℕ) (kind : Collect) (body : List Stmt) → kind_but_lines (v.LetFinish n kind body)
    ≡ v.LetFinish n kind (map statement_but_lines body)
unfolding kind_but_lines statement_but_lines
bare_let_finish n kind body = ap kind_but_lines (sym (v.rolls-LetFinish n kind body))
    ∙ fold-roll-StmtKind StmtKind Stmt roll-StmtKind at_no_line (s.LetFinish n kind body) ∙ v.rolls-LetFinish n kind (map statement_but_lines body)

pub bare_assign : (n : List ℕ) (x : Expr) → kind_but_lines (v.Assign n x) ≡ v.Assign n x
unfolding kind_but_lines statement_but_lines
bare_assign n x = ap kind_but_lines (sym (v.rolls-Assign n x)) ∙ fold-roll-StmtKind StmtKind Stmt roll-StmtKind at_no_line (s.Assign n x) ∙ v.rolls-Assign n x

pub bare_if : (x : Expr) (first second : List Stmt) → kind_but_lines (v.If x first second)
    ≡ v.If x (map statement_but_lines first) (map statement_but_lines second)
unfolding kind_but_lines statement_but_lines
bare_if x first second = ap kind_but_lines (sym (v.rolls-If x first second))
    ∙ fold-roll-StmtKind StmtKind Stmt roll-StmtKind at_no_line (s.If x first second)
    ∙ v.rolls-If x (map statement_but_lines first) (map statement_but_lines second)

pub bare_for : (n : List ℕ) (x y : Expr) (body : List Stmt) → kind_but_lines (v.For n x y body) ≡ v.For n x y (map statement_but_lines body)
unfolding kind_but_lines statement_but_lines
bare_for n x y body = ap kind_but_lines (sym (v.rolls-For n x y body)) ∙ fold-roll-StmtKind StmtKind Stmt roll-StmtKind at_no_line (s.For n x y body)
    ∙ v.rolls-For n x y (map statement_but_lines body)

pub bare_async : (body : List Stmt) → kind_but_lines (v.Async body) ≡ v.Async (map statement_but_lines body)
unfolding kind_but_lines statement_but_lines
bare_async body = ap kind_but_lines (sym (v.rolls-Async body)) ∙ fold-roll-StmtKind StmtKind Stmt roll-StmtKind at_no_line (s.Async body)
    ∙ v.rolls-Async (map statement_but_lines body)

pub bare_finish : (body : List Stmt) → kind_but_lines (v.Finish body) ≡ v.Finish (map statement_but_lines body)
unfolding kind_but_lines statement_but_lines
bare_finish body = ap kind_but_lines (sym (v.rolls-Finish body)) ∙ fold-roll-StmtKind StmtKind Stmt roll-StmtKind at_no_line (s.Finish body)
    ∙ v.rolls-Finish (map statement_but_lines body)

pub bare_offer : (x : Expr) → kind_but_lines (v.Offer x) ≡ v.Offer x
unfolding kind_but_lines statement_but_lines
bare_offer x = ap kind_but_lines (sym (v.rolls-Offer x)) ∙ fold-roll-StmtKind StmtKind Stmt roll-StmtKind at_no_line (s.Offer x) ∙ v.rolls-Offer x

pub bare_run : (callee : List ℕ) (args : List Expr) → kind_but_lines (v.Run callee args) ≡ v.Run callee args
unfolding kind_but_lines statement_but_lines
bare_run callee args = ap kind_but_lines (sym (v.rolls-Run callee args)) ∙ fold-roll-StmtKind StmtKind Stmt roll-StmtKind at_no_line (s.Run callee args)
    ∙ v.rolls-Run callee args

pub bare_return : (x : Expr) → kind_but_lines (v.Return x) ≡ v.Return x
unfolding kind_but_lines statement_but_lines
bare_return x = ap kind_but_lines (sym (v.rolls-Return x)) ∙ fold-roll-StmtKind StmtKind Stmt roll-StmtKind at_no_line (s.Return x) ∙ v.rolls-Return x

pub bare_print : (parts : List PrintPart) → kind_but_lines (v.Print parts) ≡ v.Print parts
unfolding kind_but_lines statement_but_lines
bare_print parts = ap kind_but_lines (sym (v.rolls-Print parts)) ∙ fold-roll-StmtKind StmtKind Stmt roll-StmtKind at_no_line (s.Print parts)
    ∙ v.rolls-Print parts
