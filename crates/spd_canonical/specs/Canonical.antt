-- The canonical symbols of a program: its tree as one list of tokens without lines, with parentheses only where they are needed.
use Rattle.std.specs.Prelude.{ℕ, suc, ◌==◌, ◌||◌, nat_le, if◌then◌else◌, List, [], ◌∷◌, ◌++◌, map, flat_map}
use Rattle.std.specs.Fmt.{signed_decimal}
use Rattle.spd_syntax.specs.declared.token.Word.{Word}
use Rattle.spd_syntax.specs.declared.token.Word.TheVariants as w
use Rattle.spd_syntax.specs.declared.token.Mark.{Mark}
use Rattle.spd_syntax.specs.declared.token.Mark.TheVariants as m
use Rattle.spd_syntax.specs.declared.tree.UnOp.{UnOp}
use Rattle.spd_syntax.specs.declared.tree.UnOp.TheVariants as u
use Rattle.spd_syntax.specs.declared.tree.BinOp.{BinOp}
use Rattle.spd_syntax.specs.declared.tree.Expr.{Expr, fold-Expr}
use Rattle.spd_syntax.specs.declared.tree.Expr.TheOpen.{Expr-F}
use Rattle.spd_syntax.specs.declared.tree.PrintPart.{PrintPart}
use Rattle.spd_syntax.specs.declared.tree.PrintPart.TheVariants as p
use Rattle.spd_syntax.specs.declared.tree.Collect.{Collect}
use Rattle.spd_syntax.specs.declared.tree.Collect.TheVariants as c
use Rattle.spd_syntax.specs.declared.tree.StmtKind.{StmtKind, fold-StmtKind}
use Rattle.spd_syntax.specs.declared.tree.StmtKind.TheOpen as s
use Rattle.spd_syntax.specs.declared.tree.Stmt.{Stmt, fold-Stmt}
use Rattle.spd_syntax.specs.declared.tree.ItemKind.{ItemKind}
use Rattle.spd_syntax.specs.declared.tree.ItemKind.TheVariants as i
use Rattle.spd_syntax.specs.declared.tree.Item.{Item}
use Rattle.spd_syntax.specs.declared.tree.Program.{Program}
use Rattle.spd_syntax.specs.declared.operators.TheConstants.{OPERATORS}
use Rattle.spd_syntax.specs.Operators.{row_in}
use Rattle.spd_syntax.specs.Tokens as t
use Rattle.spd_syntax.specs.Tokens.{Symbol}

-- ---- strings and operators

-- a byte of a string as it is written: quotes and backslashes behind a backslash
abbrev pub escaped : ℕ → List ℕ
escaped b = if b == 34 || b == 92 then 92 ∷ b ∷ [] else b ∷ []

-- a string as it is written, with its quotes
unfoldable pub quoted_text : List ℕ → List ℕ
quoted_text z = 34 ∷ (flat_map escaped z ++ 34 ∷ [])

-- the level of an operator: a lower one binds more tightly
abbrev pub binary_level : BinOp → ℕ
binary_level op = (row_in op OPERATORS).1

abbrev pub binary_mark : BinOp → Mark
binary_mark op = (row_in op OPERATORS).0

abbrev pub unary_mark : UnOp → Mark
unary_mark u.Neg = m.Minus
unary_mark u.Not = m.Not

-- ---- expressions

-- The symbols of an expression, and how tightly it holds together: 0 for a primary, 1 behind a unary operator, one more than
-- its level for a binary one.
pub record Printed : Type 0 where
  pub hold : ℕ
  pub symbols : List Symbol

abbrev pub between_marks : Mark → Mark → List Symbol → List Symbol
between_marks opening closing ss = t.mark opening ∷ (ss ++ t.mark closing ∷ [])

abbrev pub in_parens : List Symbol → List Symbol
in_parens ss = between_marks m.LeftParen m.RightParen ss

-- an operand where so loose a one may stand: in parentheses if it is looser
unfoldable pub operand_symbols : ℕ → Printed → List Symbol
operand_symbols loosest x = if nat_le x.hold loosest then x.symbols else in_parens x.symbols

-- Left of an operator of a level the same level may stand, but not left of a comparison.
abbrev pub left_of_level : ℕ → ℕ
left_of_level level = if level == 3 then level else suc level

abbrev pub primary_printed : List Symbol → Printed
primary_printed ss = record { hold = 0; symbols = ss }

abbrev pub with_comma : List Symbol → List Symbol → List Symbol
with_comma ss us = (ss ++ t.mark m.Comma ∷ []) ++ us

abbrev pub name_symbols : List ℕ → List Symbol
name_symbols n = t.name n ∷ []

abbrev pub lit_symbols : List ℕ → List Symbol
lit_symbols z = t.lit (quoted_text z) ∷ []

abbrev pub left_symbols : BinOp → Printed → List Symbol
left_symbols op x = operand_symbols (left_of_level (binary_level op)) x ++ t.mark (binary_mark op) ∷ []

abbrev pub right_symbols : BinOp → Printed → List Symbol
right_symbols op y = operand_symbols (binary_level op) y

abbrev pub index_symbols : List ℕ → List Symbol → List Symbol
index_symbols n ss = t.name n ∷ between_marks m.LeftBracket m.RightBracket ss

-- a word with what stands in its parentheses
abbrev pub word_symbols : Word → List Symbol → List Symbol
word_symbols which ss = t.word which ∷ in_parens ss

abbrev pub place_symbols : List ℕ → List Symbol → List Symbol
place_symbols n ss = with_comma (name_symbols n) ss

abbrev pub size_symbols : List ℕ → List Symbol → List Symbol
size_symbols n ss = word_symbols w.Size (place_symbols n ss)

abbrev pub at_symbols : List ℕ → List Symbol → List Symbol → List Symbol
at_symbols n ss us = word_symbols w.At (with_comma (place_symbols n ss) us)

-- up to the second number
abbrev pub at_front : List ℕ → List Symbol → List Symbol
at_front n ss = t.word w.At ∷ t.mark m.LeftParen ∷ (place_symbols n ss ++ t.mark m.Comma ∷ [])

abbrev pub text_test_symbols : Word → List ℕ → List Symbol → List ℕ → List Symbol
text_test_symbols which n ss z = word_symbols which (with_comma (place_symbols n ss) (lit_symbols z))

abbrev pub expression_printed : Expr-F Printed → Printed
expression_printed (Expr-F.Number n) = primary_printed (t.number (signed_decimal n) ∷ [])
expression_printed (Expr-F.Var n) = primary_printed (name_symbols n)
expression_printed (Expr-F.Unary op x) = record { hold = 1; symbols = t.mark (unary_mark op) ∷ operand_symbols 0 x }
expression_printed (Expr-F.Binary op x y) = record { hold = suc (binary_level op); symbols = left_symbols op x ++ right_symbols op y }
expression_printed (Expr-F.Len n) = primary_printed (word_symbols w.Len (name_symbols n))
expression_printed (Expr-F.Index n x) = primary_printed (index_symbols n x.symbols)
expression_printed (Expr-F.Size n x) = primary_printed (size_symbols n x.symbols)
expression_printed (Expr-F.At n x y) = primary_printed (at_symbols n x.symbols y.symbols)
expression_printed (Expr-F.Same n x z) = primary_printed (text_test_symbols w.Same n x.symbols z)
expression_printed (Expr-F.Begins n x z) = primary_printed (text_test_symbols w.Begins n x.symbols z)

unfoldable pub printed_of : Expr → Printed
printed_of = fold-Expr Printed expression_printed

abbrev pub expression_symbols : Expr → List Symbol
expression_symbols x = (printed_of x).symbols

-- ---- lists

-- further ones, each behind a comma
abbrev pub behind_commas : {A : Type 0} → (A → List Symbol) → List A → List Symbol
behind_commas symbols_of xs = flat_map (λ x. t.mark m.Comma ∷ symbols_of x) xs

abbrev pub with_commas : {A : Type 0} → (A → List Symbol) → List A → List Symbol
with_commas symbols_of [] = []
with_commas symbols_of (x ∷ xs) = symbols_of x ++ behind_commas symbols_of xs

abbrev pub part_symbols : PrintPart → List Symbol
part_symbols (p.Lit z) = lit_symbols z
part_symbols (p.Value x) = expression_symbols x

-- ---- statements

abbrev pub in_braces : List (List Symbol) → List Symbol
in_braces body = between_marks m.LeftBrace m.RightBrace (flat_map (λ ss. ss) body)

-- nothing where the block is empty
abbrev pub else_symbols : List (List Symbol) → List Symbol
else_symbols [] = []
else_symbols (x ∷ xs) = t.word w.Else ∷ in_braces (x ∷ xs)

abbrev pub with_semicolon : List Symbol → List Symbol
with_semicolon ss = ss ++ t.mark m.Semicolon ∷ []

abbrev pub collecting_word : Collect → Word
collecting_word c.Sum = w.Sum
collecting_word c.Least = w.Least
collecting_word c.Greatest = w.Greatest

abbrev pub assigned : List ℕ → List Symbol → List Symbol
assigned n ss = t.name n ∷ t.mark m.Assign ∷ ss

abbrev pub call_symbols : List ℕ → List Expr → List Symbol
call_symbols callee args = t.name callee ∷ in_parens (with_commas expression_symbols args)

abbrev pub word_value : Word → List Symbol → List Symbol
word_value which ss = with_semicolon (t.word which ∷ ss)

abbrev pub let_symbols : List ℕ → List Symbol → List Symbol
let_symbols n ss = with_semicolon (t.word w.Let ∷ assigned n ss)

abbrev pub assign_symbols : List ℕ → List Symbol → List Symbol
assign_symbols n ss = with_semicolon (assigned n ss)

abbrev pub run_symbols : List ℕ → List Expr → List Symbol
run_symbols callee args = with_semicolon (t.word w.Run ∷ call_symbols callee args)

abbrev pub print_symbols : List PrintPart → List Symbol
print_symbols parts = with_semicolon (t.word w.Print ∷ with_commas part_symbols parts)

abbrev pub if_front : List Symbol → List Symbol
if_front ss = t.word w.If ∷ ss

abbrev pub for_front : List ℕ → List Symbol → List Symbol → List Symbol
for_front n from to = (t.word w.For ∷ t.name n ∷ t.word w.In ∷ (from ++ t.mark m.DotDot ∷ [])) ++ to

abbrev pub let_finish_front : List ℕ → Collect → List Symbol
let_finish_front n kind = t.word w.Let ∷ assigned n (t.word w.Finish ∷ t.word (collecting_word kind) ∷ [])

abbrev pub kind_printed : {A : Type 0} → s.StmtKind-F A (List Symbol) → List Symbol
kind_printed (s.Let n x) = let_symbols n (expression_symbols x)
kind_printed (s.LetCall n callee args) = let_symbols n (call_symbols callee args)
kind_printed (s.LetFinish n kind body) = let_finish_front n kind ++ in_braces body
kind_printed (s.Assign n x) = assign_symbols n (expression_symbols x)
kind_printed (s.If x first second) = (if_front (expression_symbols x) ++ in_braces first) ++ else_symbols second
kind_printed (s.For n x y body) = for_front n (expression_symbols x) (expression_symbols y) ++ in_braces body
kind_printed (s.Async body) = t.word w.Async ∷ in_braces body
kind_printed (s.Finish body) = t.word w.Finish ∷ in_braces body
kind_printed (s.Offer x) = word_value w.Offer (expression_symbols x)
kind_printed (s.Run callee args) = run_symbols callee args
kind_printed (s.Return x) = word_value w.Return (expression_symbols x)
kind_printed (s.Print parts) = print_symbols parts

abbrev pub line_printed : s.Stmt-F (List Symbol) (List Symbol) → List Symbol
line_printed s = s.what

unfoldable pub statement_symbols : Stmt → List Symbol
statement_symbols = fold-Stmt (List Symbol) (List Symbol) kind_printed line_printed

unfoldable pub kind_symbols : StmtKind → List Symbol
kind_symbols = fold-StmtKind (List Symbol) (List Symbol) kind_printed line_printed

-- ---- items

abbrev pub block_symbols : List Stmt → List Symbol
block_symbols body = in_braces (map statement_symbols body)

abbrev pub column_symbols : Word → List ℕ → List ℕ → List ℕ → List Symbol
column_symbols holds n file field =
    t.word w.Column ∷ t.name n ∷ t.mark m.Colon ∷ t.word holds ∷ t.word w.From ∷ t.lit (quoted_text file)
    ∷ t.word w.Field ∷ t.lit (quoted_text field) ∷ t.mark m.Semicolon ∷ []

abbrev pub callable_symbols : Word → List ℕ → List (List ℕ) → List Stmt → List Symbol
callable_symbols which n params body = t.word which ∷ t.name n ∷ (in_parens (with_commas name_symbols params) ++ block_symbols body)

abbrev pub lines_symbols : List ℕ → List ℕ → List Symbol
lines_symbols n file = t.word w.Lines ∷ t.name n ∷ t.word w.From ∷ t.lit (quoted_text file) ∷ t.mark m.Semicolon ∷ []

abbrev pub item_symbols : ItemKind → List Symbol
item_symbols (i.IntColumn n file field) = column_symbols w.Int n file field
item_symbols (i.TextColumn n file field) = column_symbols w.Text n file field
item_symbols (i.Lines n file) = lines_symbols n file
item_symbols (i.Function n params body) = callable_symbols w.Fn n params body
item_symbols (i.Task n params body) = callable_symbols w.Task n params body
item_symbols (i.Main body) = t.word w.Main ∷ block_symbols body

abbrev pub program_symbols : Program → List Symbol
program_symbols program = flat_map (λ (item : Item). item_symbols item.what) program.items
