-- The grammar: a line for each construct, under the rule as a page would print it. Brackets `[ ]` mean at most once, braces
-- `{ }` any number of times; quoted words and marks are tokens.
--
-- `f ◃ p` makes a value of p's, `p ⊛ q` is one behind the other, of which `p ⊲ q` keeps the first value and `p ▹ q` the
-- second. `ks ⇒ p ∣ q` is p where the next token is of ks, else q: so one token is enough to read by (specs/OneAhead). Where
-- a page's rule needs more, it is cut behind its first tokens (`let`, and an operand with the operators behind it); those
-- rules stand in specs/PageForms as a page has them, and both forms spell the same.
use Rattle.std.specs.Prelude.{ℕ, zero, suc, pos, Bool, true, false, List, ◌++◌, [], ◌∷◌, map, Option, Some, None, ◌&&◌, ◌==◌, if◌then◌else◌}
use Rattle.spd_syntax.specs.declared.token.Word.TheVariants as w
use Rattle.spd_syntax.specs.declared.token.Mark.{Mark}
use Rattle.spd_syntax.specs.declared.token.Mark.TheVariants as m
use Rattle.spd_syntax.specs.declared.token.TokenKind.{TokenKind}
use Rattle.spd_syntax.specs.declared.token.TokenKind.TheVariants as kind
use Rattle.spd_syntax.specs.declared.operators.TheConstants.{OPERATORS}
use Rattle.spd_syntax.specs.declared.tree.BinOp.{BinOp}
use Rattle.spd_syntax.specs.declared.tree.UnOp.{UnOp}
use Rattle.spd_syntax.specs.declared.tree.UnOp.TheVariants as u
use Rattle.spd_syntax.specs.declared.tree.Expr.{Expr}
use Rattle.spd_syntax.specs.declared.tree.Expr.TheVariants as e
use Rattle.spd_syntax.specs.declared.tree.PrintPart.{PrintPart}
use Rattle.spd_syntax.specs.declared.tree.PrintPart.TheVariants as p
use Rattle.spd_syntax.specs.declared.tree.StmtKind.{StmtKind}
use Rattle.spd_syntax.specs.declared.tree.StmtKind.TheVariants as s
use Rattle.spd_syntax.specs.declared.tree.Stmt.{Stmt}
use Rattle.spd_syntax.specs.declared.tree.Collect.{Collect}
use Rattle.spd_syntax.specs.declared.tree.Collect.TheVariants as c
use Rattle.spd_syntax.specs.declared.tree.ItemKind.{ItemKind}
use Rattle.spd_syntax.specs.declared.tree.ItemKind.TheVariants as i
use Rattle.spd_syntax.specs.declared.tree.Item.{Item}
use Rattle.spd_syntax.specs.declared.tree.Program.{Program}
use Rattle.spd_syntax.specs.Symbols.{value_of, same_mark}
use Rattle.spd_syntax.specs.Shape.{fst, Shape, token, give, folds, nest, Nonterminal, ByteList, NonterminalValue, expr, args, params, stmts, a_name, name_place, name_two_places, name_place_text}
use Rattle.spd_syntax.specs.Operators.{Row}
use Rattle.spd_syntax.specs.Shapes.{◌⊛◌, ◌⊲◌, ◌◃◌, ◌⇒◌∣◌, ◌▹◌, a_word, a_mark, words, word, mark, name, name_and_line, text, many, separated, between}

-- ---- expressions

-- number
unfoldable pub literal : Shape Expr
literal = token ((kind.Number, λ bytes line. e.Number (pos (value_of bytes))) ∷ [])

-- what may stand behind a name: [ "[" expr "]" ]
unfoldable pub behind_name : Shape (ByteList → Expr)
behind_name = a_mark m.LeftBracket ⇒ nest expr m.LeftBracket m.RightBracket (λ l x l' n. e.Index n x) ∣ give e.Var

-- name [ "[" expr "]" ]
unfoldable pub name_led : Shape Expr
name_led = (λ n f. f n) ◃ name ⊛ behind_name

-- "(" expr ")"
unfoldable pub parens : Shape Expr
parens = between expr m.LeftParen m.RightParen

unfoldable pub len_of : Shape Expr
len_of = e.Len ◃ (word w.Len ▹ between a_name m.LeftParen m.RightParen)

unfoldable pub size_of : Shape Expr
size_of = (λ x. e.Size x.0 x.1) ◃ (word w.Size ▹ between name_place m.LeftParen m.RightParen)

unfoldable pub at_of : Shape Expr
at_of = (λ x. e.At x.0 x.1 x.2) ◃ (word w.At ▹ between name_two_places m.LeftParen m.RightParen)

unfoldable pub same_of : Shape Expr
same_of = (λ x. e.Same x.0 x.1 x.2) ◃ (word w.Same ▹ between name_place_text m.LeftParen m.RightParen)

unfoldable pub begins_of : Shape Expr
begins_of = (λ x. e.Begins x.0 x.1 x.2) ◃ (word w.Begins ▹ between name_place_text m.LeftParen m.RightParen)

-- a primary that doesn't begin with a name:
-- number | "(" expr ")" | "len" "(" name ")" | "size" "(" name "," expr ")" | "at" "(" name "," expr "," expr ")"
--   | "same" "(" name "," expr "," string ")" | "begins" "(" name "," expr "," string ")"
unfoldable pub nameless : Shape Expr
nameless =
    (kind.Number ∷ []) ⇒ literal
    ∣ (a_word w.Len ⇒ len_of
    ∣ (a_word w.Size ⇒ size_of
    ∣ (a_word w.At ⇒ at_of
    ∣ (a_word w.Same ⇒ same_of
    ∣ (a_word w.Begins ⇒ begins_of
    ∣ parens)))))

-- primary = nameless | name [ "[" expr "]" ]
unfoldable pub primary : Shape Expr
primary = (kind.Name ∷ []) ⇒ name_led ∣ nameless

-- "-" | "!"
unfoldable pub unary_operator : Shape UnOp
unary_operator = token ((kind.Mark m.Minus, λ bytes line. u.Neg) ∷ (kind.Mark m.Not, λ bytes line. u.Not) ∷ [])

unfoldable pub signed : Shape Expr
signed = e.Unary ◃ unary_operator ⊛ primary

abbrev pub a_sign : List TokenKind
a_sign = kind.Mark m.Minus ∷ kind.Mark m.Not ∷ []

-- unary = [ "-" | "!" ] primary
unfoldable pub unary : Shape Expr
unary = a_sign ⇒ signed ∣ primary

-- an operand that doesn't begin with a name
unfoldable pub nameless_unary : Shape Expr
nameless_unary = a_sign ⇒ signed ∣ nameless

abbrev pub comparisons : ℕ
comparisons = 3

abbrev pub top : ℕ
top = 5

-- the operators of a level, by their marks
abbrev pub of_level : ℕ → List Row → List (TokenKind × BinOp)
of_level level [] = []
of_level level (row ∷ rows) = if row.2 == level then (kind.Mark row.0, row.1) ∷ of_level level rows else of_level level rows

abbrev pub by_mark : TokenKind × BinOp → TokenKind × (List ℕ → ℕ → BinOp)
by_mark row = (row.0, λ bytes line. row.1)

unfoldable pub operators : ℕ → List TokenKind
operators level = map fst (of_level level OPERATORS)

unfoldable pub operator : ℕ → Shape BinOp
operator level = token (map by_mark (of_level level OPERATORS))

-- the operator of a level that a mark is
unfoldable pub operator_in : ℕ → Mark → List Row → Option BinOp
operator_in level which [] = None
operator_in level which (row ∷ rows) = if row.2 == level && same_mark row.0 which then Some row.1 else operator_in level which rows

abbrev pub into : Expr → (Expr → Expr) → Expr
into x f = f x

-- an operator with its right operand
unfoldable pub operation : ℕ → Shape Expr → Shape (Expr → Expr)
operation level operand = (λ op y x. e.Binary op x y) ◃ operator level ⊛ operand

abbrev pub compose : (Expr → Expr) → (Expr → Expr) → Expr → Expr
compose f g x = g (f x)

-- the operators of a level, with their right operands: one or none, or any number
abbrev pub operations : Bool → ℕ → Shape (Expr → Expr) → Shape Expr → Shape (Expr → Expr)
operations true level before operand = compose ◃ before ⊛ (operators level ⇒ operation level operand ∣ give (λ x. x))
operations false level before operand = folds (operators level) compose before (operation level operand)

-- What may stand behind an operand, up to the operators of a level. Comparisons don't group; the others group to the left.
unfoldable pub behind_operand : ℕ → Shape (Expr → Expr)
behind_operand zero = give (λ x. x)
behind_operand (suc level) = operations (suc level == comparisons) (suc level) (behind_operand level) (into ◃ unary ⊛ behind_operand level)

-- an operand and the operators behind it, up to those of a level
abbrev pub at_level : ℕ → Shape Expr
at_level level = into ◃ unary ⊛ behind_operand level

-- expr: the levels rise from `||` over `&&`, comparisons and `+ -` to `* / %`
unfoldable pub expression : Shape Expr
expression = at_level top

-- the first tokens of an expression
abbrev pub an_expression : List TokenKind
an_expression =
    kind.Number ∷ kind.Name ∷ kind.Mark m.LeftParen ∷ kind.Mark m.Minus ∷ kind.Mark m.Not
    ∷ kind.Word w.Len ∷ kind.Word w.Size ∷ kind.Word w.At ∷ kind.Word w.Same ∷ kind.Word w.Begins ∷ []

-- ---- the parts of a print, and arguments

unfoldable pub quoted : Shape PrintPart
quoted = p.Lit ◃ text

-- part = string | expr
unfoldable pub part : Shape PrintPart
part = (kind.Lit ∷ []) ⇒ quoted ∣ (p.Value ◃ expression)

-- part { "," part }
unfoldable pub parts : Shape (List PrintPart)
parts = separated part

-- [ expr { "," expr } ]
unfoldable pub arguments : Shape (List Expr)
arguments = an_expression ⇒ separated expression ∣ give []

-- [ name { "," name } ]
unfoldable pub parameters : Shape (List ByteList)
parameters = (kind.Name ∷ []) ⇒ separated name ∣ give []

-- ---- statements

abbrev pub stmt : ℕ → StmtKind → Stmt
stmt line what = record { line = line; what = what }

-- block = "{" { stmt } "}"
abbrev pub block : Shape (List Stmt)
block = between stmts m.LeftBrace m.RightBrace

-- "(" [ expr { "," expr } ] ")"
abbrev pub called : Shape (List Expr)
called = between args m.LeftParen m.RightParen

-- "sum" | "least" | "greatest"
unfoldable pub collect_kind : Shape Collect
collect_kind = words ((w.Sum, c.Sum) ∷ (w.Least, c.Least) ∷ (w.Greatest, c.Greatest) ∷ [])

-- what stands behind `let name =`, by the line of `let` and the name
abbrev pub Letting : Type 0
Letting = ℕ → ByteList → Stmt

-- "finish" ("sum" | "least" | "greatest") block
unfoldable pub let_finish : Shape Letting
let_finish = (λ kind body l n. stmt l (s.LetFinish n kind body)) ◃ (word w.Finish ▹ collect_kind) ⊛ block

-- what stands behind `let name = name`, by that name
-- "(" [ expr { "," expr } ] ")" ";"
unfoldable pub let_call : Shape (ByteList → Letting)
let_call = (λ xs callee l n. stmt l (s.LetCall n callee xs)) ◃ called ⊲ mark m.Semicolon

-- the rest of an expression, ";"
unfoldable pub let_named : Shape (ByteList → Letting)
let_named = (λ f g first l n. stmt l (s.Let n (g (f first)))) ◃ behind_name ⊛ behind_operand top ⊲ mark m.Semicolon

-- name, and a call or the rest of an expression
unfoldable pub let_name : Shape Letting
let_name = (λ first f. f first) ◃ name ⊛ (a_mark m.LeftParen ⇒ let_call ∣ let_named)

unfoldable pub nameless_expression : Shape Expr
nameless_expression = into ◃ nameless_unary ⊛ behind_operand top

-- expr ";"
unfoldable pub let_nameless : Shape Letting
let_nameless = (λ x l n. stmt l (s.Let n x)) ◃ nameless_expression ⊲ mark m.Semicolon

unfoldable pub let_value : Shape Letting
let_value = a_word w.Finish ⇒ let_finish ∣ ((kind.Name ∷ []) ⇒ let_name ∣ let_nameless)

-- "let" name "=" (expr ";" | name "(" [ expr { "," expr } ] ")" ";" | "finish" ("sum" | "least" | "greatest") block)
unfoldable pub let_statement : Shape Stmt
let_statement = (λ l n f. f l n) ◃ word w.Let ⊛ name ⊲ mark m.Assign ⊛ let_value

-- name "=" expr ";"
unfoldable pub assign_statement : Shape Stmt
assign_statement = (λ n x. stmt n.1 (s.Assign n.0 x)) ◃ name_and_line ⊲ mark m.Assign ⊛ expression ⊲ mark m.Semicolon

-- [ "else" block ]
unfoldable pub otherwise : Shape (List Stmt)
otherwise = a_word w.Else ⇒ (word w.Else ▹ block) ∣ give []

-- "if" expr block [ "else" block ]
unfoldable pub if_statement : Shape Stmt
if_statement = (λ l x yes no. stmt l (s.If x yes no)) ◃ word w.If ⊛ expression ⊛ block ⊛ otherwise

-- "for" name "in" expr ".." expr block
unfoldable pub for_statement : Shape Stmt
for_statement = (λ l n x y body. stmt l (s.For n x y body)) ◃ word w.For ⊛ name ⊲ word w.In ⊛ expression ⊲ mark m.DotDot ⊛ expression ⊛ block

-- "async" block
unfoldable pub async_statement : Shape Stmt
async_statement = (λ l body. stmt l (s.Async body)) ◃ word w.Async ⊛ block

-- "finish" block
unfoldable pub finish_statement : Shape Stmt
finish_statement = (λ l body. stmt l (s.Finish body)) ◃ word w.Finish ⊛ block

-- "offer" expr ";"
unfoldable pub offer_statement : Shape Stmt
offer_statement = (λ l x. stmt l (s.Offer x)) ◃ word w.Offer ⊛ expression ⊲ mark m.Semicolon

-- "run" name "(" [ expr { "," expr } ] ")" ";"
unfoldable pub run_statement : Shape Stmt
run_statement = (λ l n xs. stmt l (s.Run n xs)) ◃ word w.Run ⊛ name ⊛ called ⊲ mark m.Semicolon

-- "return" expr ";"
unfoldable pub return_statement : Shape Stmt
return_statement = (λ l x. stmt l (s.Return x)) ◃ word w.Return ⊛ expression ⊲ mark m.Semicolon

-- "print" part { "," part } ";"
unfoldable pub print_statement : Shape Stmt
print_statement = (λ l ps. stmt l (s.Print ps)) ◃ word w.Print ⊛ parts ⊲ mark m.Semicolon

-- stmt
unfoldable pub statement : Shape Stmt
statement =
    a_word w.Let ⇒ let_statement
    ∣ ((kind.Name ∷ []) ⇒ assign_statement
    ∣ (a_word w.If ⇒ if_statement
    ∣ (a_word w.For ⇒ for_statement
    ∣ (a_word w.Async ⇒ async_statement
    ∣ (a_word w.Finish ⇒ finish_statement
    ∣ (a_word w.Offer ⇒ offer_statement
    ∣ (a_word w.Run ⇒ run_statement
    ∣ (a_word w.Return ⇒ return_statement
    ∣ print_statement))))))))

-- the first tokens of a statement
abbrev pub a_statement : List TokenKind
a_statement =
    kind.Name ∷ kind.Word w.Let ∷ kind.Word w.If ∷ kind.Word w.For ∷ kind.Word w.Async ∷ kind.Word w.Finish
    ∷ kind.Word w.Offer ∷ kind.Word w.Run ∷ kind.Word w.Return ∷ kind.Word w.Print ∷ []

-- { stmt }
unfoldable pub statements : Shape (List Stmt)
statements = many a_statement statement

-- ---- items, with the line of their last token

abbrev pub item : ℕ → ItemKind → ℕ → Item × ℕ
item line what last = (record { line = line; what = what }, last)

-- a block with the line of its last token
abbrev pub body : Shape (List Stmt × ℕ)
body = nest stmts m.LeftBrace m.RightBrace (λ l xs l'. (xs, l'))

-- an item by its name, its file and its field
abbrev pub Column : Type 0
Column = ByteList → ByteList → ByteList → ItemKind

-- "int" | "text"
unfoldable pub column_type : Shape Column
column_type = words ((w.Int, i.IntColumn) ∷ (w.Text, i.TextColumn) ∷ [])

-- "column" name ":" ("int" | "text") "from" string "field" string ";"
unfoldable pub column_item : Shape (Item × ℕ)
column_item = (λ l n column file field last. item l (column n file field) last) ◃ word w.Column ⊛ name ⊲ mark m.Colon ⊛ column_type ⊲ word w.From ⊛ text ⊲ word w.Field ⊛ text ⊛ mark m.Semicolon

-- "lines" name "from" string ";"
unfoldable pub lines_item : Shape (Item × ℕ)
lines_item = (λ l n file last. item l (i.Lines n file) last) ◃ word w.Lines ⊛ name ⊲ word w.From ⊛ text ⊛ mark m.Semicolon

abbrev pub between_params : Shape (List ByteList)
between_params = between params m.LeftParen m.RightParen

-- "fn" name "(" [ name { "," name } ] ")" block
unfoldable pub function_item : Shape (Item × ℕ)
function_item = (λ l n ps b. item l (i.Function n ps b.0) b.1) ◃ word w.Fn ⊛ name ⊛ between_params ⊛ body

-- "task" name "(" [ name { "," name } ] ")" block
unfoldable pub task_item : Shape (Item × ℕ)
task_item = (λ l n ps b. item l (i.Task n ps b.0) b.1) ◃ word w.Task ⊛ name ⊛ between_params ⊛ body

-- "main" block
unfoldable pub main_item : Shape (Item × ℕ)
main_item = (λ l b. item l (i.Main b.0) b.1) ◃ word w.Main ⊛ body

-- item
unfoldable pub any_item : Shape (Item × ℕ)
any_item =
    a_word w.Column ⇒ column_item
    ∣ (a_word w.Lines ⇒ lines_item
    ∣ (a_word w.Fn ⇒ function_item
    ∣ (a_word w.Task ⇒ task_item
    ∣ main_item)))

-- the first tokens of an item
abbrev pub an_item : List TokenKind
an_item = kind.Word w.Column ∷ kind.Word w.Lines ∷ kind.Word w.Fn ∷ kind.Word w.Task ∷ kind.Word w.Main ∷ []

abbrev pub with_item : Program → Item × ℕ → Program
with_item so_far x = record { items = so_far.items ++ x.0 ∷ []; last_line = x.1 }

-- program = { item }
unfoldable pub program : Shape Program
program = folds an_item with_item (give (record { items = []; last_line = 1 })) any_item

-- ---- what stands between brackets

-- name "," expr
unfoldable pub place : Shape (ByteList × Expr)
place = (λ n x. (n, x)) ◃ name ⊲ mark m.Comma ⊛ expression

-- name "," expr "," expr
unfoldable pub two_places : Shape (ByteList × Expr × Expr)
two_places = (λ n x y. (n, x, y)) ◃ name ⊲ mark m.Comma ⊛ expression ⊲ mark m.Comma ⊛ expression

-- name "," expr "," string
unfoldable pub place_text : Shape (ByteList × Expr × ByteList)
place_text = (λ n x y. (n, x, y)) ◃ name ⊲ mark m.Comma ⊛ expression ⊲ mark m.Comma ⊛ text

abbrev pub grammar : (rule : Nonterminal) → Shape (NonterminalValue rule)
grammar expr = expression
grammar args = arguments
grammar params = parameters
grammar stmts = statements
grammar a_name = name
grammar name_place = place
grammar name_two_places = two_places
grammar name_place_text = place_text
