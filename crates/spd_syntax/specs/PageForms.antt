-- The rules of the grammar that are read in another form than the one that a page would print, in that form:
--
-- stmt     = "let" name "=" expr ";"
--          | "let" name "=" name "(" [ expr { "," expr } ] ")" ";"
--          | "let" name "=" "finish" ("sum" | "least" | "greatest") block
-- expr     = and { "||" and }
-- and      = cmp { "&&" cmp }
-- cmp      = sum [ ("==" | "!=" | "<" | "<=" | ">" | ">=") sum ]
-- sum      = prod { ("+" | "-") prod }
-- prod     = unary { ("*" | "/" | "%") unary }
-- unary    = [ "-" | "!" ] primary
-- primary  = number | name | "(" expr ")" | name "[" expr "]" | "len" "(" name ")" | ..
--
-- Both forms spell the same.
use Rattle.std.specs.Prelude.{ℕ, []}
use Rattle.spd_syntax.specs.declared.token.Word.TheVariants as w
use Rattle.spd_syntax.specs.declared.token.Mark.TheVariants as m
use Rattle.spd_syntax.specs.declared.tree.Expr.{Expr}
use Rattle.spd_syntax.specs.declared.tree.Expr.TheVariants as e
use Rattle.spd_syntax.specs.declared.tree.StmtKind.TheVariants as s
use Rattle.spd_syntax.specs.declared.tree.Stmt.{Stmt}
use Rattle.spd_syntax.specs.Shape.{Shape, give, either, folds, expr}
use Rattle.spd_syntax.specs.Shapes.{◌⊛◌, ◌⊲◌, ◌◃◌, word, mark, name, between}
use Rattle.spd_syntax.specs.Grammar.{literal, parens, len_of, size_of, at_of, same_of, begins_of, unary_operator, operation, into, stmt, block, called, collect_kind}

infixr 15 ◌or◌
-- either of two
abbrev pub ◌or◌ : {A : Type 0} → Shape A → Shape A → Shape A
p or q = either [] p q

-- ---- expressions

abbrev pub page_primary : Shape Expr
page_primary =
    literal
    or e.Var ◃ name
    or parens
    or e.Index ◃ name ⊛ between expr m.LeftBracket m.RightBracket
    or len_of
    or size_of
    or at_of
    or same_of
    or begins_of

abbrev pub page_unary : Shape Expr
page_unary = e.Unary ◃ unary_operator ⊛ page_primary or page_primary

-- an operand, and operators of a level with an operand each, any number of times: they group to the left
abbrev pub any_number : ℕ → Shape Expr → Shape Expr
any_number level operand = folds [] into operand (operation level operand)

-- at most once
abbrev pub at_most_once : ℕ → Shape Expr → Shape Expr
at_most_once level operand = into ◃ operand ⊛ (operation level operand or give (λ x. x))

abbrev pub page_prod : Shape Expr
page_prod = any_number 1 page_unary

abbrev pub page_sum : Shape Expr
page_sum = any_number 2 page_prod

abbrev pub page_cmp : Shape Expr
page_cmp = at_most_once 3 page_sum

abbrev pub page_and : Shape Expr
page_and = any_number 4 page_cmp

abbrev pub page_expression : Shape Expr
page_expression = any_number 5 page_and

-- ---- what a `let` binds

abbrev pub page_let : Shape Stmt
page_let =
    (λ l n x. stmt l (s.Let n x)) ◃ word w.Let ⊛ name ⊲ mark m.Assign ⊛ page_expression ⊲ mark m.Semicolon
    or (λ l n f xs. stmt l (s.LetCall n f xs)) ◃ word w.Let ⊛ name ⊲ mark m.Assign ⊛ name ⊛ called ⊲ mark m.Semicolon
    or (λ l n kind body. stmt l (s.LetFinish n kind body)) ◃ word w.Let ⊛ name ⊲ mark m.Assign ⊲ word w.Finish ⊛ collect_kind ⊛ block
