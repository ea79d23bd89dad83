-- The table of operators between two operands, looked up by operator and by mark.
use Rattle.std.specs.Prelude.{ℕ, Bool, false, ◌||◌, if◌then◌else◌, List, [], ◌∷◌}
use denote.Enum.Bare.{sameb}
use Rattle.spd_syntax.specs.contracts.tree.BinOp as ops
use Rattle.spd_syntax.specs.declared.token.Mark.{Mark}
use Rattle.spd_syntax.specs.declared.token.Mark.TheVariants as m
use Rattle.spd_syntax.specs.declared.tree.BinOp.{BinOp}
use Rattle.spd_syntax.specs.Symbols.{same_mark}

-- a mark, its operator and the operator's level
abbrev pub Row : Type 0
Row = Mark × BinOp × ℕ

unfoldable pub same_operator : BinOp → BinOp → Bool
same_operator = sameb ops.the_type

-- the mark and the level of an operator (each has a row, so the first line is never met)
abbrev pub row_in : BinOp → List Row → Mark × ℕ
row_in op [] = (m.Plus, 0)
row_in op (row ∷ rows) = if same_operator row.1 op then (row.0, row.2) else row_in op rows

-- whether a mark is an operator's
abbrev pub has_mark : Mark → List Row → Bool
has_mark which [] = false
has_mark which (row ∷ rows) = same_mark row.0 which || has_mark which rows
