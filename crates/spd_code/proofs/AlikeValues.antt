-- Expressions have the same values by names and by places.
use Rattle.std.proofs.Common.{◌≡◌, ℕ, List, [], ◌∷◌, refl, sym, ◌∙◌, ap, subst, Result, Ok}
use Rattle.std.specs.Prelude.{map}
use Rattle.spd_syntax.specs.declared.tree.Expr.{Expr}
use Rattle.spd_syntax.specs.declared.tree.Expr as E
use Rattle.spd_syntax.specs.declared.tree.Expr.TheOpen.{Expr-F}
use Rattle.spd_syntax.specs.declared.tree.PrintPart.{PrintPart}
use Rattle.spd_syntax.specs.declared.tree.PrintPart.TheVariants as part
use Rattle.spd_code.specs.declared.expr.CodeExpr.{CodeExpr}
use Rattle.spd_code.specs.declared.expr.CodeExpr as C
use Rattle.spd_meaning.specs.Names.{Name, Env}
use Rattle.spd_code.specs.Resolved.{Spaces, expression_step, expression_code, part_code}
use Rattle.spd_meaning.specs.Values.{ValueOrFault, Around, ColumnView, with_operand, apply_unary, operated, entry_number, entry_size, entry_byte, entry_same, entry_begins, decimal}
use Rattle.spd_code.specs.Alike.{names_of, values_of, AroundAlike}
use Rattle.spd_code.specs.Places.{place_of}
use Rattle.spd_code.proofs.Places.{looked}
use Rattle.spd_meaning.specs.Meaning.{value, Value, value_step, part_value}
use Rattle.spd_code.specs.Coded.{code_value, CodeValue, code_value_step, code_part_value}

module _ (spaces : Spaces) (around : Around Name) (numbered : Around ℕ) (h : AroundAlike spaces around numbered) where
  abbrev Same : Expr → Type 0
  Same e = (env : Env) (line : ℕ) → code_value numbered (expression_code spaces (names_of env) e) (values_of env) line ≡ value around e env line

  rolled : (z : Expr-F Expr) (env : Env) (line : ℕ) →
      code_value_step numbered
      (C.map-CodeExpr CodeExpr CodeValue (code_value numbered)
      (expression_step spaces (names_of env) (E.map-Expr Expr CodeExpr (expression_code spaces (names_of env)) z))) (values_of env) line
      ≡ value_step around (E.map-Expr Expr Value (value around) z) env line →
      code_value numbered (expression_code spaces (names_of env) (E.roll-Expr z)) (values_of env) line ≡ value around (E.roll-Expr z) env line
  rolled z env line q =
      ap (λ (c : CodeExpr). code_value numbered c (values_of env) line)
      (E.fold-roll-Expr CodeExpr (λ layer. C.roll-CodeExpr (expression_step spaces (names_of env) layer)) z)
      ∙ ap (λ (v : CodeValue). v (values_of env) line)
      (C.fold-roll-CodeExpr CodeValue (code_value_step numbered)
      (expression_step spaces (names_of env) (E.map-Expr Expr CodeExpr (expression_code spaces (names_of env)) z)))
      ∙ q
      ∙ ap (λ (v : Value). v env line) (sym (E.fold-roll-Expr Value (value_step around) z))

  abbrev coded : Expr → Env → ℕ → ValueOrFault
  coded e env line = code_value numbered (expression_code spaces (names_of env) e) (values_of env) line

  -- whatever is read of an entry of a column
  of_entry : (read : ColumnView → ValueOrFault → ℕ → ValueOrFault) (c : Name) (e : Expr) (env : Env) (line : ℕ) → coded e env line ≡ value around e env line →
      read (numbered.column (place_of spaces.columns c)) (coded e env line) line ≡ read (around.column c) (value around e env line) line
  of_entry read c e env line q = ap (λ (k : ColumnView). read k (coded e env line) line) (h.column c) ∙ ap (λ r. read (around.column c) r line) q

  abbrev With : Type 0
  With = (e : Expr) × Same e

  at_layer : (y : Expr-F With) (env : Env) (line : ℕ) →
      code_value numbered (expression_code spaces (names_of env) (E.roll-Expr (E.map-Expr With Expr (λ e. e.0) y))) (values_of env) line
      ≡ value around (E.roll-Expr (E.map-Expr With Expr (λ e. e.0) y)) env line
  at_layer (Expr-F.Number n) env line = rolled (Expr-F.Number n) env line refl
  at_layer (Expr-F.Var name) env line = rolled (Expr-F.Var name) env line (ap Ok (sym (looked env name)))
  at_layer (Expr-F.Unary op a) env line = rolled (Expr-F.Unary op a.0) env line (ap (λ r. with_operand r (λ v. apply_unary op v line)) (a.1 env line))
  at_layer (Expr-F.Binary op a b) env line = rolled (Expr-F.Binary op a.0 b.0) env line
      (ap (λ r. operated op r (code_value numbered (expression_code spaces (names_of env) b.0) (values_of env) line) line) (a.1 env line)
      ∙ ap (λ r. operated op (value around a.0 env line) r line) (b.1 env line))
  at_layer (Expr-F.Len c) env line = rolled (Expr-F.Len c) env line (ap (λ (k : ColumnView). Ok k.length) (h.column c))
  at_layer (Expr-F.Index c a) env line = rolled (Expr-F.Index c a.0) env line (of_entry entry_number c a.0 env line (a.1 env line))
  at_layer (Expr-F.Size c a) env line = rolled (Expr-F.Size c a.0) env line (of_entry entry_size c a.0 env line (a.1 env line))
  at_layer (Expr-F.At c a b) env line = rolled (Expr-F.At c a.0 b.0) env line
      (of_entry (λ k at at_line. entry_byte k at (coded b.0 env line) at_line) c a.0 env line (a.1 env line)
      ∙ ap (λ r. entry_byte (around.column c) (value around a.0 env line) r line) (b.1 env line))
  at_layer (Expr-F.Same c a text) env line =
      rolled (Expr-F.Same c a.0 text) env line (of_entry (λ k at at_line. entry_same k at text at_line) c a.0 env line (a.1 env line))
  at_layer (Expr-F.Begins c a text) env line =
      rolled (Expr-F.Begins c a.0 text) env line (of_entry (λ k at at_line. entry_begins k at text at_line) c a.0 env line (a.1 env line))

  pub same_value : (e : Expr) → Same e
  same_value = E.ind-Expr Same (λ x y e. subst (λ (z : Expr-F Expr). Same (E.roll-Expr z)) e (at_layer y))

  pub same_values : (es : List Expr) (env : Env) (line : ℕ) →
      map (λ e. code_value numbered e (values_of env) line) (map (expression_code spaces (names_of env)) es) ≡ map (λ e. value around e env line) es
  same_values [] env line = refl
  same_values (e ∷ es) env line =
      ap (λ (r : ValueOrFault). r ∷ map (λ e. code_value numbered e (values_of env) line) (map (expression_code spaces (names_of env)) es))
      (same_value e env line)
      ∙ ap (λ (rs : List ValueOrFault). value around e env line ∷ rs) (same_values es env line)

  same_part : (p : PrintPart) (env : Env) (line : ℕ) → code_part_value numbered (part_code spaces (names_of env) p) (values_of env) line
      ≡ part_value around p env line
  same_part (part.Lit text) env line = refl
  same_part (part.Value e) env line = ap decimal (same_value e env line)

  pub same_parts : (ps : List PrintPart) (env : Env) (line : ℕ) →
      map (λ p. code_part_value numbered p (values_of env) line) (map (part_code spaces (names_of env)) ps) ≡ map (λ p. part_value around p env line) ps
  same_parts [] env line = refl
  same_parts (p ∷ ps) env line =
      ap (λ (r : Result (List ℕ) ℕ). r ∷ map (λ p. code_part_value numbered p (values_of env) line) (map (part_code spaces (names_of env)) ps))
      (same_part p env line)
      ∙ ap (λ (rs : List (Result (List ℕ) ℕ)). part_value around p env line ∷ rs) (same_parts ps env line)
