-- The faults of an expression: a division by zero or an index out of range, at the line of its statement.
use Rattle.std.proofs.Common.{ℕ, List, [], ◌∷◌, sym, subst, ℤ, Result, Ok, Err, true, false, if◌then◌else◌, Option, Some, None}
use Rattle.std.specs.Prelude.{map}
use Rattle.spd_syntax.specs.declared.tree.UnOp.{UnOp}
use Rattle.spd_syntax.specs.declared.tree.UnOp.TheVariants as u
use Rattle.spd_syntax.specs.declared.tree.BinOp.{BinOp}
use Rattle.spd_syntax.specs.declared.tree.BinOp.TheVariants as b
use Rattle.spd_code.specs.declared.expr.CodeExpr.{CodeExpr}
use Rattle.spd_code.specs.declared.expr.CodeExpr as C
use Rattle.spd_code.specs.declared.expr.CodeExpr.TheOpen.{CodeExpr-F}
use Rattle.spd_code.specs.declared.expr.CodePrintPart.{CodePrintPart}
use Rattle.spd_code.specs.declared.expr.CodePrintPart.TheVariants as part
use Rattle.spd_meaning.specs.Values.{ValueOrFault, Around, division_by_zero, out_of_range, with_operand, is_true, apply_unary, apply_binary, unless_zero, decided, unless_decided, in_range, with_bytes, byte_value, nth, put_first, all_values, decimal, put_before, all_texts}
use Rattle.spd_code.specs.Coded.{CodeValue, code_value, code_value_step, code_part_value}

-- Where it is a fault, its code is such.
abbrev pub OnFault : {A : Type 0} → (ℕ → Type 0) → Result A ℕ → Type 0
OnFault F (Ok x) = Unit {0}
OnFault F (Err c) = F c

module _ (F : ℕ → Type 0) (line : ℕ) (by_zero : F (division_by_zero line)) (beyond : F (out_of_range line)) (around : Around ℕ) where
  -- ---- operators

  operand_faults : (r : ValueOrFault) (f : ℤ → ValueOrFault) → OnFault F r → ((v : ℤ) → OnFault F (f v)) → OnFault F (with_operand r f)
  operand_faults (Ok v) f h k = k v
  operand_faults (Err c) f h k = h

  range_faults : (o : Option ℤ) → OnFault F (in_range o line)
  range_faults (Some v) = tt
  range_faults None = beyond

  bytes_faults : (o : Option (List ℕ)) (next : List ℕ → ValueOrFault) → ((bytes : List ℕ) → OnFault F (next bytes)) → OnFault F (with_bytes o line next)
  bytes_faults (Some bytes) next h = h bytes
  bytes_faults None next h = beyond

  divisor_faults : (d : ℤ) (r : ValueOrFault) → OnFault F r → OnFault F (unless_zero d line r)
  divisor_faults d r h = elim (is_true d) as (λ x. OnFault F (if x then r else Err (division_by_zero line))) [ true ↦ h | false ↦ by_zero ]

  unary_faults : (op : UnOp) (a : ℤ) → OnFault F (apply_unary op a line)
  unary_faults u.Neg a = tt
  unary_faults u.Not a = tt

  binary_faults : (op : BinOp) (a d : ℤ) → OnFault F (apply_binary op a d line)
  binary_faults b.Or a d = tt
  binary_faults b.And a d = tt
  binary_faults b.Eq a d = tt
  binary_faults b.Ne a d = tt
  binary_faults b.Lt a d = tt
  binary_faults b.Le a d = tt
  binary_faults b.Gt a d = tt
  binary_faults b.Ge a d = tt
  binary_faults b.Add a d = tt
  binary_faults b.Sub a d = tt
  binary_faults b.Mul a d = tt
  binary_faults b.Div a d = divisor_faults d _ tt
  binary_faults b.Rem a d = divisor_faults d _ tt

  decided_faults : (o : Option ℤ) (r : ValueOrFault) → OnFault F r → OnFault F (unless_decided o r)
  decided_faults (Some v) r h = tt
  decided_faults None r h = h

  -- ---- expressions

  abbrev Faulting : CodeExpr → Type 0
  Faulting e = (vars : List ℤ) → OnFault F (code_value around e vars line)

  abbrev ExprWith : Type 0
  ExprWith = (e : CodeExpr) × Faulting e

  rolled : (z : CodeExpr-F CodeExpr) →
      ((vars : List ℤ) → OnFault F (code_value_step around (C.map-CodeExpr CodeExpr CodeValue (code_value around) z) vars line)) → Faulting (C.roll-CodeExpr z)
  rolled z h vars = subst (λ (v : CodeValue). OnFault F (v vars line)) (sym (C.fold-roll-CodeExpr CodeValue (code_value_step around) z)) (h vars)

  -- what is read at the value of an expression
  read_at : (a : ExprWith) (vars : List ℤ) (f : ℤ → ValueOrFault) → ((v : ℤ) → OnFault F (f v)) → OnFault F (with_operand (code_value around a.0 vars line) f)
  read_at a vars f h = operand_faults (code_value around a.0 vars line) f (a.1 vars) h

  at_layer : (y : CodeExpr-F ExprWith) → Faulting (C.roll-CodeExpr (C.map-CodeExpr ExprWith CodeExpr (λ e. e.0) y))
  at_layer (CodeExpr-F.Number n) = rolled (CodeExpr-F.Number n) (λ vars. tt)
  at_layer (CodeExpr-F.Var p) = rolled (CodeExpr-F.Var p) (λ vars. tt)
  at_layer (CodeExpr-F.Unary op a) = rolled (CodeExpr-F.Unary op a.0) (λ vars. read_at a vars _ (λ v. unary_faults op v))
  at_layer (CodeExpr-F.Binary op a d) = rolled (CodeExpr-F.Binary op a.0 d.0) (λ vars.
      read_at a vars _ (λ v. decided_faults (decided op v) _ (read_at d vars _ (λ w. binary_faults op v w))))
  at_layer (CodeExpr-F.Len c) = rolled (CodeExpr-F.Len c) (λ vars. tt)
  at_layer (CodeExpr-F.Index c a) = rolled (CodeExpr-F.Index c a.0) (λ vars. read_at a vars _ (λ v. range_faults ((around.column c).number v)))
  at_layer (CodeExpr-F.Size c a) = rolled (CodeExpr-F.Size c a.0) (λ vars. read_at a vars _ (λ v. bytes_faults ((around.column c).text v) _ (λ bytes. tt)))
  at_layer (CodeExpr-F.At c a d) = rolled (CodeExpr-F.At c a.0 d.0) (λ vars.
      read_at a vars _ (λ v. read_at d vars _ (λ w. bytes_faults ((around.column c).text v) _ (λ bytes. range_faults (byte_value (nth bytes w))))))
  at_layer (CodeExpr-F.Same c a text) =
      rolled (CodeExpr-F.Same c a.0 text) (λ vars. read_at a vars _ (λ v. bytes_faults ((around.column c).text v) _ (λ bytes. tt)))
  at_layer (CodeExpr-F.Begins c a text) =
      rolled (CodeExpr-F.Begins c a.0 text) (λ vars. read_at a vars _ (λ v. bytes_faults ((around.column c).text v) _ (λ bytes. tt)))

  pub value_faults : (e : CodeExpr) → Faulting e
  value_faults = C.ind-CodeExpr Faulting (λ x y e. subst (λ (z : CodeExpr-F CodeExpr). Faulting (C.roll-CodeExpr z)) e (at_layer y))

  -- ---- arguments, and the parts of a print

  put_faults : (v : ℤ) (r : Result (List ℤ) ℕ) → OnFault F r → OnFault F (put_first v r)
  put_faults v (Ok vs) h = tt
  put_faults v (Err c) h = h

  first_faults : (r : ValueOrFault) (rs : List ValueOrFault) → OnFault F r → OnFault F (all_values rs) → OnFault F (all_values (r ∷ rs))
  first_faults (Ok v) rs h k = put_faults v (all_values rs) k
  first_faults (Err c) rs h k = h

  pub values_faults : (es : List CodeExpr) (vars : List ℤ) → OnFault F (all_values (map (λ e. code_value around e vars line) es))
  values_faults [] vars = tt
  values_faults (e ∷ es) vars = first_faults (code_value around e vars line) _ (value_faults e vars) (values_faults es vars)

  text_faults : (t : List ℕ) (r : Result (List ℕ) ℕ) → OnFault F r → OnFault F (put_before t r)
  text_faults t (Ok ts) h = tt
  text_faults t (Err c) h = h

  first_text : (r : Result (List ℕ) ℕ) (rs : List (Result (List ℕ) ℕ)) → OnFault F r → OnFault F (all_texts rs) → OnFault F (all_texts (r ∷ rs))
  first_text (Ok t) rs h k = text_faults t (all_texts rs) k
  first_text (Err c) rs h k = h

  decimal_faults : (r : ValueOrFault) → OnFault F r → OnFault F (decimal r)
  decimal_faults (Ok v) h = tt
  decimal_faults (Err c) h = h

  part_faults : (p : CodePrintPart) (vars : List ℤ) → OnFault F (code_part_value around p vars line)
  part_faults (part.Lit text) vars = tt
  part_faults (part.Value e) vars = decimal_faults (code_value around e vars line) (value_faults e vars)

  pub parts_faults : (ps : List CodePrintPart) (vars : List ℤ) → OnFault F (all_texts (map (λ p. code_part_value around p vars line) ps))
  parts_faults [] vars = tt
  parts_faults (p ∷ ps) vars = first_text (code_part_value around p vars line) _ (part_faults p vars) (parts_faults ps vars)
