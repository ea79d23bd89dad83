-- The operators, and what is read of columns. Each takes the line of its statement.
use Rattle.std.specs.Prelude.{ℕ, ◌+◌, ◌*◌, Bool, not, nat_eq, if◌then◌else◌, List, [], ◌∷◌, ◌++◌, length, slice_get, ℤ, pos, negsuc, Result, Ok, Err, Option, Some, None, int_lt, int_le, int_rem}
use Rattle.std.specs.Int.{w64, int_wrapping_add, int_wrapping_sub, int_wrapping_mul, int_wrapping_div, int_wrapping_neg}
use Rattle.std.specs.Ordering.{int_eq}
use Rattle.std.specs.List.{starts_with}
use Rattle.std.specs.Str.{bytes_eq}
use Rattle.std.specs.Fmt.{signed_decimal}
use Rattle.spd_syntax.specs.declared.tree.UnOp.{UnOp}
use Rattle.spd_syntax.specs.declared.tree.UnOp.TheVariants as u
use Rattle.spd_syntax.specs.declared.tree.BinOp.{BinOp}
use Rattle.spd_syntax.specs.declared.tree.BinOp.TheVariants as b
use Rattle.spd_meaning.specs.Eval.{Returned}

-- a value, or the code of a fault
abbrev pub ValueOrFault : Type 0
ValueOrFault = Result ℤ ℕ

-- ---- faults

abbrev pub division_by_zero : ℕ → ℕ
division_by_zero line = line * 8 + 1

abbrev pub out_of_range : ℕ → ℕ
out_of_range line = line * 8 + 2

abbrev pub too_deep : ℕ → ℕ
too_deep line = line * 8 + 3

-- ---- operators

abbrev pub with_operand : ValueOrFault → (ℤ → ValueOrFault) → ValueOrFault
with_operand (Ok value) next = next value
with_operand (Err code) next = Err code

abbrev pub is_true : ℤ → Bool
is_true a = not (int_eq a (pos 0))

abbrev pub truth : Bool → ℤ
truth test = if test then pos 1 else pos 0

-- A result of 64 bits, whose overflow is no fault.
abbrev pub exact : ℤ → ℕ → ValueOrFault
exact wrapped line = Ok wrapped

abbrev pub apply_unary : UnOp → ℤ → ℕ → ValueOrFault
apply_unary u.Neg a line = exact (int_wrapping_neg w64 a) line
apply_unary u.Not a line = Ok (truth (not (is_true a)))

abbrev pub unless_zero : ℤ → ℕ → ValueOrFault → ValueOrFault
unless_zero divisor line quotient = if is_true divisor then quotient else Err (division_by_zero line)

abbrev pub apply_binary : BinOp → ℤ → ℤ → ℕ → ValueOrFault
apply_binary b.Or a b line = Ok (truth (is_true b))
apply_binary b.And a b line = Ok (truth (is_true b))
apply_binary b.Eq a b line = Ok (truth (int_eq a b))
apply_binary b.Ne a b line = Ok (truth (not (int_eq a b)))
apply_binary b.Lt a b line = Ok (truth (int_lt a b))
apply_binary b.Le a b line = Ok (truth (int_le a b))
apply_binary b.Gt a b line = Ok (truth (int_lt b a))
apply_binary b.Ge a b line = Ok (truth (int_le b a))
apply_binary b.Add a b line = exact (int_wrapping_add w64 a b) line
apply_binary b.Sub a b line = exact (int_wrapping_sub w64 a b) line
apply_binary b.Mul a b line = exact (int_wrapping_mul w64 a b) line
apply_binary b.Div a b line = unless_zero b line (exact (int_wrapping_div w64 a b) line)
apply_binary b.Rem a b line = unless_zero b line (Ok (int_rem a b))

-- what the left side alone decides
abbrev pub decided : BinOp → ℤ → Option ℤ
decided b.Or a = if is_true a then Some (pos 1) else None
decided b.And a = if is_true a then None else Some (pos 0)
decided _ a = None

abbrev pub unless_decided : Option ℤ → ValueOrFault → ValueOrFault
unless_decided (Some value) otherwise = Ok value
unless_decided None otherwise = otherwise

-- The left side comes first. Where it decides, the right side isn't evaluated.
abbrev pub operated : BinOp → ValueOrFault → ValueOrFault → ℕ → ValueOrFault
operated op left right line =
    with_operand left (λ a. unless_decided (decided op a) (with_operand right (λ b. apply_binary op a b line)))

-- ---- columns

-- how many entries a column has, the entries of an int column, and the bytes of each entry of a text or lines column
pub record ColumnView : Type 0 where
  pub length : ℤ
  pub number : ℤ → Option ℤ
  pub text : ℤ → Option (List ℕ)

abbrev pub nth : {A : Type 0} → List A → ℤ → Option A
nth xs (pos n) = slice_get xs n
nth xs (negsuc n) = None

abbrev pub in_range : Option ℤ → ℕ → ValueOrFault
in_range (Some value) line = Ok value
in_range None line = Err (out_of_range line)

abbrev pub with_bytes : Option (List ℕ) → ℕ → (List ℕ → ValueOrFault) → ValueOrFault
with_bytes (Some bytes) line next = next bytes
with_bytes None line next = Err (out_of_range line)

abbrev pub byte_value : Option ℕ → Option ℤ
byte_value (Some byte) = Some (pos byte)
byte_value None = None

abbrev pub entry_number : ColumnView → ValueOrFault → ℕ → ValueOrFault
entry_number column at line = with_operand at (λ i. in_range (column.number i) line)

abbrev pub entry_size : ColumnView → ValueOrFault → ℕ → ValueOrFault
entry_size column at line = with_operand at (λ i. with_bytes (column.text i) line (λ bytes. Ok (pos (length bytes))))

-- Both operands are evaluated before an index is tested.
abbrev pub entry_byte : ColumnView → ValueOrFault → ValueOrFault → ℕ → ValueOrFault
entry_byte column at place line =
    with_operand at (λ i. with_operand place (λ j. with_bytes (column.text i) line (λ bytes. in_range (byte_value (nth bytes j)) line)))

abbrev pub entry_same : ColumnView → ValueOrFault → List ℕ → ℕ → ValueOrFault
entry_same column at literal line =
    with_operand at (λ i. with_bytes (column.text i) line (λ bytes. Ok (truth (bytes_eq bytes literal))))

abbrev pub entry_begins : ColumnView → ValueOrFault → List ℕ → ℕ → ValueOrFault
entry_begins column at literal line =
    with_operand at (λ i. with_bytes (column.text i) line (λ bytes. Ok (truth (starts_with nat_eq bytes literal))))

-- ---- lists of values: from left to right, up to the first fault

abbrev pub put_first : ℤ → Result (List ℤ) ℕ → Result (List ℤ) ℕ
put_first value (Ok values) = Ok (value ∷ values)
put_first value (Err code) = Err code

abbrev pub all_values : List ValueOrFault → Result (List ℤ) ℕ
all_values [] = Ok []
all_values (Ok value ∷ others) = put_first value (all_values others)
all_values (Err code ∷ others) = Err code

-- ---- texts of a print

abbrev pub decimal : ValueOrFault → Result (List ℕ) ℕ
decimal (Ok value) = Ok (signed_decimal value)
decimal (Err code) = Err code

abbrev pub put_before : List ℕ → Result (List ℕ) ℕ → Result (List ℕ) ℕ
put_before text (Ok texts) = Ok (text ++ texts)
put_before text (Err code) = Err code

abbrev pub all_texts : List (Result (List ℕ) ℕ) → Result (List ℕ) ℕ
all_texts [] = Ok []
all_texts (Ok text ∷ others) = put_before text (all_texts others)
all_texts (Err code ∷ others) = Err code

-- ---- what stands around statements

-- what a call of a function and a run of a task give with these arguments at this line
pub record Callees (Name : Type 0) : Type 0 where
  pub function : Name → List ℤ → ℕ → Returned
  pub task : Name → List ℤ → ℕ → Returned

-- where 256 calls are open
abbrev pub no_more : {Name : Type 0} → Callees Name
no_more = record {
  function = λ name args line. record { value = Err (too_deep line); given = [] };
  task = λ name args line. record { value = Err (too_deep line); given = [] };
}

pub record Around (Name : Type 0) : Type 0 where
  pub column : Name → ColumnView
  pub calls : Callees Name
