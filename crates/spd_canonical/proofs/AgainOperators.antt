-- What is spelled as an expression is spelled by its canonical symbols too, on any lines, and they count as its tokens do.
use Rattle.std.proofs.Common.{◌≡◌, ℕ, zero, suc, ◌+◌, ◌-◌, ◌≤◌, ◌==◌, nat_le, Bool, true, false, cond, List, [], ◌∷◌, ◌++◌, map, Some, refl, sym, ◌∙◌, ap, subst, inl, inr, append_assoc, arith, rules}
use Rattle.std.proofs.lemmas.Bool.{leb-true, le-leb, eqb-true}
use Rattle.std.proofs.lemmas.List.{append-nil}
use Rattle.spd_syntax.specs.declared.token.Mark.{Mark}
use Rattle.spd_syntax.specs.declared.token.Word.{Word}
use Rattle.spd_syntax.specs.declared.token.TokenKind.TheVariants as kind
use Rattle.spd_syntax.specs.declared.operators.TheConstants.{OPERATORS}
use Rattle.spd_syntax.specs.declared.tree.BinOp.{BinOp}
use Rattle.spd_syntax.specs.declared.tree.BinOp.TheVariants as b
use Rattle.spd_syntax.specs.declared.tree.Expr.{Expr}
use Rattle.spd_syntax.specs.declared.tree.Expr.TheVariants as e
use Rattle.spd_syntax.specs.Tokens as t
use Rattle.spd_syntax.specs.Tokens.{Symbol, Seen}
use Rattle.spd_syntax.specs.Symbols.{same_mark, same_word, same_kind, kind_of, bytes_of}
use Rattle.spd_syntax.specs.Shape.{Shape, give, seq, either, entry_of, Spelling}
use Rattle.spd_syntax.specs.Operators.{Row, row_in, same_operator}
use Rattle.spd_syntax.specs.Grammar.{top, primary, unary, comparisons, of_level, by_mark, operators, operator, operation, operations, compose, into, behind_operand, at_level, expression}
use Rattle.spd_canonical.specs.Canonical.{in_parens, Printed, printed_of, expression_symbols, operand_symbols, left_of_level, binary_level, binary_mark}
use Rattle.spd_canonical.proofs.Equations.{printed_binary}
use Rattle.spd_canonical.proofs.KindSymbols.{mark_symbol}
use Rattle.spd_canonical.proofs.SameCounts.{SameCounts, same_self, same_as, same_then, same_back, same_both, same_cons, same_parens}
use Rattle.spd_canonical.proofs.Says.{symbols, SpellsSo, Says, says_cut, says_both, says_token, more, says_map, All, all_both, all_give, all_token, all_either, all_folds, all_map, Rows, append_nothing}

-- the shape of what holds together so tightly
abbrev pub shape_at : ℕ → Shape Expr
shape_at zero = primary
shape_at (suc level) = at_level level

abbrev pub Is : Expr → Expr → Type 0
Is x y = y ≡ x

module _ (inner : Spelling) where
  -- ---- from a level to the next

  none_behind : (once : Bool) (level : ℕ) (f : Expr → Expr) (us : List Seen) → SpellsSo inner (behind_operand level) f us
      → SpellsSo inner (operations once (suc level) (behind_operand level) (at_level level)) f us
  none_behind true level f us s = record {
    make = compose f;
    part = λ x. x;
    front = us;
    back = [];
    first =
        record { make = compose; part = f; front = []; back = us; first = (refl, refl); second = s; value = refl; text = refl };
    second = inr (refl, refl);
    value = refl;
    text = append_nothing inner us;
  }
  none_behind false level f us s = record { base = f; front = us; parts = []; first = s; each = tt; value = refl; text = append_nothing inner us }

  raised : (level : ℕ) (x : Expr) (us : List Seen) → SpellsSo inner (shape_at level) x us → SpellsSo inner (shape_at (suc level)) x us
  unfolding unary behind_operand
  raised zero x us s = record {
    make = into x;
    part = λ y. y;
    front = us;
    back = [];
    first =
        record { make = into; part = x; front = []; back = us; first = (refl, refl); second = inr s; value = refl; text = refl };
    second = (refl, refl);
    value = refl;
    text = append_nothing inner us;
  }
  raised (suc level) x us s = record {
    make = s.make;
    part = s.part;
    front = s.front;
    back = s.back;
    first = s.first;
    second =
        none_behind (suc level == comparisons) level s.part s.back s.second;
    value = s.value;
    text = s.text;
  }

  pub raise : (level : ℕ) (P : Expr → Type 0) (ss : List Symbol) → Says inner (shape_at level) P ss → Says inner (shape_at (suc level)) P ss
  raise level P ss h ts e = let x = h ts e in record { value = x.value; fits = x.fits; is = raised level x.value ts x.is }

  -- ---- an operator more

  module _ (level : ℕ) (x : Expr) (g : Expr → Expr) (us vs : List Seen) (r : SpellsSo inner (operation (suc level) (at_level level)) g vs) where
    with_more : (k : ℕ) (s : SpellsSo inner (at_level k) x us) → SpellsSo inner (behind_operand (suc level)) (compose s.part g) (s.back ++ vs)
        → SpellsSo inner (at_level (suc level)) (g x) (us ++ vs)
    with_more k s h =
        let made : s.make ≡ into s.first.part = s.first.value ∙ ap (λ (f : Expr → (Expr → Expr) → Expr). f s.first.part) s.first.first.0 in
        let is : x ≡ s.part s.first.part = s.value ∙ ap (λ (f : (Expr → Expr) → Expr). f s.part) made in
        record {
          make = s.make;
          part = compose s.part g;
          front = s.front;
          back = s.back ++ vs;
          first = s.first;
          second = h;
          value = ap g is ∙ sym (ap (λ (f : (Expr → Expr) → Expr). f (compose s.part g)) made);
          text = ap (λ (zs : List Seen). zs ++ vs) s.text ∙ append_assoc s.front s.back vs;
        }

    grouped : (suc level == comparisons) ≡ false → SpellsSo inner (at_level (suc level)) x us → SpellsSo inner (at_level (suc level)) (g x) (us ++ vs)
    unfolding behind_operand
    grouped once s = with_more (suc level) s (by_test (suc level == comparisons) once s.second)
      where
        by_test : (once : Bool) → once ≡ false → SpellsSo inner (operations once (suc level) (behind_operand level) (at_level level)) s.part s.back
            → SpellsSo inner (operations once (suc level) (behind_operand level) (at_level level)) (compose s.part g) (s.back ++ vs)
        by_test true e h = absurd cc
        by_test false e h = more inner compose (SpellsSo inner (behind_operand level)) (SpellsSo inner (operation (suc level) (at_level level))) s.part g
            s.back vs h r

    compared : (suc level == comparisons) ≡ true → SpellsSo inner (at_level level) x us → SpellsSo inner (at_level (suc level)) (g x) (us ++ vs)
    unfolding behind_operand
    compared once s = with_more level s (by_test (suc level == comparisons) once)
      where
        by_test : (once : Bool) → once ≡ true → SpellsSo inner (operations once (suc level) (behind_operand level) (at_level level)) (compose s.part g)
            (s.back ++ vs)
        by_test false e = absurd cc
        by_test true e = record {
          make = compose s.part;
          part = g;
          front = s.back;
          back = vs;
          first =
              record { make = compose; part = s.part; front = []; back = s.back; first = (refl, refl); second = s.second; value = refl; text = refl };
          second = inl r;
          value = refl;
          text = refl;
        }

  says_operation : (level : ℕ) (op : BinOp) (y : Expr) (ss : List Symbol)
      → entry_of (kind.Mark (binary_mark op)) (map by_mark (of_level level OPERATORS)) ≡ Some (λ bytes line. op) → (q : Shape Expr) → Says inner q (Is y) ss
      → Says inner (operation level q) (λ g. (x : Expr) → g x ≡ e.Binary op x y) (t.mark (binary_mark op) ∷ ss)
  unfolding operation operator
  says_operation level op y ss row q h =
      says_both inner (seq (give (λ op y x. e.Binary op x y)) (operator level)) q _ (Is y) (t.mark (binary_mark op) ∷ []) ss
      (says_map inner (λ op y x. e.Binary op x y) (operator level) _ (λ o. o ≡ op) (t.mark (binary_mark op) ∷ []) (λ o same z eq x. rw (same, eq) refl)
      (says_token inner (map by_mark (of_level level OPERATORS)) (λ o. o ≡ op) (t.mark (binary_mark op)) (λ bytes line. op) row tt (λ l. refl)))
      h

  module _ (level : ℕ) (op : BinOp) (row : entry_of (kind.Mark (binary_mark op)) (map by_mark (of_level (suc level) OPERATORS)) ≡ Some (λ bytes line. op))
      (x y : Expr) (a b : List Symbol) (right : Says inner (at_level level) (Is y) b) where
    says_grouped : (suc level == comparisons) ≡ false → Says inner (at_level (suc level)) (Is x) a
        → Says inner (at_level (suc level)) (Is (e.Binary op x y)) (a ++ t.mark (binary_mark op) ∷ b)
    says_grouped once h =
        says_cut (SpellsSo inner (at_level (suc level))) (Is (e.Binary op x y)) a (t.mark (binary_mark op) ∷ b) (λ us vs k n.
        let l = h us k in
        let r = says_operation (suc level) op y b row (at_level level) right vs n in
        record {
          value = r.value l.value;
          fits = r.fits l.value ∙ ap (λ (z : Expr). e.Binary op z y) l.fits;
          is =
              grouped level l.value r.value us vs r.is once l.is;
        })

    says_compared : (suc level == comparisons) ≡ true → Says inner (at_level level) (Is x) a
        → Says inner (at_level (suc level)) (Is (e.Binary op x y)) (a ++ t.mark (binary_mark op) ∷ b)
    says_compared once h =
        says_cut (SpellsSo inner (at_level (suc level))) (Is (e.Binary op x y)) a (t.mark (binary_mark op) ∷ b) (λ us vs k n.
        let l = h us k in
        let r = says_operation (suc level) op y b row (at_level level) right vs n in
        record {
          value = r.value l.value;
          fits = r.fits l.value ∙ ap (λ (z : Expr). e.Binary op z y) l.fits;
          is =
              compared level l.value r.value us vs r.is once l.is;
        })

  pub says_binary : (op : BinOp) (x y : Expr) (a b : List Symbol) → Says inner (shape_at (left_of_level (binary_level op))) (Is x) a
      → Says inner (shape_at (binary_level op)) (Is y) b → Says inner (shape_at (suc (binary_level op))) (Is (e.Binary op x y))
      (a ++ t.mark (binary_mark op) ∷ b)
  unfolding same_mark same_operator
  says_binary b.Or x y a c h g = says_grouped 4 b.Or refl x y a c g refl h
  says_binary b.And x y a c h g = says_grouped 3 b.And refl x y a c g refl h
  says_binary b.Eq x y a c h g = says_compared 2 b.Eq refl x y a c g refl h
  says_binary b.Ne x y a c h g = says_compared 2 b.Ne refl x y a c g refl h
  says_binary b.Lt x y a c h g = says_compared 2 b.Lt refl x y a c g refl h
  says_binary b.Le x y a c h g = says_compared 2 b.Le refl x y a c g refl h
  says_binary b.Gt x y a c h g = says_compared 2 b.Gt refl x y a c g refl h
  says_binary b.Ge x y a c h g = says_compared 2 b.Ge refl x y a c g refl h
  says_binary b.Add x y a c h g = says_grouped 1 b.Add refl x y a c g refl h
  says_binary b.Sub x y a c h g = says_grouped 1 b.Sub refl x y a c g refl h
  says_binary b.Mul x y a c h g = says_grouped 0 b.Mul refl x y a c g refl h
  says_binary b.Div x y a c h g = says_grouped 0 b.Div refl x y a c g refl h
  says_binary b.Rem x y a c h g = says_grouped 0 b.Rem refl x y a c g refl h

  -- ---- what is said of an expression

  -- its canonical tokens spell it, at its own level
  pub record Own (x : Expr) : Type 0 where
    pub low : (printed_of x).hold ≤ 6
    pub says : Says inner (shape_at (printed_of x).hold) (Is x) (expression_symbols x)

  -- and its tokens where such a level may stand, perhaps with parentheses
  -- and its tokens count as its canonical symbols do
  pub record IsOperand (level : ℕ) (x : Expr) (ss : List Symbol) : Type 0 where
    pub own : Own x
    pub says : Says inner (shape_at level) (Is x) (operand_symbols level (printed_of x))
    pub same : SameCounts ss (expression_symbols x)

  pub own_as : (x : Expr) (p : Printed) → printed_of x ≡ p → p.hold ≤ 6 → Says inner (shape_at p.hold) (Is x) p.symbols → Own x
  own_as x p is low h =
      record {
        low = subst (λ (q : Printed). q.hold ≤ 6) (sym is) low;
        says =
            subst (λ (q : Printed). Says inner (shape_at q.hold) (Is x) q.symbols) (sym is) h;
      }

  raise_to : (more level : ℕ) (P : Expr → Type 0) (ss : List Symbol) → Says inner (shape_at level) P ss → Says inner (shape_at (more + level)) P ss
  raise_to zero level P ss h = let is : level ≡ 0 + level = omega arith in subst (λ (k : ℕ). Says inner (shape_at k) P ss) is h
  raise_to (suc more) level P ss h = let is : suc (more + level) ≡ suc more + level = omega arith in
      subst (λ (k : ℕ). Says inner (shape_at k) P ss) is (raise (more + level) P ss (raise_to more level P ss h))

  pub bare : (level : ℕ) (x : Expr) → Own x → (printed_of x).hold ≤ level → Says inner (shape_at level) (Is x) (expression_symbols x)
  bare level x h le =
      let is : (level - (printed_of x).hold) + (printed_of x).hold ≡ level = omega (arith, le) in
      subst (λ (k : ℕ). Says inner (shape_at k) (Is x) (expression_symbols x)) is
      (raise_to (level - (printed_of x).hold) (printed_of x).hold (Is x) (expression_symbols x) h.says)

  pub says_operand : (level : ℕ) (x : Expr) → Own x → Says inner (shape_at level) (Is x) (in_parens (expression_symbols x))
      → Says inner (shape_at level) (Is x) (operand_symbols level (printed_of x))
  unfolding operand_symbols
  says_operand level x h g = by_test (nat_le (printed_of x).hold level) refl
    where
      by_test : (b : Bool) → nat_le (printed_of x).hold level ≡ b → Says inner (shape_at level) (Is x)
          (cond b (expression_symbols x) (in_parens (expression_symbols x)))
      by_test true e = bare level x h (leb-true (printed_of x).hold level e)
      by_test false e = g

  pub low_operand : (level : ℕ) (x : Expr) (ss : List Symbol) → Own x → (printed_of x).hold ≤ level → SameCounts ss (expression_symbols x)
      → IsOperand level x ss
  unfolding operand_symbols
  low_operand level x ss h le same = let e : nat_le (printed_of x).hold level ≡ true = le-leb (printed_of x).hold level le in
      record { own = h; says = rw e (bare level x h le); same = same }

  pub raise_operand : (level : ℕ) (x : Expr) (ss : List Symbol) → IsOperand level x ss → IsOperand (suc level) x ss
  unfolding operand_symbols
  raise_operand level x ss h = record {
    own = h.own;
    says = by_tests (nat_le (printed_of x).hold level) (nat_le (printed_of x).hold (suc level)) refl refl
        h.says;
    same = h.same;
  }
    where
      by_tests : (b c : Bool) → nat_le (printed_of x).hold level ≡ b → nat_le (printed_of x).hold (suc level) ≡ c
          → Says inner (shape_at level) (Is x) (cond b (expression_symbols x) (in_parens (expression_symbols x)))
          → Says inner (shape_at (suc level)) (Is x) (cond c (expression_symbols x) (in_parens (expression_symbols x)))
      by_tests b true e g k = bare (suc level) x h.own (leb-true (printed_of x).hold (suc level) g)
      by_tests true false e g k = let no = leb-true (printed_of x).hold level e in let yes : nat_le (printed_of x).hold (suc level) ≡ true =
          le-leb (printed_of x).hold (suc level) (omega (arith, no)) in absurd cc
      by_tests false false e g k = raise level (Is x) (in_parens (expression_symbols x)) k

  -- by other symbols that count the same
  pub recount : (level : ℕ) (x : Expr) (ss us : List Symbol) → SameCounts ss us → IsOperand level x us → IsOperand level x ss
  recount level x ss us same h = record { own = h.own; says = h.says; same = same_then ss us (expression_symbols x) same h.same }

  -- parentheses count nothing
  pub operand_counts : (level : ℕ) (p : Printed) → SameCounts (operand_symbols level p) p.symbols
  unfolding operand_symbols
  operand_counts level p = by_test (nat_le p.hold level)
    where
      by_test : (b : Bool) → SameCounts (cond b p.symbols (in_parens p.symbols)) p.symbols
      by_test true = same_self p.symbols
      by_test false = same_parens p.symbols

  -- ---- operators

  level_low : (op : BinOp) → binary_level op ≤ 5
  unfolding same_operator
  level_low b.Or = omega arith
  level_low b.And = omega arith
  level_low b.Eq = omega arith
  level_low b.Ne = omega arith
  level_low b.Lt = omega arith
  level_low b.Le = omega arith
  level_low b.Gt = omega arith
  level_low b.Ge = omega arith
  level_low b.Add = omega arith
  level_low b.Sub = omega arith
  level_low b.Mul = omega arith
  level_low b.Div = omega arith
  level_low b.Rem = omega arith

  -- the tokens of an operator with its operands count as its canonical symbols do
  binary_counts : (op : BinOp) (x y : Expr) (us vs : List Symbol) → SameCounts us (expression_symbols x) → SameCounts vs (expression_symbols y)
      → SameCounts (us ++ t.mark (binary_mark op) ∷ vs) (expression_symbols (e.Binary op x y))
  binary_counts op x y us vs h g =
      let left = operand_symbols (left_of_level (binary_level op)) (printed_of x) in
      let right = operand_symbols (binary_level op) (printed_of y) in
      let whole : (left ++ t.mark (binary_mark op) ∷ []) ++ right ≡ left ++ t.mark (binary_mark op) ∷ right =
      append_assoc left (t.mark (binary_mark op) ∷ []) right in
      same_then (us ++ t.mark (binary_mark op) ∷ vs) (left ++ t.mark (binary_mark op) ∷ right) (expression_symbols (e.Binary op x y))
      (same_both us (t.mark (binary_mark op) ∷ vs) left (t.mark (binary_mark op) ∷ right)
      (same_then us (expression_symbols x) left h (same_back left (expression_symbols x) (operand_counts (left_of_level (binary_level op)) (printed_of x))))
      (same_cons (t.mark (binary_mark op)) vs right (same_then vs (expression_symbols y) right g
      (same_back right (expression_symbols y) (operand_counts (binary_level op) (printed_of y))))))
      (same_as (left ++ t.mark (binary_mark op) ∷ right) (expression_symbols (e.Binary op x y))
      (sym whole ∙ sym (ap (λ (p : Printed). p.symbols) (printed_binary op x y))))

  binary_operand : (level : ℕ) (op : BinOp) (x y : Expr) (us vs : List Symbol) → binary_level op ≡ level → IsOperand (left_of_level level) x us
      → IsOperand level y vs → IsOperand (suc level) (e.Binary op x y) (us ++ t.mark (binary_mark op) ∷ vs)
  binary_operand level op x y us vs is h g =
      let left = operand_symbols (left_of_level (binary_level op)) (printed_of x) in
      let right = operand_symbols (binary_level op) (printed_of y) in
      let says = says_binary op x y left right (subst (λ (k : ℕ). IsOperand (left_of_level k) x us) (sym is) h).says
      (subst (λ (k : ℕ). IsOperand k y vs) (sym is) g).says in
      let own = own_as (e.Binary op x y) _ (printed_binary op x y) (omega (arith, level_low op))
      (subst (λ (ss : List Symbol). Says inner (shape_at (suc (binary_level op))) (Is (e.Binary op x y)) ss)
      (sym (append_assoc left (t.mark (binary_mark op) ∷ []) right)) says) in
      low_operand (suc level) (e.Binary op x y) (us ++ t.mark (binary_mark op) ∷ vs) own
      (let same = ap (λ (p : Printed). p.hold) (printed_binary op x y) in omega (arith, same, is)) (binary_counts op x y us vs h.same g.same)

  -- what is one mark of the table
  abbrev IsMarkOf : ℕ → BinOp → List Symbol → Type 0
  IsMarkOf level op ss = (binary_level op ≡ level) × (ss ≡ t.mark (binary_mark op) ∷ [])

  module _ (level : ℕ) where
    abbrev Fitting : List Row → Type 0
    Fitting [] = Unit {0}
    Fitting (row ∷ rows) = (binary_level row.1 ≡ row.2) × (binary_mark row.1 ≡ row.0) × Fitting rows

    fitting : (rows : List Row) → Fitting rows → Rows inner (IsMarkOf level) (map by_mark (of_level level rows))
    fitting [] h = tt
    fitting (row ∷ rows) h = by_test (row.2 == level) (λ e. h.0 ∙ eqb-true row.2 level e) (fitting rows h.2)
      where
        by_test : (b : Bool) → (b ≡ true → binary_level row.1 ≡ level) → Rows inner (IsMarkOf level) (map by_mark (of_level level rows))
            → Rows inner (IsMarkOf level) (map by_mark (cond b ((kind.Mark row.0, row.1) ∷ of_level level rows) (of_level level rows)))
        by_test true is more = (
          (λ s line same lawful. (
            is refl,
            ap (λ (x : Symbol). x ∷ [])
                (mark_symbol row.0 s same ∙ ap (λ (k : Mark). t.mark k) (sym h.1)),
          )),
          more,
        )
        by_test false is more = more

    all_operator : All inner (operator level) (IsMarkOf level)
    unfolding operator same_operator
    all_operator = all_token inner (map by_mark (of_level level OPERATORS)) _
        (fitting OPERATORS (
          refl,
          refl,
          (
            refl,
            refl,
            (
              refl,
              refl,
              (
                refl,
                refl,
                (refl, refl, (refl, refl, (refl, refl, (refl, refl, (refl, refl, (refl, refl, (refl, refl, (refl, refl, (refl, refl, tt))))))))),
              ),
            ),
          ),
        ))

    all_operation : (q : Shape Expr) → All inner q (IsOperand level) → All inner (operation level q)
        (λ g vs. (x : Expr) (us : List Symbol) → IsOperand (left_of_level level) x us → IsOperand (suc level) (g x) (us ++ vs))
    unfolding operation
    all_operation q h =
        all_both inner (seq (give (λ op y x. e.Binary op x y)) (operator level)) q _ (IsOperand level)
        (all_map inner (λ op y x. e.Binary op x y) (operator level) _ (IsMarkOf level)
        (λ op ss is y vs right x us left. rw (is.1) (binary_operand level op x y us vs is.0 left right)) all_operator)
        h

  abbrev pub Behind : ℕ → (Expr → Expr) → List Symbol → Type 0
  Behind level f vs = (x : Expr) (us : List Symbol) → IsOperand 1 x us → IsOperand (suc level) (f x) (us ++ vs)

  all_operations : (once : Bool) (level : ℕ) → (suc level == comparisons) ≡ once → All inner (behind_operand level) (Behind level)
      → All inner (at_level level) (IsOperand (suc level)) → All inner (operations once (suc level) (behind_operand level) (at_level level))
      (Behind (suc level))
  all_operations true level is h g =
      all_both inner (seq (give compose) (behind_operand level)) (either (operators (suc level)) (operation (suc level) (at_level level)) (give (λ x. x)))
      (Behind (suc level)) (λ k vs. (x : Expr) (us : List Symbol) → IsOperand (suc level) x us → IsOperand (suc (suc level)) (k x) (us ++ vs))
      (all_map inner compose (behind_operand level) _ (Behind level) (λ f vs before k ws after x us one. rw (← append_assoc us vs ws)
      (after (f x) (us ++ vs) (before x us one))) h)
      (all_either inner (operators (suc level)) (operation (suc level) (at_level level)) (give (λ x. x)) _
      (record { of = λ k ts s x us left. (all_operation (suc level) (at_level level) g).of k ts s x us (rw is left) })
      (all_give inner (λ x. x) _ (λ x us left. rw (append-nil us) (raise_operand (suc level) x us left))))
  all_operations false level is h g =
      all_folds inner (operators (suc level)) compose (behind_operand level) (operation (suc level) (at_level level)) (Behind (suc level))
      (λ k vs. (x : Expr) (us : List Symbol) → IsOperand (suc (suc level)) x us → IsOperand (suc (suc level)) (k x) (us ++ vs))
      (record { of = λ f ts s x us one. raise_operand (suc level) (f x) (us ++ symbols ts) (h.of f ts s x us one) })
      (record { of = λ k ts s x us left. (all_operation (suc level) (at_level level) g).of k ts s x us (rw is left) })
      (λ f vs k ws before after x us one. rw (← append_assoc us vs ws) (after (f x) (us ++ vs) (before x us one)))

  module _ (ones : All inner unary (IsOperand 1)) where
    all_level : (level : ℕ) → All inner (behind_operand level) (Behind level) → All inner (at_level level) (IsOperand (suc level))
    all_level level h =
        all_both inner (seq (give into) unary) (behind_operand level) (IsOperand (suc level)) (Behind level)
        (all_map inner into unary _ (IsOperand 1) (λ x us one f vs behind. behind x us one) ones)
        h

    all_behind : (level : ℕ) → All inner (behind_operand level) (Behind level)
    unfolding behind_operand
    all_behind zero = all_give inner (λ x. x) _ (λ x us one. rw (append-nil us) one)
    all_behind (suc level) = all_operations (suc level == comparisons) level refl (all_behind level) (all_level level (all_behind level))

    pub all_expression : All inner expression (IsOperand 6)
    unfolding expression
    all_expression = all_level top (all_behind top)
