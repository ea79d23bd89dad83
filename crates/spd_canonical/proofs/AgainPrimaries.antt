-- Primaries, and what stands between brackets: spelled again by their canonical symbols.
use Rattle.std.proofs.Common.{◌≡◌, ℕ, ◌<◌, ◌^◌, pos, ◌≤◌, true, List, [], ◌∷◌, map, flat_map, refl, sym, ◌∙◌, ap, subst, inl, inr, arith}
use Rattle.std.specs.Fmt.{decimal}
use Rattle.spd_syntax.specs.declared.token.Word.TheVariants as w
use Rattle.spd_syntax.specs.declared.token.Mark.TheVariants as m
use Rattle.spd_syntax.specs.declared.token.Mark.{Mark}
use Rattle.spd_syntax.specs.declared.token.Word.{Word}
use Rattle.spd_syntax.specs.declared.token.TokenKind.TheVariants as kind
use Rattle.spd_syntax.specs.declared.tree.UnOp.{UnOp}
use Rattle.spd_syntax.specs.declared.tree.UnOp.TheVariants as u
use Rattle.spd_syntax.specs.declared.tree.Expr.{Expr}
use Rattle.spd_syntax.specs.declared.tree.Expr.TheVariants as e
use Rattle.spd_syntax.specs.Tokens as t
use Rattle.spd_syntax.specs.Tokens.{Symbol, Seen}
use Rattle.spd_syntax.specs.Symbols.{same_mark, same_word, bytes_of, value_of, greatest_literal, unquoted, IsName, IsQuoted, IsLawfulSymbol}
use Rattle.spd_syntax.specs.Shape.{ByteList, expr, args, params, stmts, a_name, name_place, name_two_places, name_place_text, token, give, nest, Nonterminal, NonterminalValue, Spelling}
use Rattle.spd_syntax.specs.Shapes.{◌◃◌, ◌▹◌, a_word, a_mark, word, mark, name, text, between}
use Rattle.spd_syntax.specs.Grammar.{place, len_of, size_of, at_of, same_of, begins_of, literal, behind_name, name_led, parens, nameless, primary, unary_operator, signed, a_sign, unary, into, behind_operand, at_level, expression}
use Rattle.spd_canonical.specs.Canonical.{between_marks, in_parens, with_comma, quoted_text, Printed, printed_of, expression_symbols, operand_symbols, unary_mark, primary_printed, word_symbols, name_symbols, lit_symbols, index_symbols, place_symbols, with_commas}
use Rattle.spd_syntax.specs.Limits.{counts_with}
use Rattle.spd_canonical.proofs.Equations.{printed_number, printed_var, printed_unary, printed_len, printed_index, printed_size, printed_at, printed_same, printed_begins}
use Rattle.spd_canonical.proofs.Lawful.{value_decimal, decimal_lawful, unquoted_quoted, quoted_again}
use Rattle.spd_canonical.proofs.SameCounts.{SameCounts, same_self, same_as, same_then, same_back, same_cons, same_between, same_parens}
use Rattle.spd_canonical.proofs.Says.{symbols, says_as, SaysBy, SpellsSo, Says, says_skip, says_nest, says_both, says_give, says_token, says_first, says_second, says_map, All, all_skip, all_nest, all_both, all_give, all_token, all_either, all_map, append_nothing}
use Rattle.spd_syntax.specs.declared.tree.Stmt.{Stmt}
use Rattle.spd_canonical.specs.Canonical.{statement_symbols}
use Rattle.spd_canonical.proofs.Alike.{AlikeBlock}
use Rattle.spd_canonical.proofs.KindSymbols.{word_symbol, mark_symbol, name_symbol, number_symbol, lit_symbol}
use Rattle.spd_canonical.proofs.AgainOperators.{Is, Own, IsOperand, own_as, bare, says_operand, low_operand, raise_operand, operand_counts, all_expression}

-- ---- counts of one symbol

same_numbers : (a b : List ℕ) → SameCounts (t.number a ∷ []) (t.number b ∷ [])
unfolding counts_with
same_numbers a b = record { is = λ c. refl }

pub same_lits : (a b : List ℕ) → SameCounts (t.lit a ∷ []) (t.lit b ∷ [])
unfolding counts_with
same_lits a b = record { is = λ c. refl }

-- what stands between brackets
abbrev pub symbols_in : (rule : Nonterminal) → NonterminalValue rule → List Symbol
symbols_in expr x = expression_symbols x
symbols_in a_name n = name_symbols n
symbols_in name_place v = place_symbols v.0 (expression_symbols v.1)
symbols_in name_two_places v = with_comma (place_symbols v.0 (expression_symbols v.1)) (expression_symbols v.2)
symbols_in name_place_text v = with_comma (place_symbols v.0 (expression_symbols v.1)) (lit_symbols v.2)
symbols_in args xs = with_commas expression_symbols xs
symbols_in params ns = with_commas name_symbols ns
symbols_in stmts xs = flat_map (λ ss. ss) (map statement_symbols xs)

module _ (inner : Spelling) where
  -- ---- tokens

  abbrev pub Any : {A : Type 0} → A → Type 0
  Any x = Unit {0}

  abbrev pub IsNamed : ByteList → List Symbol → Type 0
  IsNamed n ss = IsName n × (ss ≡ name_symbols n)

  -- a string with its symbol
  pub record IsText (z : ByteList) (ss : List Symbol) : Type 0 where
    pub lawful : IsQuoted (quoted_text z)
    pub same : SameCounts ss (lit_symbols z)

  abbrev pub IsWord : Word → ℕ → List Symbol → Type 0
  IsWord which l ss = ss ≡ t.word which ∷ []

  abbrev pub IsMark : Mark → ℕ → List Symbol → Type 0
  IsMark which l ss = ss ≡ t.mark which ∷ []

  pub all_name : All inner name IsNamed
  all_name = all_token inner ((kind.Name, λ bytes line. bytes) ∷ []) IsNamed
      ((λ s line same lawful. (subst (λ (x : Symbol). IsLawfulSymbol x) (name_symbol s same) lawful, ap (λ (x : Symbol). x ∷ []) (name_symbol s same))), tt)

  pub all_text : All inner text IsText
  all_text = all_token inner ((kind.Lit, λ bytes line. unquoted bytes) ∷ []) IsText (
    (λ s line same lawful. record {
      lawful = quoted_again (bytes_of s) (subst (λ (x : Symbol). IsLawfulSymbol x) (lit_symbol s same) lawful);
      same = same_then (s ∷ []) (t.lit (bytes_of s) ∷ []) (lit_symbols (unquoted (bytes_of s)))
          (same_as (s ∷ []) (t.lit (bytes_of s) ∷ []) (ap (λ (x : Symbol). x ∷ []) (lit_symbol s same)))
          (same_lits (bytes_of s) (quoted_text (unquoted (bytes_of s))));
    }),
    tt,
  )

  pub all_word : (which : Word) → All inner (word which) (IsWord which)
  all_word which = all_token inner ((kind.Word which, λ bytes line. line) ∷ []) (IsWord which)
      ((λ s line same lawful. ap (λ (x : Symbol). x ∷ []) (word_symbol which s same)), tt)

  pub all_mark : (which : Mark) → All inner (mark which) (IsMark which)
  all_mark which = all_token inner ((kind.Mark which, λ bytes line. line) ∷ []) (IsMark which)
      ((λ s line same lawful. ap (λ (x : Symbol). x ∷ []) (mark_symbol which s same)), tt)

  pub says_name : (n : ByteList) → IsName n → Says inner name (λ o. o ≡ n) (name_symbols n)
  says_name n lawful = says_token inner ((kind.Name, λ bytes line. bytes) ∷ []) (λ o. o ≡ n) (t.name n) (λ bytes line. bytes) refl lawful (λ l. refl)

  pub says_word : (which : Word) → same_word which which ≡ true → Says inner (word which) Any (t.word which ∷ [])
  says_word which is = says_token inner ((kind.Word which, λ bytes line. line) ∷ []) Any (t.word which) (λ bytes line. line) (rw is refl) tt (λ l. tt)

  pub says_mark : (which : Mark) → same_mark which which ≡ true → Says inner (mark which) Any (t.mark which ∷ [])
  says_mark which is = says_token inner ((kind.Mark which, λ bytes line. line) ∷ []) Any (t.mark which) (λ bytes line. line) (rw is refl) tt (λ l. tt)

  pub says_text : (z : ByteList) → IsQuoted (quoted_text z) → Says inner text (λ o. o ≡ z) (lit_symbols z)
  says_text z lawful = says_token inner ((kind.Lit, λ bytes line. unquoted bytes) ∷ []) (λ o. o ≡ z) (t.lit (quoted_text z)) (λ bytes line. unquoted bytes)
      refl lawful (λ l. unquoted_quoted z)

  -- ---- primaries

  plain_operand : (x : Expr) (ss us : List Symbol) → printed_of x ≡ primary_printed ss → Says inner primary (Is x) ss → SameCounts us ss
      → IsOperand inner 0 x us
  plain_operand x ss us is h same =
      low_operand inner 0 x us (own_as inner x (primary_printed ss) is (omega arith) h) (let k = ap (λ (p : Printed). p.hold) is in omega (arith, k))
      (same_then us ss (expression_symbols x) same (same_as ss (expression_symbols x) (sym (ap (λ (p : Printed). p.symbols) is))))

  -- what stands between brackets is spelled by its canonical symbols
  abbrev pub Inside : (rule : Nonterminal) → NonterminalValue rule → Type 0
  Inside rule x = SaysBy (inner rule) (λ y. y ≡ x) (symbols_in rule x)

  pub record Kept (rule : Nonterminal) (x : NonterminalValue rule) (ss : List Symbol) : Type 0 where
    pub says : Inside rule x
    pub same : SameCounts ss (symbols_in rule x)

  -- statements are but for their lines
  pub record KeptBlock (xs : List Stmt) (ss : List Symbol) : Type 0 where
    pub says : SaysBy (inner stmts) (AlikeBlock xs) (symbols_in stmts xs)
    pub same : SameCounts ss (symbols_in stmts xs)

  abbrev pub Good : (rule : Nonterminal) → NonterminalValue rule → List Symbol → Type 0
  Good expr x ss = Own inner x × Kept expr x ss
  Good a_name x ss = Kept a_name x ss
  Good name_place x ss = Kept name_place x ss
  Good name_two_places x ss = Kept name_two_places x ss
  Good name_place_text x ss = Kept name_place_text x ss
  Good args x ss = Kept args x ss
  Good params x ss = Kept params x ss
  Good stmts x ss = KeptBlock x ss

  says_nameless : (x : Expr) (ss : List Symbol) → Says inner nameless (Is x) ss → Says inner primary (Is x) ss
  unfolding primary
  says_nameless x ss h = says_second inner (kind.Name ∷ []) name_led nameless (Is x) ss h

  number_operand : (n : ℕ) (us : List Symbol) → n ≤ greatest_literal → SameCounts us (t.number (decimal n) ∷ []) → IsOperand inner 0 (e.Number (pos n)) us
  unfolding nameless literal
  number_operand n us small same = plain_operand (e.Number (pos n)) (t.number (decimal n) ∷ []) us (printed_number (pos n))
      (says_nameless (e.Number (pos n)) (t.number (decimal n) ∷ []) says) same
    where
      fits : n < 2 ^ 64
      fits = omega (arith, small)

      says : Says inner nameless (Is (e.Number (pos n))) (t.number (decimal n) ∷ [])
      says = says_as inner (token ((kind.Number, λ bytes line. e.Number (pos (value_of bytes))) ∷ [])) nameless (Is (e.Number (pos n)))
          (t.number (decimal n) ∷ []) (λ x us k. inl k)
          (says_token inner ((kind.Number, λ bytes line. e.Number (pos (value_of bytes))) ∷ []) (Is (e.Number (pos n))) (t.number (decimal n))
          (λ bytes line. e.Number (pos (value_of bytes))) refl
          (decimal_lawful n fits, rw (value_decimal n fits) small) (λ l. ap (λ (k : ℕ). e.Number (pos k)) (value_decimal n fits)))

  says_named : (x : Expr) (n : ByteList) (ss : List Symbol) → IsName n → Says inner behind_name (λ f. f n ≡ x) ss → Says inner primary (Is x) (t.name n ∷ ss)
  unfolding primary name_led
  says_named x n ss lawful h =
      says_first inner (kind.Name ∷ []) name_led nameless (Is x) (t.name n ∷ ss)
      (says_both inner ((λ n f. f n) ◃ name) behind_name (Is x) (λ f. f n ≡ x) (t.name n ∷ []) ss
      (says_map inner (λ n f. f n) name _ (λ o. o ≡ n) (t.name n ∷ []) (λ o is f same. ap f is ∙ same) (says_name n lawful))
      h)

  var_operand : (n : ByteList) → IsName n → IsOperand inner 0 (e.Var n) (t.name n ∷ [])
  unfolding behind_name
  var_operand n lawful = plain_operand (e.Var n) (t.name n ∷ []) (t.name n ∷ []) (printed_var n) (says_named (e.Var n) n [] lawful says)
      (same_self (t.name n ∷ []))
    where
      says : Says inner behind_name (λ f. f n ≡ e.Var n) []
      says = says_second inner (a_mark m.LeftBracket) (nest expr m.LeftBracket m.RightBracket (λ l x l' n. e.Index n x)) (give e.Var) _ []
          (says_give inner e.Var _ refl)

  index_operand : (n : ByteList) (x : Expr) (us : List Symbol) → IsName n → Kept expr x us
      → IsOperand inner 0 (e.Index n x) (t.name n ∷ between_marks m.LeftBracket m.RightBracket us)
  unfolding behind_name
  index_operand n x us lawful h =
      plain_operand (e.Index n x) (index_symbols n (expression_symbols x)) (t.name n ∷ between_marks m.LeftBracket m.RightBracket us) (printed_index n x)
      (says_named (e.Index n x) n (between_marks m.LeftBracket m.RightBracket (expression_symbols x)) lawful says)
      (same_cons (t.name n) (between_marks m.LeftBracket m.RightBracket us) (between_marks m.LeftBracket m.RightBracket (expression_symbols x))
      (same_between m.LeftBracket m.RightBracket us (expression_symbols x) h.same))
    where
      says : Says inner behind_name (λ f. f n ≡ e.Index n x) (between_marks m.LeftBracket m.RightBracket (expression_symbols x))
      says = says_first inner (a_mark m.LeftBracket) (nest expr m.LeftBracket m.RightBracket (λ l x l' n. e.Index n x)) (give e.Var) _
          (between_marks m.LeftBracket m.RightBracket (expression_symbols x))
          (says_nest inner expr m.LeftBracket m.RightBracket (λ l x l' n. e.Index n x) _ (Is x) (expression_symbols x) h.says
          (λ l y l' is. ap (λ (z : Expr). e.Index n z) is))

  paren_operand : (x : Expr) (us : List Symbol) → Good expr x us → IsOperand inner 0 x (in_parens us)
  unfolding nameless parens
  paren_operand x us h = record {
    own = h.0;
    says = says_operand inner 0 x h.0 (says_nameless x (in_parens (expression_symbols x)) says);
    same =
        same_then (in_parens us) us (expression_symbols x) (same_parens us) h.1.same;
  }
    where
      says : Says inner nameless (Is x) (in_parens (expression_symbols x))
      says = says_as inner (between expr m.LeftParen m.RightParen) nameless (Is x) (in_parens (expression_symbols x))
          (λ y us k. inr (inr (inr (inr (inr (inr k)))))) (says_nest inner expr m.LeftParen m.RightParen (λ l x l'. x) (Is x) (Is x) (expression_symbols x)
          h.1.says (λ l y l' is. is))

  says_called : (which : Word) → same_word which which ≡ true → (rule : Nonterminal) (x : NonterminalValue rule) → Inside rule x
      → Says inner (word which ▹ between rule m.LeftParen m.RightParen) (λ y. y ≡ x) (word_symbols which (symbols_in rule x))
  says_called which same rule x h =
      says_skip inner (word which) (between rule m.LeftParen m.RightParen) (λ y. y ≡ x) (t.word which ∷ []) (in_parens (symbols_in rule x))
      (says_word which same)
      (says_nest inner rule m.LeftParen m.RightParen (λ l x l'. x) (λ y. y ≡ x) (λ y. y ≡ x) (symbols_in rule x) h (λ l y l' is. is))

  call_operand : (which : Word) → same_word which which ≡ true → (rule : Nonterminal) (f : NonterminalValue rule → Expr) (x : NonterminalValue rule)
      (us : List Symbol) → printed_of (f x) ≡ primary_printed (word_symbols which (symbols_in rule x)) → Kept rule x us
      → ((y : Expr) (us : List Seen) → SpellsSo inner (f ◃ (word which ▹ between rule m.LeftParen m.RightParen)) y us → SpellsSo inner nameless y us)
      → IsOperand inner 0 (f x) (word_symbols which us)
  call_operand which same rule f x us is h place =
      plain_operand (f x) (word_symbols which (symbols_in rule x)) (word_symbols which us) is
      (says_nameless (f x) (word_symbols which (symbols_in rule x))
      (says_as inner (f ◃ (word which ▹ between rule m.LeftParen m.RightParen)) nameless (Is (f x)) (word_symbols which (symbols_in rule x)) place
      (says_map inner f (word which ▹ between rule m.LeftParen m.RightParen) (Is (f x)) (λ y. y ≡ x) (word_symbols which (symbols_in rule x))
      (λ y eq. ap f eq) (says_called which same rule x h.says))))
      (same_cons (t.word which) (in_parens us) (in_parens (symbols_in rule x)) (same_between m.LeftParen m.RightParen us (symbols_in rule x) h.same))

  len_operand : (n : ByteList) (us : List Symbol) → Kept a_name n us → IsOperand inner 0 (e.Len n) (word_symbols w.Len us)
  unfolding nameless len_of same_word
  len_operand n us h = call_operand w.Len refl a_name e.Len n us (printed_len n) h (λ y us k. inr (inl k))

  size_operand : (v : ByteList × Expr) (us : List Symbol) → Kept name_place v us → IsOperand inner 0 (e.Size v.0 v.1) (word_symbols w.Size us)
  unfolding nameless size_of same_word
  size_operand v us h = call_operand w.Size refl name_place (λ x. e.Size x.0 x.1) v us (printed_size v.0 v.1) h (λ y us k. inr (inr (inl k)))

  at_operand : (v : ByteList × Expr × Expr) (us : List Symbol) → Kept name_two_places v us → IsOperand inner 0 (e.At v.0 v.1 v.2) (word_symbols w.At us)
  unfolding nameless at_of same_word
  at_operand v us h = call_operand w.At refl name_two_places (λ x. e.At x.0 x.1 x.2) v us (printed_at v.0 v.1 v.2) h (λ y us k. inr (inr (inr (inl k))))

  same_operand : (v : ByteList × Expr × ByteList) (us : List Symbol) → Kept name_place_text v us
      → IsOperand inner 0 (e.Same v.0 v.1 v.2) (word_symbols w.Same us)
  unfolding nameless same_of same_word
  same_operand v us h = call_operand w.Same refl name_place_text (λ x. e.Same x.0 x.1 x.2) v us (printed_same v.0 v.1 v.2) h
      (λ y us k. inr (inr (inr (inr (inl k)))))

  begins_operand : (v : ByteList × Expr × ByteList) (us : List Symbol) → Kept name_place_text v us
      → IsOperand inner 0 (e.Begins v.0 v.1 v.2) (word_symbols w.Begins us)
  unfolding nameless begins_of same_word
  begins_operand v us h = call_operand w.Begins refl name_place_text (λ x. e.Begins x.0 x.1 x.2) v us (printed_begins v.0 v.1 v.2) h
      (λ y us k. inr (inr (inr (inr (inr (inl k))))))

  unary_operand : (op : UnOp) (x : Expr) (us : List Symbol) → IsOperand inner 0 x us → IsOperand inner 1 (e.Unary op x) (t.mark (unary_mark op) ∷ us)
  unfolding unary signed unary_operator same_mark behind_operand
  unary_operand op x us h =
      low_operand inner 1 (e.Unary op x) (t.mark (unary_mark op) ∷ us) (own_as inner (e.Unary op x) _ (printed_unary op x) (omega arith)
      (raised_unary (says_first inner a_sign signed primary (Is (e.Unary op x)) (t.mark (unary_mark op) ∷ operand_symbols 0 (printed_of x))
      (says_both inner (e.Unary ◃ unary_operator) primary (Is (e.Unary op x)) (Is x) (t.mark (unary_mark op) ∷ []) (operand_symbols 0 (printed_of x))
      (says_map inner e.Unary unary_operator _ (λ o. o ≡ op) (t.mark (unary_mark op) ∷ []) (λ o same z eq. rw (same, eq) refl) (says_sign op))
      h.says))))
      (let same = ap (λ (p : Printed). p.hold) (printed_unary op x) in omega (arith, same))
      (same_then (t.mark (unary_mark op) ∷ us) (t.mark (unary_mark op) ∷ operand_symbols 0 (printed_of x)) (expression_symbols (e.Unary op x))
      (same_cons (t.mark (unary_mark op)) us (operand_symbols 0 (printed_of x))
      (same_then us (expression_symbols x) (operand_symbols 0 (printed_of x)) h.same
      (same_back (operand_symbols 0 (printed_of x)) (expression_symbols x) (operand_counts inner 0 (printed_of x)))))
      (same_as (t.mark (unary_mark op) ∷ operand_symbols 0 (printed_of x)) (expression_symbols (e.Unary op x))
      (sym (ap (λ (p : Printed). p.symbols) (printed_unary op x)))))
    where
      says_sign : (op : UnOp) → Says inner unary_operator (λ o. o ≡ op) (t.mark (unary_mark op) ∷ [])
      says_sign u.Neg = says_token inner ((kind.Mark m.Minus, λ bytes line. u.Neg) ∷ (kind.Mark m.Not, λ bytes line. u.Not) ∷ []) (λ o. o ≡ u.Neg)
          (t.mark m.Minus) (λ bytes line. u.Neg) refl tt (λ l. refl)
      says_sign u.Not = says_token inner ((kind.Mark m.Minus, λ bytes line. u.Neg) ∷ (kind.Mark m.Not, λ bytes line. u.Not) ∷ []) (λ o. o ≡ u.Not)
          (t.mark m.Not) (λ bytes line. u.Not) refl tt (λ l. refl)

      raised_unary : Says inner unary (Is (e.Unary op x)) (t.mark (unary_mark op) ∷ operand_symbols 0 (printed_of x))
          → Says inner (at_level 0) (Is (e.Unary op x)) (t.mark (unary_mark op) ∷ operand_symbols 0 (printed_of x))
      raised_unary h ts eq = let y = h ts eq in record {
        value = y.value;
        fits = y.fits;
        is =
            record {
              make = into y.value;
              part = λ z. z;
              front = ts;
              back = [];
              first =
                  record { make = into; part = y.value; front = []; back = ts; first = (refl, refl); second = y.is; value = refl; text = refl };
              second =
                  (refl, refl);
              value = refl;
              text = append_nothing inner ts;
            };
      }

  -- ---- what spelled expressions are made of

  all_unary_operator : All inner unary_operator (λ op ss. ss ≡ t.mark (unary_mark op) ∷ [])
  unfolding unary_operator
  all_unary_operator = all_token inner ((kind.Mark m.Minus, λ bytes line. u.Neg) ∷ (kind.Mark m.Not, λ bytes line. u.Not) ∷ [])
      (λ op ss. ss ≡ t.mark (unary_mark op) ∷ []) (
        (λ s line same lawful. ap (λ (x : Symbol). x ∷ []) (mark_symbol m.Minus s same)),
        ((λ s line same lawful. ap (λ (x : Symbol). x ∷ []) (mark_symbol m.Not s same)), tt),
      )

  module _ (good : (rule : Nonterminal) (x : NonterminalValue rule) (us : List Seen) → inner rule x us → Good rule x (symbols us)) where
    all_called : (which : Word) (rule : Nonterminal) (f : NonterminalValue rule → Expr)
        → ((x : NonterminalValue rule) (us : List Symbol) → Good rule x us → IsOperand inner 0 (f x) (word_symbols which us))
        → All inner (f ◃ (word which ▹ between rule m.LeftParen m.RightParen)) (IsOperand inner 0)
    all_called which rule f make =
        all_map inner f (word which ▹ between rule m.LeftParen m.RightParen) (IsOperand inner 0) (λ x us. IsOperand inner 0 (f x) us) (λ x us h. h)
        (all_skip inner (word which) (between rule m.LeftParen m.RightParen) (λ x us. IsOperand inner 0 (f x) us) (IsWord which)
        (λ x us. IsOperand inner 0 (f x) (t.word which ∷ us)) (λ l us x vs is h. rw is h)
        (all_word which)
        (all_nest inner rule m.LeftParen m.RightParen (λ l x l'. x) (λ x us. IsOperand inner 0 (f x) (t.word which ∷ us)) (Good rule) (good rule)
        (λ l x l' us g. make x us g)))

    all_behind_name : All inner behind_name (λ f us. (n : ByteList) → IsName n → IsOperand inner 0 (f n) (t.name n ∷ us))
    unfolding behind_name
    all_behind_name =
        all_either inner (a_mark m.LeftBracket) (nest expr m.LeftBracket m.RightBracket (λ l x l' n. e.Index n x)) (give e.Var)
        (λ f us. (n : ByteList) → IsName n → IsOperand inner 0 (f n) (t.name n ∷ us))
        (all_nest inner expr m.LeftBracket m.RightBracket (λ l x l' n. e.Index n x)
        (λ f us. (n : ByteList) → IsName n → IsOperand inner 0 (f n) (t.name n ∷ us)) (Good expr) (good expr)
        (λ l x l' us g n lawful. index_operand n x us lawful g.1))
        (all_give inner e.Var (λ f us. (n : ByteList) → IsName n → IsOperand inner 0 (f n) (t.name n ∷ us)) var_operand)

    all_literal : All inner literal (IsOperand inner 0)
    unfolding literal
    all_literal = all_token inner ((kind.Number, λ bytes line. e.Number (pos (value_of bytes))) ∷ []) (IsOperand inner 0) (
      (λ s line same lawful. number_operand (value_of (bytes_of s)) (s ∷ []) (subst (λ (x : Symbol). IsLawfulSymbol x) (number_symbol s same) lawful).1
          (same_then (s ∷ []) (t.number (bytes_of s) ∷ []) (t.number (decimal (value_of (bytes_of s))) ∷ [])
          (same_as (s ∷ []) (t.number (bytes_of s) ∷ []) (ap (λ (x : Symbol). x ∷ []) (number_symbol s same)))
          (same_numbers (bytes_of s) (decimal (value_of (bytes_of s)))))),
      tt,
    )

    pub all_nameless : All inner nameless (IsOperand inner 0)
    unfolding nameless parens len_of size_of at_of same_of begins_of
    all_nameless =
        all_either inner (kind.Number ∷ []) literal _ (IsOperand inner 0) all_literal
        (all_either inner (a_word w.Len) _ _ (IsOperand inner 0) (all_called w.Len a_name e.Len len_operand)
        (all_either inner (a_word w.Size) _ _ (IsOperand inner 0) (all_called w.Size name_place (λ x. e.Size x.0 x.1) size_operand)
        (all_either inner (a_word w.At) _ _ (IsOperand inner 0) (all_called w.At name_two_places (λ x. e.At x.0 x.1 x.2) at_operand)
        (all_either inner (a_word w.Same) _ _ (IsOperand inner 0) (all_called w.Same name_place_text (λ x. e.Same x.0 x.1 x.2) same_operand)
        (all_either inner (a_word w.Begins) _ _ (IsOperand inner 0) (all_called w.Begins name_place_text (λ x. e.Begins x.0 x.1 x.2) begins_operand)
        (all_nest inner expr m.LeftParen m.RightParen (λ l x l'. x) (IsOperand inner 0) (Good expr) (good expr) (λ l x l' us g. paren_operand x us g)))))))

    all_primary : All inner primary (IsOperand inner 0)
    unfolding primary name_led
    all_primary =
        all_either inner (kind.Name ∷ []) name_led nameless (IsOperand inner 0)
        (all_both inner ((λ n f. f n) ◃ name) behind_name (IsOperand inner 0) (λ f us. (n : ByteList) → IsName n → IsOperand inner 0 (f n) (t.name n ∷ us))
        (all_map inner (λ n f. f n) name _ IsNamed (λ n us is f vs h. rw (is.1) (h n is.0)) all_name) all_behind_name)
        all_nameless

    pub all_unary : All inner unary (IsOperand inner 1)
    unfolding unary signed
    all_unary =
        all_either inner a_sign signed primary (IsOperand inner 1)
        (all_both inner (e.Unary ◃ unary_operator) primary (IsOperand inner 1) (IsOperand inner 0)
        (all_map inner e.Unary unary_operator _ (λ op ss. ss ≡ t.mark (unary_mark op) ∷ []) (λ op us is x vs h. rw is (unary_operand op x vs h))
        all_unary_operator) all_primary)
        (record { of = λ x us s. raise_operand inner 0 x (symbols us) (all_primary.of x us s) })

    -- What is spelled as an expression is spelled by its canonical symbols, at its own level.
    pub all_expressions : All inner expression (IsOperand inner 6)
    all_expressions = all_expression inner all_unary

  pub whole : (x : Expr) (ss : List Symbol) → IsOperand inner 6 x ss → Says inner expression (Is x) (expression_symbols x)
  unfolding expression
  whole x ss h = bare inner 6 x h.own h.own.low
