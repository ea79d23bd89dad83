-- Shapes that all grammars use.
use Rattle.std.specs.Prelude.{ℕ, List, [], ◌∷◌, ◌++◌, map}
use Rattle.spd_syntax.specs.declared.token.Word.{Word}
use Rattle.spd_syntax.specs.declared.token.Mark.{Mark}
use Rattle.spd_syntax.specs.declared.token.Mark.TheVariants as m
use Rattle.spd_syntax.specs.declared.token.TokenKind.{TokenKind}
use Rattle.spd_syntax.specs.declared.token.TokenKind.TheVariants as kind
use Rattle.spd_syntax.specs.Symbols.{unquoted}
use Rattle.spd_syntax.specs.Shape.{Shape, token, give, seq, either, folds, nest, Nonterminal, NonterminalValue}

infixl 20 ◌⊛◌
-- one behind the other
abbrev pub ◌⊛◌ : {A B : Type 0} → Shape (B → A) → Shape B → Shape A
p ⊛ q = seq p q

infixl 20 ◌⊲◌
-- one behind the other, of which the second has no value
abbrev pub ◌⊲◌ : {A B : Type 0} → Shape A → Shape B → Shape A
p ⊲ q = seq (seq (give (λ a b. a)) p) q

infixl 25 ◌▹◌
-- one behind the other, of which the first has no value
abbrev pub ◌▹◌ : {A B : Type 0} → Shape B → Shape A → Shape A
p ▹ q = seq (seq (give (λ b a. a)) p) q

infixl 20 ◌◃◌
-- with a value made of the shape's
abbrev pub ◌◃◌ : {A B : Type 0} → (B → A) → Shape B → Shape A
f ◃ p = seq (give f) p

infixr 15 ◌⇒◌∣◌
-- the first if the next token is of these kinds, else the second
abbrev pub ◌⇒◌∣◌ : {A : Type 0} → List TokenKind → Shape A → Shape A → Shape A
ks ⇒ p ∣ q = either ks p q

abbrev pub a_word : Word → List TokenKind
a_word which = kind.Word which ∷ []

abbrev pub a_mark : Mark → List TokenKind
a_mark which = kind.Mark which ∷ []

-- a word or a mark, of which the line is kept
abbrev pub word : Word → Shape ℕ
word which = token ((kind.Word which, λ bytes line. line) ∷ [])

abbrev pub mark : Mark → Shape ℕ
mark which = token ((kind.Mark which, λ bytes line. line) ∷ [])

abbrev pub name : Shape (List ℕ)
name = token ((kind.Name, λ bytes line. bytes) ∷ [])

abbrev pub name_and_line : Shape (List ℕ × ℕ)
name_and_line = token ((kind.Name, λ bytes line. (bytes, line)) ∷ [])

-- the bytes of a string
abbrev pub text : Shape (List ℕ)
text = token ((kind.Lit, λ bytes line. unquoted bytes) ∷ [])

abbrev pub word_row : {A : Type 0} → Word × A → TokenKind × (List ℕ → ℕ → A)
word_row row = (kind.Word row.0, λ bytes line. row.1)

-- a word of a table
abbrev pub words : {A : Type 0} → List (Word × A) → Shape A
words rows = token (map word_row rows)

abbrev pub snoc : {A : Type 0} → List A → A → List A
snoc xs x = xs ++ x ∷ []

abbrev pub single : {A : Type 0} → A → List A
single x = x ∷ []

abbrev pub many : {A : Type 0} → List TokenKind → Shape A → Shape (List A)
many ks p = folds ks snoc (give []) p

abbrev pub after_mark : {A : Type 0} → Mark → Shape A → Shape A
after_mark which p = (λ l x. x) ◃ mark which ⊛ p

-- one or more, with commas between them
abbrev pub separated : {A : Type 0} → Shape A → Shape (List A)
separated p = folds (a_mark m.Comma) snoc (single ◃ p) (after_mark m.Comma p)

-- a rule between brackets
abbrev pub between : (rule : Nonterminal) → Mark → Mark → Shape (NonterminalValue rule)
between rule open' close = nest rule open' close (λ l x l'. x)
