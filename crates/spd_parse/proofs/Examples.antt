-- Each shape spells something.
use Rattle.std.proofs.Common.{◌≡◌, ℕ, Bool, true, false, ◌&&◌, ◌||◌, List, [], ◌∷◌, ◌++◌, map, refl, inl, inr, ◌⊎◌}
use Rattle.spd_syntax.specs.declared.token.TokenKind.{TokenKind}
use Rattle.spd_syntax.specs.declared.token.TokenKind.TheVariants as kind
use Rattle.spd_syntax.specs.Tokens.{mark, Seen, symbol}
use Rattle.spd_syntax.specs.Symbols.{IsAnySymbol, bytes_of, kind_of}
use Rattle.spd_syntax.specs.Shape.{Shape, token, give, seq, either, folds, nest, Nonterminal, fst, IsToken, Spelling, Spells}
use Rattle.spd_syntax.specs.OneAhead.{plain, one_ahead, some, apart}
use Rattle.spd_syntax.specs.Limits.{opening, closing}
use Rattle.spd_syntax.proofs.KindSets.{both, same_kind-same}

-- some value has some spelling
pub record Example {A : Type 0} (S : A → List Seen → Type 0) : Type 0 where
  pub value : A
  pub text : List Seen
  pub is : S value text

kind_of-symbol : (k : TokenKind) (bytes : List ℕ) → kind_of (symbol k bytes) ≡ k
kind_of-symbol kind.Name bytes = refl
kind_of-symbol kind.Number bytes = refl
kind_of-symbol kind.Lit bytes = refl
kind_of-symbol (kind.Word which) bytes = refl
kind_of-symbol (kind.Mark which) bytes = refl

pub token_example : {A : Type 0} (table : List (TokenKind × (List ℕ → ℕ → A))) → some table ≡ true → Example (IsToken IsAnySymbol table)
token_example [] h = absurd cc
token_example (row ∷ rows) h =
    record {
      value = row.1 (bytes_of (symbol row.0 [])) 0;
      text = (symbol row.0 [], 0) ∷ [];
      is =
          record {
            token = (symbol row.0 [], 0);
            make = row.1;
            row = rw (kind_of-symbol row.0 [], same_kind-same row.0) refl;
            fits = tt;
            value = refl;
            text =
                refl;
          };
    }

module _ (inner : Spelling) where
  abbrev pub Examples : Type 0
  Examples = (rule : Nonterminal) → Example (inner rule)

  pub example : {A : Type 0} (p : Shape A) → one_ahead p ≡ true → (plain p ≡ true) ⊎ Examples → Example (Spells IsAnySymbol inner p)
  example (token table) fits e = token_example table (both (some table) (apart (map fst table) opening && apart (map fst table) closing) fits).0
  example (give a) fits e = record { value = a; text = []; is = (refl, refl) }
  example (seq p q) fits e =
      let h = both (one_ahead p) _ fits in
      let x = example p h.0 (left e) in
      let y = example q (both (one_ahead q) _ h.1).0 (right e) in
      record {
        value = x.value y.value;
        text = x.text ++ y.text;
        is = record
            { make = x.value; part = y.value; front = x.text; back = y.text; first = x.is; second = y.is; value = refl; text = refl };
      }
    where
      left : (plain p && plain q) ≡ true ⊎ Examples → (plain p ≡ true) ⊎ Examples
      left (inl h) = inl (both (plain p) (plain q) h).0
      left (inr h) = inr h

      right : (plain p && plain q) ≡ true ⊎ Examples → (plain q ≡ true) ⊎ Examples
      right (inl h) = inl (both (plain p) (plain q) h).1
      right (inr h) = inr h
  example (either ks p q) fits (inr h) =
      let x = example p (both (one_ahead p) _ fits).0 (inr h) in
      record { value = x.value; text = x.text; is = inl x.is }
  example {A} (either ks p q) fits (inl h) = by_test (plain p) refl h (λ g. example p (both (one_ahead p) _ fits).0 (inl g))
      (λ g. example q (both (one_ahead q) _ (both (one_ahead p) _ fits).1).0 (inl g))
    where
      by_test : (b : Bool) → plain p ≡ b → (b || plain q) ≡ true → (plain p ≡ true → Example (Spells IsAnySymbol inner p))
          → (plain q ≡ true → Example (Spells IsAnySymbol inner q)) → Example (λ a us. Spells IsAnySymbol inner p a us ⊎ Spells IsAnySymbol inner q a us)
      by_test true is h first second = let x = first is in record { value = x.value; text = x.text; is = inl x.is }
      by_test false is h first second = let x = second h in record { value = x.value; text = x.text; is = inr x.is }
  example (folds ks f p q) fits e =
      let x = example p (both (one_ahead p) _ fits).0 e in
      record {
        value = x.value;
        text = x.text ++ [];
        is = record {
          base = x.value;
          front = x.text;
          parts = [];
          first = x.is;
          each = tt;
          value = refl;
          text =
              refl;
        };
      }
  example (nest rule o c f) fits (inl h) = absurd cc
  example (nest rule o c f) fits (inr h) =
      let x = h rule in
      record {
        value = f 0 x.value 0;
        text = (mark o, 0) ∷ (x.text ++ (mark c, 0) ∷ []);
        is =
            record { line = 0; part = x.value; middle = x.text; end_line = 0; is = x.is; value = refl; text = refl };
      }
